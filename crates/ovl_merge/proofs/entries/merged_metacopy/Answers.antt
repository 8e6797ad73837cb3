use Rattle.std.proofs.Common.{◌≡◌, ◌∙◌, None, sym, ap, subst}
use Rattle.std.specs.Prelude.{IfOk}
use Rattle.std.proofs.lemmas.Result.{IfOk-weaker}
use Rattle.ovl_inode.specs.declared.inodes.Inode.{Inode}
use Rattle.ovl_names.specs.Paths.{PathNames, child_path}
use Rattle.ovl_inode.specs.Attributes.{redirect_name}
use Rattle.ovl_merge.specs.Places.{merge_of, reach}
use Rattle.ovl_merge.specs.MergeDown.{with_value, kept_place}
use Rattle.ovl_merge.proofs.VisitLemmas.{not-some, contents-told, kept-told}
use Rattle.ovl_merge.proofs.EntryLemmas.{metacopy-on}
use Rattle.ovl_merge.proofs.entries.merged_metacopy.Goals as goal

pub redirected-requires-clause-place : goal.redirected-requires-clause-place
redirected-requires-clause-place c = rw c.in-Some.is at c.in_ok-place.ensures.reach

pub returns-in-Some-clause-inode : goal.returns-in-Some-clause-inode
returns-in-Some-clause-inode c =
    let m = merge_of c.args.stack.now in
    IfOk-weaker c.redirected.result _ _ (λ new h. metacopy-on m c.args.above.now.path c.args.name_in_both.now.name.now c.args.found.now.inode.now c.in_ok-shown.shown c.in_ok-shown.ensures new
    (rw c.in-Some.is at c.in_ok-place.ensures.goes) c.in_ok-copied.copied c.in_ok-copied.ensures h) c.redirected.ensures

pub returns-in-Some-2-clause-inode : goal.returns-in-Some-2-clause-inode
returns-in-Some-2-clause-inode c =
    let m = merge_of c.args.stack.now in
    let path : PathNames = child_path c.args.above.now.path c.args.name_in_both.now.name.now in
    let none : reach m path ≡ None = sym (rw (not-some c.in_ok-place.field-0 c.in_default.not-Some) at c.in_ok-place.ensures.reach) in
    let kept = c.in_ok-kept.ensures ∙ ap (kept_place m) c.in_ok-path.ensures in
    subst (λ (i : Inode). IfOk c.with_value-in-Some-2-2.result (λ new. new ≡ i))
    (ap (with_value c.in_ok-copied-2.copied redirect_name) (c.as_bytes.ensures.value ∙ c.in_ok-text.ensures)
    ∙ kept-told m path c.args.found.now.inode.now c.in_ok-shown.shown c.in_ok-shown.ensures (reach m path) none c.in_ok-kept.field-0 kept c.in-Some-2.kept c.in-Some-2.is c.in_ok-copied-2.copied c.in_ok-copied-2.ensures) c.with_value-in-Some-2-2.ensures

pub returns-clause-inode : goal.returns-clause-inode
returns-clause-inode c =
    let m = merge_of c.args.stack.now in
    let path : PathNames = child_path c.args.above.now.path c.args.name_in_both.now.name.now in
    let none : reach m path ≡ None = sym (rw (not-some c.in_ok-place.field-0 c.in_default.not-Some) at c.in_ok-place.ensures.reach) in
    let kept = c.in_ok-kept.ensures ∙ ap (kept_place m) c.in_ok-path.ensures in
    subst (λ (i : Inode). IfOk c.with_contents.result (λ new. new ≡ i))
    (contents-told c.args.stack.now c.requires.several path c.args.found.now.inode.now c.in_ok-shown.shown c.in_ok-shown.ensures (reach m path) none c.in_ok-kept.field-0 kept (not-some c.in_ok-kept.field-0 c.in_default-2.not-Some) c.in_ok-contents.contents c.in_ok-contents.ensures.look) c.with_contents.ensures
