use Rattle.std.proofs.Common.{◌≡◌, ◌∙◌, true, false, None, refl, sym, subst}
use Rattle.std.specs.Prelude.{IfOk}
use Rattle.std.proofs.lemmas.Result.{IfOk-weaker}
use Rattle.ovl_inode.specs.declared.inodes.Inode.{Inode}
use Rattle.ovl_names.specs.Paths.{PathNames, child_path}
use Rattle.ovl_lookup.specs.declared.looks.Look.{Look}
use Rattle.ovl_lookup.specs.Words.{look_on}
use Rattle.ovl_merge.specs.Places.{merge_of, reach, base, child_of}
use Rattle.ovl_merge.proofs.VisitLemmas.{not-some}
use Rattle.ovl_merge.proofs.EntryLemmas.{directory-on, hides-told, directory-apart}
use Rattle.ovl_merge.proofs.entries.merged_directory.Goals as goal

pub redirected-requires-clause-place : goal.redirected-requires-clause-place
redirected-requires-clause-place c = rw c.in-Some.is at c.in_ok-place.ensures.reach

pub returns-in-Some : goal.returns-in-Some
returns-in-Some c =
    let m = merge_of c.args.stack.now in
    IfOk-weaker c.redirected.result _ _ (λ new h. directory-on m c.args.above.now.path c.args.name_in_both.now.name.now c.args.found.now.inode.now c.in_ok-shown.shown c.in_ok-shown.ensures new
    (rw c.in-Some.is at c.in_ok-place.ensures.goes) h) c.redirected.ensures

pub returns-then-is_directory : goal.returns-then-is_directory
returns-then-is_directory c =
    let m = merge_of c.args.stack.now in
    let above = c.args.above.now in
    let name = c.args.name_in_both.now.name.now in
    let inode = c.args.found.now.inode.now in
    let path : PathNames = child_path above.path name in
    let none : reach m path ≡ None = sym (rw (not-some c.in_ok-place.field-0 c.in_default.not-Some) at c.in_ok-place.ensures.reach) in
    let hidden : Look = look_on m.rest (child_of (base m above.path) name) in
    let hides = hides-told m above name inode c.args.name_in_both.now c.requires.first.name_in_both c.requires.first.first c.requires.directory none hidden refl true (sym c.if-is_directory.true ∙ c.is_directory.ensures hidden c.shown_kind-hidden.ensures) in
    subst (λ (i : Inode). IfOk c.with_value.result (λ new. new ≡ i)) (directory-apart m path inode c.in_ok-shown.shown c.in_ok-shown.ensures none true hides) c.with_value.ensures

pub returns : goal.returns
returns c =
    let m = merge_of c.args.stack.now in
    let above = c.args.above.now in
    let name = c.args.name_in_both.now.name.now in
    let inode = c.args.found.now.inode.now in
    let path : PathNames = child_path above.path name in
    let none : reach m path ≡ None = sym (rw (not-some c.in_ok-place.field-0 c.in_default.not-Some) at c.in_ok-place.ensures.reach) in
    let hidden : Look = look_on m.rest (child_of (base m above.path) name) in
    let hides = hides-told m above name inode c.args.name_in_both.now c.requires.first.name_in_both c.requires.first.first c.requires.directory none hidden refl false (sym c.if-is_directory.false ∙ c.is_directory.ensures hidden c.shown_kind-hidden.ensures) in
    directory-apart m path inode c.in_ok-shown.shown c.in_ok-shown.ensures none false hides
