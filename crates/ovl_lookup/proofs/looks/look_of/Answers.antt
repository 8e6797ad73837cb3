use Rattle.std.proofs.Common.{◌≡◌, ◌∙◌, true, None, Option, List, IfOk, sym, ap, subst}
use Rattle.std.specs.Prelude.{◌&&◌}
use Rattle.ovl_inode.specs.declared.inodes.Inode.{Inode}
use Rattle.ovl_inode.specs.Marks.{is_regular, has_metacopy}
use Rattle.ovl_lookup.specs.declared.hits.Hit.{Hit}
use Rattle.ovl_lookup.specs.declared.looks.Look.{Look}
use Rattle.ovl_lookup.specs.Stacks.{StackView}
use Rattle.ovl_lookup.specs.Merged.{shown_of}
use Rattle.ovl_lookup.specs.Passes.{data_below, shown_with}
use Rattle.ovl_lookup.specs.Hits.{found_by, found_of}
use Rattle.ovl_lookup.proofs.ViewLookLemmas.{lacking-data, shown-lacking}
use Rattle.ovl_lookup.proofs.looks.look_of.Goals as goal

pub returns : goal.returns
returns c =
    let stack : StackView = c.args.stack.now in
    let inode : Inode = c.in-Some.hit.found.inode.now in
    let below : List Inode = found_by stack c.in-Some.hit.below in
    let lacks : (is_regular inode && has_metacopy inode) ≡ true = sym c.lacks_contents.ensures ∙ c.if-not-lacks_contents.false in
    let same = ap (shown_with inode) (c.in_ok-contents.ensures ∙ (ap (λ (first : Option Hit). data_below stack.data_only None (found_of stack first)) c.in-Some.is ∙ sym (lacking-data stack.data_only inode below lacks)))
    ∙ (sym (shown-lacking stack.data_only inode below lacks)
    ∙ sym (ap (λ (first : Option Hit). shown_of stack.data_only (found_of stack first)) c.in-Some.is)) in
    subst (λ (wanted : Look). IfOk c.metacopy_shown.result (λ look. look ≡ wanted)) same c.metacopy_shown.ensures
