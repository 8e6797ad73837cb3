use Rattle.std.proofs.Common.{◌≡◌, ◌∙◌, ℕ, List, sym, subst}
use Rattle.std.specs.List.{filter_map}
use Rattle.ovl_names.specs.Names.{PathName}
use Rattle.ovl_names.specs.Paths.{PathNames}
use Rattle.ovl_lookup.specs.declared.looks.Look.{Look}
use Rattle.ovl_lookup.specs.declared.views.DirView.{DirView}
use Rattle.ovl_lookup.specs.Stacks.{StackView, from_layer}
use Rattle.ovl_lookup.specs.DirViews.{IsViewOf, IsSought}
use Rattle.ovl_lookup.specs.ViewPasses.{AreLooks}
use Rattle.ovl_lookup.specs.ShownInodes.{named_shown, shown_inodes}
use Rattle.ovl_lookup.proofs.ShownInodeLemmas.{shown-listed, none-shown}
use Rattle.ovl_lookup.proofs.inodes.shown_inodes.Goals as goal

pub returns-in_default : goal.returns-in_default
returns-in_default c =
    let stack : StackView = c.args.stack.now in
    let dir : PathNames = c.args.dir.now in
    c.new.ensures.items
    ∙ none-shown stack c.ordinary-layers.ensures.each dir (subst (IsSought stack 0 dir) c.in_default.is c.in_ok-view.ensures)

pub returns : goal.returns
returns c =
    let stack : StackView = c.args.stack.now in
    let dir : PathNames = c.args.dir.now in
    let looks : List (PathName × Look) = c.in_ok-looks.looks.items in
    let view : DirView = c.in-Some.view in
    let is : IsViewOf stack 0 dir view = subst (IsSought stack 0 dir) c.in-Some.is c.in_ok-view.ensures in
    let placed : AreLooks (from_layer view.from stack) dir looks = subst (λ (path : PathNames). AreLooks (from_layer view.from stack) path looks) is.stands c.in_ok-looks.ensures in
    let same : shown_inodes stack dir ≡ filter_map named_shown looks =
    sym (shown-listed stack c.ordinary-layers.ensures.each dir looks (subst (λ (from : ℕ). AreLooks (from_layer from stack) dir looks) is.starts placed)) in
    rw same c.inodes_of.ensures
