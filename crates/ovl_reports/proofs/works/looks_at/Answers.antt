use Rattle.std.proofs.Common.{◌≡◌, ◌∙◌, ℕ, false, Option, List, map, sym, ap, subst}
use Rattle.std.specs.Prelude.{MatchOption}
use Rattle.ovl_names.specs.Paths.{PathNames}
use Rattle.ovl_lookup.specs.declared.views.DirView.{DirView}
use Rattle.ovl_lookup.specs.Stacks.{StackView, from_layer}
use Rattle.ovl_lookup.specs.Merged.{shows_directory}
use Rattle.ovl_lookup.specs.DirViews.{IsViewOf}
use Rattle.ovl_lookup.specs.ViewPasses.{AreLooks}
use Rattle.ovl_reports.specs.Directories.{NamedLook, named_look}
use Rattle.ovl_reports.proofs.DirectoryLemmas.{looks_unique, none_elsewhere}
use Rattle.ovl_reports.proofs.works.looks_at.Goals as goal

-- there is a view exactly if a directory is shown
abbrev IsFound : StackView → PathNames → Option DirView → Type 0
IsFound stack dir found = MatchOption found (shows_directory (from_layer 0 stack) dir ≡ false) (λ view. IsViewOf stack 0 dir view)

pub returns-in_default : goal.returns-in_default
returns-in_default c =
    let stack : StackView = c.args.stack.now in
    let dir : PathNames = c.args.dir.now in
    let none : shows_directory stack dir ≡ false = subst (IsFound stack dir) c.in_default.is c.in_ok-view.ensures in
    c.new.ensures.items ∙ sym (ap (map (named_look stack dir)) (none_elsewhere stack c.ordinary-layers.ensures.each dir none))

pub returns : goal.returns
returns c =
    let stack : StackView = c.args.stack.now in
    let dir : PathNames = c.args.dir.now in
    let looks : List NamedLook = c.in_ok-looks.looks.items in
    let view : DirView = c.in-Some.view in
    let is : IsViewOf stack 0 dir view = subst (IsFound stack dir) c.in-Some.is c.in_ok-view.ensures in
    let placed : AreLooks (from_layer view.from stack) dir looks = subst (λ (path : PathNames). AreLooks (from_layer view.from stack) path looks) is.stands c.in_ok-looks.ensures in
    looks_unique stack c.ordinary-layers.ensures.each dir looks (subst (λ (from : ℕ). AreLooks (from_layer from stack) dir looks) is.starts placed)
