use Rattle.std.proofs.Common.{◌≡◌, ℕ, Option, false, IfOk, List, sym, subst}
use Rattle.std.specs.Prelude.{MatchOption}
use Rattle.std.specs.List.{All}
use Rattle.std.proofs.lemmas.List.Elements.{All-drop}
use Rattle.ovl_names.specs.Names.{PathName}
use Rattle.ovl_names.specs.Paths.{PathNames}
use Rattle.ovl_layer.specs.Layers.{IsLayer}
use Rattle.ovl_lookup.specs.declared.views.DirView.{DirView}
use Rattle.ovl_lookup.specs.DirViews.{IsViewOf}
use Rattle.ovl_lookup.specs.Stacks.{StackView, from_layer}
use Rattle.ovl_lookup.specs.Merged.{AreKids, shows_directory}
use Rattle.ovl_lookup.proofs.LawsOfKids.{no-kids}
use Rattle.ovl_lookup.proofs.stacks.Stack.names.Goals as goal

-- what the view, or its absence, says
abbrev Made : (stack : StackView) (from : ℕ) (path : PathNames) → Option DirView → Type 0
Made stack from path found = MatchOption found (shows_directory (from_layer from stack) path ≡ false) (λ view. IsViewOf stack from path view)

pub names-requires : goal.names-requires
names-requires c =
    (subst (Made c.args.self.now c.args.from c.args.path.now) c.in-Some.is c.in_ok-view.ensures).over

pub returns-in-Some : goal.returns-in-Some
returns-in-Some c =
    let is = subst (Made c.args.self.now c.args.from c.args.path.now) c.in-Some.is c.in_ok-view.ensures in
    subst (λ (from : ℕ). IfOk c.names.result (λ names. AreKids (from_layer from c.args.self.now) c.args.path.now names.items)) is.starts
    (subst (λ (path : PathNames). IfOk c.names.result (λ names. AreKids (from_layer c.in-Some.view.from c.args.self.now) path names.items)) is.stands c.names.ensures)

pub returns-in-None : goal.returns-in-None
returns-in-None c =
    let each : All IsLayer c.args.self.now.layers = subst (λ (s : StackView). All IsLayer s.layers) c.self.view_is c.self.invariant.2 in
    subst (λ (names : List PathName). AreKids (from_layer c.args.from c.args.self.now) c.args.path.now names) (sym c.new.ensures.items)
    (no-kids (from_layer c.args.from c.args.self.now) (All-drop IsLayer c.args.from c.args.self.now.layers each) c.args.path.now (subst (Made c.args.self.now c.args.from c.args.path.now) c.in-None.is c.in_ok-view.ensures))
