use Rattle.std.proofs.Common.{◌≡◌, ◌∙◌, ◌∷◌, [], List, map, refl, sym, ap, subst}
use Rattle.std.specs.List.{All, AllByRecursion}
use Rattle.ovl_layer.specs.Layers.{Entries, IsLayer}
use Rattle.ovl_layer.specs.Sheets.{path_at}
use Rattle.ovl_layer.specs.RowsBelow.{NamedRow, LiesBelow}
use Rattle.ovl_layer.proofs.RowBelowLemmas.{rows-start, rows-next, rows-done}
use Rattle.ovl_lookup.specs.declared.tops.Top.{Top}
use Rattle.ovl_lookup.specs.Stacks.{StackView}
use Rattle.ovl_lookup.specs.Views.{ReachedDirectory}
use Rattle.ovl_lookup.specs.ViewPasses.{tops_told}
use Rattle.ovl_lookup.specs.DirViews.{place_in}
use Rattle.ovl_lookup.specs.NamedLists.{names_of}
use Rattle.ovl_lookup.proofs.TopLemmas.{names_in, StandHere, tops-here}
use Rattle.ovl_lookup.proofs.ViewLookLemmas.{names-here, row-named, row-stands, row-told}
use Rattle.ovl_lookup.proofs.tops.tops_in.Goals as goal

pub loop-row-init : goal.loop-row-init
loop-row-init c =
    let stack : StackView = c.args.stack.now in
    let place : ReachedDirectory = place_in stack c.args.place.now in
    let layer : Entries = c.sheet-sheet.result.now in
    let none : c.in_ok-tops.tops.items ≡ [] = c.in_ok-tops.ensures.items in
    record {
      names = rows-start (map (λ own. own.1)) c.into_iter-row-iterator.result c.below-rows.result (names_of (tops_told c.in_ok-tops.tops.items)) (names_in stack.layers place) c.into_iter-row-iterator.ensures.into_iter_gives (ap (λ (ts : List Top). names_of (tops_told ts)) none)
          (c.below-rows.ensures.names ∙ sym (names-here stack c.args.place.now layer c.sheet-sheet.ensures));
      stand = subst (λ (ts : List Top). StandHere stack.layers c.args.number place (tops_told ts)) (sym none) tt;
      rest = subst (AllByRecursion (LiesBelow layer (path_at layer c.args.place.now.row))) (sym c.into_iter-row-iterator.ensures.into_iter_gives) c.below-rows.ensures.each;
    }

pub loop-row-preserved : goal.loop-row-preserved
loop-row-preserved c =
    let stack : StackView = c.args.stack.now in
    let place : ReachedDirectory = place_in stack c.args.place.now in
    let layer : Entries = c.sheet-sheet.result.now in
    let row : NamedRow = (c.in-Some.row, c.in-Some.name.now) in
    let top : Top = record { name = c.in-Some.name; inode = c.inode.result; place = c.args.number } in
    let tops : List Top = c.loop-row.tops.items in
    let rest : AllByRecursion (LiesBelow layer (path_at layer c.args.place.now.row)) (row ∷ c.next.new.self) = subst (AllByRecursion (LiesBelow layer (path_at layer c.args.place.now.row))) c.in-Some.ensures.steps c.loop-row.invariant.rest in
    record {
      names = rows-next (map (λ own. own.1)) c.loop-row.row-iterator row c.next.new.self (names_of (tops_told tops)) (names_of (tops_told c.push.new.self.items)) (row.1 ∷ []) (names_in stack.layers place) c.in-Some.ensures.steps refl
          (ap (λ (ts : List Top). names_of (tops_told ts)) c.in_ok-push.ensures.items ∙ row-named tops top) c.loop-row.invariant.names;
      stand = subst (λ (ts : List Top). StandHere stack.layers c.args.number place (tops_told ts)) (sym c.in_ok-push.ensures.items)
          (row-told stack c.args.place.now layer c.sheet-sheet.ensures c.args.number tops top c.loop-row.invariant.stand refl
          (row-stands stack c.args.place.now layer c.sheet-sheet.ensures row c.inode.result.now rest.0 c.inode.ensures));
      rest = rest.1;
    }

pub returns : goal.returns
returns c =
    let stack : StackView = c.args.stack.now in
    let each : All IsLayer stack.layers = subst (λ (s : StackView). All IsLayer s.layers) c.stack.view_is c.stack.invariant.2 in
    tops-here stack.layers c.args.number (place_in stack c.args.place.now) each (tops_told c.loop-row.tops.items)
    (rows-done (map (λ own. own.1)) c.loop-row.row-iterator (names_of (tops_told c.loop-row.tops.items)) (names_in stack.layers (place_in stack c.args.place.now)) c.in-None.ensures.steps.0 refl c.loop-row.invariant.names)
    c.loop-row.invariant.stand
