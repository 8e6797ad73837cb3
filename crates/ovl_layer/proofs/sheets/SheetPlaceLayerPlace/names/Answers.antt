use Rattle.std.proofs.Common.{◌∙◌, [], map, refl, ap}
use Rattle.ovl_layer.specs.Layers.{Entries, names_below}
use Rattle.ovl_layer.specs.Sheets.{path_at}
use Rattle.ovl_layer.proofs.NodeLemmas.{names_below-under}
use Rattle.ovl_layer.proofs.RowBelowLemmas.{rows-done}
use Rattle.ovl_layer.proofs.sheets.SheetPlaceLayerPlace.names.Goals as goal

pub returns : goal.returns
returns c =
    rows-done (map (λ row. row.1)) c.loop-name.name-iterator c.loop-name.names.items _ c.in-None.ensures.steps.0 refl c.loop-name.invariant
    ∙ (ap (map (λ row. row.1)) c.into_iter-name-iterator.ensures.into_iter_gives
    ∙ (c.below-rows.ensures.names
    ∙ (names_below-under (path_at c.self.inside.sheet.now c.self.inside.number) c.self.inside.sheet.now
    ∙ ap (λ (layer : Entries). names_below layer []) c.self.view_is)))
