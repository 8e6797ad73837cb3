use Rattle.std.proofs.Common.{◌≢◌, ◌∙◌, [], length, sym, ap, subst, arith}
use Rattle.ovl_names.specs.Paths.{PathNames}
use Rattle.ovl_layer.specs.Layers.{Entries}
use Rattle.ovl_layer.specs.LayerTrees.{entries_in, entries_under}
use Rattle.ovl_layer.specs.Sheets.{path_at}
use Rattle.ovl_layer.proofs.SheetLemmas.{entries_under-child, under-some}
use Rattle.ovl_layer.proofs.sheets.SheetPlaceLayerPlace.child.Goals as goal

pub returns-in-Some : goal.returns-in-Some
returns-in-Some c =
    let layer : Entries = c.self.inside.sheet.now in (
      ap (λ (path : PathNames). entries_under path layer) c.in-Some.ensures.1
          ∙ (entries_under-child (path_at layer c.self.inside.number) c.args.name.now layer ∙ ap (entries_in c.args.name.now) c.self.view_is),
      subst (λ (entries : Entries). entries_under (path_at entries c.in-Some.number) entries ≢ []) c.sheet.view_is
          (under-some _ _ _ c.sheet.invariant c.in-Some.number (omega (arith, c.in-Some.ensures.0, ap length c.sheet.view_is))),
    )

pub returns-in-None : goal.returns-in-None
returns-in-None c =
    let layer : Entries = c.self.inside.sheet.now in
    ap (entries_in c.args.name.now) (sym c.self.view_is)
    ∙ (sym (entries_under-child (path_at layer c.self.inside.number) c.args.name.now layer) ∙ c.in-None.ensures)
