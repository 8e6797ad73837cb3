use Rattle.std.proofs.Common.{◌∙◌, sym, ap}
use Rattle.ovl_names.specs.Paths.{PathNames}
use Rattle.ovl_layer.specs.Layers.{Entries}
use Rattle.ovl_layer.specs.LayerTrees.{entries_under}
use Rattle.ovl_layer.specs.Sheets.{path_at}
use Rattle.ovl_layer.proofs.SheetLemmas.{root-path}
use Rattle.ovl_layer.proofs.sheets.Sheet.root.Goals as goal

pub returns-clause-value : goal.returns-clause-value
returns-clause-value c =
    ap (λ (path : PathNames). entries_under path c.args.self.now)
    (ap (λ (entries : Entries). path_at entries 0) (sym c.self.view_is) ∙ root-path _ _ _ c.self.invariant)
