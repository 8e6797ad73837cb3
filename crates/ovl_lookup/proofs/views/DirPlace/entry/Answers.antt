use Rattle.std.proofs.Common.{[], List, ℕ, sym, ap, ◌∙◌}
use Rattle.ovl_names.specs.Paths.{PathNames, child_path}
use Rattle.ovl_layer.specs.Layers.{Entries, entry_at}
use Rattle.ovl_layer.specs.LayerTrees.{entries_under}
use Rattle.ovl_layer.specs.Sheets.{path_at}
use Rattle.ovl_layer.proofs.NodeLemmas.{entry_at-under}
use Rattle.ovl_lookup.proofs.DirViewLemmas.{entry-here}
use Rattle.ovl_lookup.proofs.views.DirPlace.entry.Goals as goal

pub returns-in_default : goal.returns-in_default
returns-in_default c =
    let layer : Entries = c.sheet-sheet.result.now in
    let path : PathNames = child_path (path_at layer c.args.self.now.row) c.args.name.now in
    entry-here c.args.stack.now c.args.name.now c.args.self.now layer c.sheet-sheet.ensures
    ∙ (entry_at-under path layer
    ∙ (ap (λ (name : List ℕ). entry_at (entries_under (child_path (path_at layer c.args.self.now.row) name) layer) []) (sym c.as_str.ensures.value) ∙ ap (λ (entries : Entries). entry_at entries []) c.in_default.ensures))
