use Rattle.std.proofs.Common.{◌∙◌, [], sym, ap}
use Rattle.std.specs.Option.{option_map}
use Rattle.ovl_inode.specs.Marks.{mark_of}
use Rattle.ovl_layer.specs.Layers.{Entries, entry_at}
use Rattle.ovl_layer.specs.Sheets.{path_at}
use Rattle.ovl_layer.proofs.NodeLemmas.{entry_at-under}
use Rattle.ovl_layer.proofs.sheets.SheetPlace.mark.Goals as goal

pub returns : goal.returns
returns c =
    ap (λ (entries : Entries). option_map mark_of (entry_at entries [])) (sym c.self.view_is)
    ∙ (ap (option_map mark_of) (sym (entry_at-under (path_at c.self.inside.sheet.now c.self.inside.number) c.self.inside.sheet.now))
    ∙ c.mark.ensures)
