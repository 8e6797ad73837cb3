use Rattle.std.proofs.Common.{◌<◌, ◌∙◌, [], length, refl, sym, ap, arith}
use Rattle.std.proofs.lemmas.Option.{slice_get_read}
use Rattle.ovl_layer.specs.Layers.{Entries, entry_at}
use Rattle.ovl_layer.specs.LayerTrees.{entries_under}
use Rattle.ovl_layer.specs.Sheets.{path_at}
use Rattle.ovl_layer.proofs.SheetLemmas.{count, inode-at}
use Rattle.ovl_layer.proofs.sheets.SheetPlace.inode.Goals as goal

pub index-requires : goal.index-requires
index-requires c = omega (arith, c.self.invariant, ap length c.sheet.view_is, count _ _ _ c.sheet.invariant, c.sheet.inside.rows.ok.0)

pub returns : goal.returns
returns c =
    let inside : c.self.inside.number < length c.sheet.inside.rows.items =
    omega (arith, c.self.invariant, ap length c.sheet.view_is, count _ _ _ c.sheet.invariant) in
    let at = slice_get_read c.sheet.inside.rows.items (length c.sheet.inside.rows.items) c.self.inside.number c.index.result.now refl inside c.index.ensures in
    ap (λ (entries : Entries). entry_at entries []) (sym c.self.view_is ∙ ap (λ (entries : Entries). entries_under (path_at entries c.self.inside.number) entries) (sym c.sheet.view_is))
    ∙ inode-at _ _ _ c.sheet.invariant c.self.inside.number c.index.result.now at
