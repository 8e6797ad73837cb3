use Rattle.std.proofs.Common.{◌≡◌, ◌<◌, ap, subst, refl, Some, length, arith}
use Rattle.std.proofs.lemmas.Option.{slice_get_read}
use Rattle.ovl_layer.specs.Layers.{Entries, entry_at}
use Rattle.ovl_layer.specs.Sheets.{path_at}
use Rattle.ovl_layer.proofs.SheetLemmas.{count, entry_at-row}
use Rattle.ovl_layer.proofs.sheets.Sheet.inode.Goals as goal

pub index-requires : goal.index-requires
index-requires c = omega (arith, c.requires, ap length c.self.view_is, count _ _ _ c.self.invariant, c.self.inside.rows.ok.0)

pub returns : goal.returns
returns c =
    let inside : c.args.number < length c.self.inside.rows.items =
    omega (arith, c.requires, ap length c.self.view_is, count _ _ _ c.self.invariant) in
    let at = slice_get_read c.self.inside.rows.items (length c.self.inside.rows.items) c.args.number c.index.result.now refl inside c.index.ensures in
    subst (λ (layer : Entries). entry_at layer (path_at layer c.args.number) ≡ Some c.index.result.now.inode) c.self.view_is
    (entry_at-row _ _ _ c.self.invariant c.args.number c.index.result.now at)
