use Rattle.std.proofs.Common.{◌≡◌, ◌<◌, ℕ, ap, subst, List, Some, length, arith}
use Rattle.std.specs.Option.{option_map}
use Rattle.std.proofs.lemmas.List.{length-map}
use Rattle.ovl_inode.specs.declared.marks.Mark.{Mark}
use Rattle.ovl_inode.specs.Marks.{mark_of}
use Rattle.ovl_layer.specs.declared.sheets.SheetRow.{SheetRow}
use Rattle.ovl_layer.specs.Layers.{Entries, entry_at}
use Rattle.ovl_layer.specs.Sheets.{path_at, IsSheet, entries_of_rows}
use Rattle.ovl_layer.proofs.SheetLemmas.{count, mark-at}
use Rattle.ovl_layer.proofs.sheets.Sheet.mark.Goals as goal

-- there is a mark for each row
within : (rows : List SheetRow) (below : List (List ℕ)) (marked : List Mark) (layer : Entries) (number : ℕ) → IsSheet rows below marked → entries_of_rows rows ≡ layer → number < length layer → number < length marked
within rows below marked layer number is same inside =
    omega (arith, inside, ap length same, count rows below marked is, ap length is.marks, length-map rows (λ (row : SheetRow). mark_of row.inode))

pub at-requires : goal.at-requires
at-requires c = within _ _ _ c.args.self.now c.args.number c.self.invariant c.self.view_is c.requires

pub returns : goal.returns
returns c =
    subst (λ (layer : Entries). option_map mark_of (entry_at layer (path_at layer c.args.number)) ≡ Some c.at.result.now) c.self.view_is
    (mark-at _ _ _ c.self.invariant c.args.number c.at.result.now (omega (arith, c.requires, ap length c.self.view_is)) c.at.ensures)
