use Rattle.std.proofs.Common.{◌≡◌, ◌∙◌, ◌≤◌, ℕ, Bor, Option, Some, None, List, length, sym, ap, subst, arith}
use Rattle.std.specs.Prelude.{slice_get, MatchOption}
use Rattle.std.specs.Option.{option_map}
use Rattle.ovl_layer.specs.declared.sheets.SheetRow.{SheetRow}
use Rattle.ovl_layer.specs.Layers.{Entries}
use Rattle.ovl_layer.specs.Sheets.{IsRowOf, IsSheet, entries_of_rows}
use Rattle.ovl_inode.specs.declared.marks.Mark.{Mark}
use Rattle.ovl_layer.proofs.SheetLemmas.{looked-up, none-past, count, row-of}
use Rattle.ovl_layer.proofs.sheets.Sheet.row.Goals as goal

by : (rows : List SheetRow) (below : List (List ℕ)) (marked : List Mark) (layer : Entries) (number : ℕ) → IsSheet rows below marked → entries_of_rows rows ≡ layer
    → (found : Option (Bor SheetRow)) → option_map (λ row. row.now) found ≡ slice_get rows number → MatchOption found (length layer ≤ number) (λ row. IsRowOf layer number row.now)
by rows below marked layer number is same None at = omega (arith, none-past rows number (sym at), ap length same, count rows below marked is)
by rows below marked layer number is same (Some row) at = subst (λ (entries : Entries). IsRowOf entries number row.now) same (row-of rows below marked is number row.now (sym at))

pub returns : goal.returns
returns c =
    by c.self.inside.rows.items _ _ c.args.self.now c.args.number c.self.invariant c.self.view_is c.get.result
    (looked-up c.get.result c.deref.result.now c.args.number c.get.ensures.lookup.0 c.get.ensures.lookup.1
    ∙ ap (λ (rows : List SheetRow). slice_get rows c.args.number) c.deref.ensures.value)
