use Rattle.std.proofs.Common.{ℕ, ◌<◌, ◌≤◌, Option, Some, None, Bor, IsSome, MatchOption, length, rules, arith}
use Rattle.ovl_layer.specs.declared.sheets.SheetRow.{SheetRow}
use Rattle.ovl_layer.specs.Layers.{Entries}
use Rattle.ovl_layer.specs.Sheets.{IsRowOf}
use Rattle.ovl_vacuum.proofs.RowLemmas.{parent-row}
use Rattle.ovl_vacuum.proofs.places.directory_of.Goals as goal

there : (layer : Entries) (number : ℕ) (found : Option (Bor SheetRow)) → number < length layer → MatchOption found (length layer ≤ number) (λ row. IsRowOf layer number row.now) → IsSome found
there layer number None inside past = absurd (omega (arith, inside, past))
there layer number (Some row) inside is = search rules

pub unwrap-requires : goal.unwrap-requires
unwrap-requires c = there c.args.sheet.now c.args.number c.row.result c.requires c.row.ensures

pub returns-clause-inside : goal.returns-clause-inside
returns-clause-inside c =
    let row = rw c.unwrap.ensures at c.row.ensures in
    (parent-row c.args.sheet.now c.args.number c.unwrap.result.now.parent row.parent).0

pub returns-clause-path : goal.returns-clause-path
returns-clause-path c =
    let row = rw c.unwrap.ensures at c.row.ensures in
    (parent-row c.args.sheet.now c.args.number c.unwrap.result.now.parent row.parent).1
