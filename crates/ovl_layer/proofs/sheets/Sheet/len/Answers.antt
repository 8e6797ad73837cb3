use Rattle.std.proofs.Common.{◌≤◌, length, ap, arith}
use Rattle.std.proofs.lemmas.Bool.{leb-true}
use Rattle.ovl_layer.specs.Layers.{entry_limit}
use Rattle.ovl_layer.specs.Sheets.{entries_of_rows}
use Rattle.ovl_layer.proofs.SheetLemmas.{count}
use Rattle.ovl_layer.proofs.sheets.Sheet.len.Goals as goal

pub overflow_cast-result : goal.overflow_cast-result
overflow_cast-result c =
    let few : length (entries_of_rows c.self.inside.rows.items) ≤ 1048576 = leb-true (length (entries_of_rows c.self.inside.rows.items)) entry_limit c.self.invariant.are.layer.counted in
    omega (arith, few, c.len.ensures, count _ _ _ c.self.invariant, c.self.inside.rows.ok.0)

pub returns-clause-value : goal.returns-clause-value
returns-clause-value c = omega (arith, c.len.ensures, ap length c.self.view_is, count _ _ _ c.self.invariant, c.self.inside.rows.ok.0)
