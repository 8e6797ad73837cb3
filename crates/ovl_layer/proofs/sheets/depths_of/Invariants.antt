use Rattle.ovl_layer.specs.Sheets.{entries_of_rows}
use Rattle.ovl_layer.proofs.AfterLemmas.{AreDepthsTo}
use Rattle.ovl_layer.proofs.sheets.depths_of.Given as goal

-- those so far
abbrev pub invariant-loop-row : goal.invariant-loop-row
invariant-loop-row l = AreDepthsTo (entries_of_rows l.rows) l.row-index l.depths.items
