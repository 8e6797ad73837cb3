use Rattle.std.proofs.Common.{◌≤◌, ◌-◌, length}
use Rattle.ovl_layer.specs.Sheets.{entries_of_rows}
use Rattle.ovl_layer.proofs.AfterLemmas.{AreSetFrom, IsUnderTo}
use Rattle.ovl_layer.proofs.sheets.set_afters.Given as goal

-- those from that number on are set
abbrev pub invariant-loop-number : goal.invariant-loop-number
invariant-loop-number l = record {
  set : AreSetFrom l.number l.fn.rows.items l.rows.items;
  within : l.number ≤ length l.fn.rows.items;
}

abbrev pub decreases-loop-number : goal.decreases-loop-number
decreases-loop-number l = l.number

-- the rows before `after` are under that of the number
abbrev pub invariant-loop-after : goal.invariant-loop-after
invariant-loop-after l = IsUnderTo (entries_of_rows l.fn.rows.items) l.number l.after

abbrev pub decreases-loop-after : goal.decreases-loop-after
decreases-loop-after l = length l.fn.rows.items - l.after
