use Rattle.std.proofs.Common.{◌≡◌, ◌++◌, map, All}
use Rattle.std.specs.List.{AllByRecursion}
use Rattle.ovl_layer.specs.Sheets.{path_at}
use Rattle.ovl_layer.specs.RowsBelow.{LiesBelow}
use Rattle.ovl_check.specs.Facts.{child_seen, held_in, IsChildMarked}
use Rattle.ovl_check.proofs.HeldLemmas.{held_rows}
use Rattle.ovl_check.proofs.directories.children_in.Given as goal

-- what was gathered so far, and what the rows that are left hold
abbrev pub invariant-loop-number : goal.invariant-loop-number
invariant-loop-number l = record {
  seen : map child_seen l.children.items ++ held_rows l.sheet (path_at l.sheet l.row) l.number-iterator ≡ held_in l.sheet (path_at l.sheet l.row);
  marks : All IsChildMarked l.children.items;
  rest : AllByRecursion (LiesBelow l.sheet (path_at l.sheet l.row)) l.number-iterator;
}
