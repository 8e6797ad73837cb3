use Rattle.std.proofs.Common.{◌≡◌, map, take}
use Rattle.ovl_inode.specs.Marks.{mark_of}
use Rattle.ovl_layer.proofs.sheets.Sheet.of_rows.Given as goal

-- those of the rows so far
abbrev pub invariant-loop-row : goal.invariant-loop-row
invariant-loop-row l = record {
  parents : l.parents.items ≡ map (λ row. row.parent) (take l.row-index l.fn.rows.items);
  marks : l.marks ≡ map (λ row. mark_of row.inode) (take l.row-index l.fn.rows.items);
}
