use Rattle.std.proofs.Common.{◌≡◌, ◌++◌, map}
use Rattle.std.specs.List.{AllByRecursion}
use Rattle.ovl_layer.specs.Layers.{names_below}
use Rattle.ovl_layer.specs.Sheets.{path_at}
use Rattle.ovl_layer.specs.RowsBelow.{LiesBelow}
use Rattle.ovl_lookup.specs.NamedLists.{names_of}
use Rattle.ovl_merge.specs.Candidates.{candidates_told}
use Rattle.ovl_merge.proofs.RowLemmas.{IsOwnRow}
use Rattle.ovl_merge.proofs.candidates.rows_in.Given as goal

-- the names so far, each with its row, and those of the rows that are left
abbrev pub invariant-loop-row : goal.invariant-loop-row
invariant-loop-row l = record {
  names : names_of (candidates_told l.rows.items) ++ map (λ row. row.1) l.row-iterator ≡ names_below l.sheet (path_at l.sheet l.directory);
  own : AllByRecursion (IsOwnRow l.side l.sheet (path_at l.sheet l.directory)) (candidates_told l.rows.items);
  rest : AllByRecursion (LiesBelow l.sheet (path_at l.sheet l.directory)) l.row-iterator;
}
