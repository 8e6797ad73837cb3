use Rattle.std.proofs.Common.{◌≡◌, map, drop}
use Rattle.std.specs.List.{AllByRecursion}
use Rattle.ovl_layer.specs.Sheets.{path_at}
use Rattle.ovl_layer.specs.RowsBelow.{LiesBelow}
use Rattle.ovl_lookup.specs.Words.{top_layer}
use Rattle.ovl_vacuum.specs.Directories.{idle_name}
use Rattle.ovl_vacuum.proofs.RowLemmas.{ToldExcept}
use Rattle.ovl_vacuum.proofs.finish.mark_below.Given as goal

-- the names from this place on are those of the rows that are left
abbrev pub invariant-loop-row : goal.invariant-loop-row
invariant-loop-row l = record {
  among : ToldExcept l.stack l.directory l.row-iterator l.fn.idle.items l.idle.items;
  names : drop l.place l.names ≡ map (idle_name l.stack (path_at (top_layer l.stack) l.directory)) (map (λ row. row.1) l.row-iterator);
  rest : AllByRecursion (LiesBelow (top_layer l.stack) (path_at (top_layer l.stack) l.directory)) l.row-iterator;
}
