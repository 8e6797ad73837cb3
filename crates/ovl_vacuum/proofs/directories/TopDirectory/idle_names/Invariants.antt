use Rattle.std.proofs.Common.{◌≡◌, ◌++◌, map}
use Rattle.std.specs.Prelude.{IfSome}
use Rattle.std.specs.List.{AllByRecursion}
use Rattle.ovl_layer.specs.RowsBelow.{LiesBelow}
use Rattle.ovl_lookup.specs.DirViews.{IsViewOf}
use Rattle.ovl_lookup.specs.Words.{top_layer}
use Rattle.ovl_vacuum.specs.Directories.{idle_name, vacuum_out}
use Rattle.ovl_vacuum.proofs.directories.TopDirectory.idle_names.Given as goal

-- those of the rows so far, and of those that are left
abbrev pub invariant-loop-row : goal.invariant-loop-row
invariant-loop-row l = record {
  whole : IfSome l.whole (IsViewOf l.self.stack.now 0 l.self.piece.now.dir);
  names : l.names.items ++ map (idle_name l.self.stack.now l.self.piece.now.dir) (map (λ row. row.1) l.row-iterator) ≡ vacuum_out l.self.stack.now l.self.piece.now;
  rest : AllByRecursion (LiesBelow (top_layer l.self.stack.now) l.self.piece.now.dir) l.row-iterator;
}
