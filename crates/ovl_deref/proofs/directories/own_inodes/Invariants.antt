use Rattle.std.proofs.Common.{◌≡◌, ◌++◌, map}
use Rattle.std.specs.Prelude.{IfSome}
use Rattle.std.specs.List.{AllByRecursion, filter_map}
use Rattle.ovl_layer.specs.RowsBelow.{LiesBelow}
use Rattle.ovl_lookup.specs.DirViews.{IsViewOf}
use Rattle.ovl_lookup.specs.Words.{top_layer}
use Rattle.ovl_deref.specs.Directories.{inodes_in, named_inode}
use Rattle.ovl_deref.proofs.directories.own_inodes.Given as goal

-- those of the rows so far, and of those that are left
abbrev pub invariant-loop-number : goal.invariant-loop-number
invariant-loop-number l = record {
  listed : l.inodes.items ++ filter_map (named_inode l.stack l.dir) (map (λ row. row.1) l.number-iterator) ≡ inodes_in l.stack l.dir;
  view : IfSome l.view (IsViewOf l.stack 0 l.dir);
  rest : AllByRecursion (LiesBelow (top_layer l.stack) l.dir) l.number-iterator;
}
