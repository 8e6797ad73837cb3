use Rattle.std.proofs.Common.{◌≡◌, ◌≤◌, ◌++◌, length}
use Rattle.std.specs.Vec.{vec_capacity}
use Rattle.ovl_layer.specs.LayerTrees.{entries_of_nodes}
use Rattle.ovl_layer.specs.SheetPasses.{rows_from}
use Rattle.ovl_layer.proofs.sheets.+move_nodes.Given as goal

abbrev pub decreases-move_nodes : goal.decreases-move_nodes
decreases-move_nodes l = length (entries_of_nodes l.nodes.items)

abbrev pub invariant-loop-node : goal.invariant-loop-node
invariant-loop-node l = record {
  rows : l.rows.items ≡ l.initial.rows.items ++ rows_from l.parents l.afters (length l.initial.rows.items) (entries_of_nodes l.yielded);
  rest : l.yielded ++ l.node-iterator.rest.items ≡ l.fn.nodes.items;
  room : vec_capacity l.initial.rows ≤ vec_capacity l.rows;
}
