use Rattle.std.proofs.Common.{◌≡◌, ◌++◌, take}
use Rattle.ovl_names.specs.Paths.{child_path}
use Rattle.ovl_layer.specs.LayerTrees.{entries_of_nodes, placed}
use Rattle.ovl_layer.proofs.trees.+push_entries.Given as goal

abbrev pub invariant-loop-child : goal.invariant-loop-child
invariant-loop-child l = l.entries.items ≡ l.initial.entries.items ++ placed (child_path l.above l.node.name) (entries_of_nodes (take l.child-index l.child-items))
