use Rattle.std.proofs.Common.{◌≡◌, ◌++◌, take}
use Rattle.ovl_layer.specs.LayerTrees.{entries_of_nodes}
use Rattle.ovl_layer.proofs.trees.Layer.entries.Given as goal

abbrev pub invariant-loop-child : goal.invariant-loop-child
invariant-loop-child l = l.entries.items ≡ l.initial.entries.items ++ entries_of_nodes (take l.child-index l.child-items)
