use Rattle.std.proofs.Common.{length, take}
use Rattle.ovl_layer.specs.LayerTrees.{entries_of_nodes}
use Rattle.ovl_layer.specs.SheetPasses.{AddsParents}
use Rattle.ovl_layer.proofs.sheets.+push_parents.Given as goal

abbrev pub invariant-loop-node : goal.invariant-loop-node
invariant-loop-node l = AddsParents l.directory l.initial.parents.items l.parents.items (entries_of_nodes (take l.node-index l.nodes))

abbrev pub decreases-push_parents : goal.decreases-push_parents
decreases-push_parents l = length (entries_of_nodes l.nodes.now)
