use Rattle.std.proofs.Common.{◌≡◌, ◌++◌, length, take}
use Rattle.ovl_layer.specs.LayerTrees.{entries_of_nodes}
use Rattle.ovl_layer.proofs.SheetPassLemmas.{marks_of}
use Rattle.ovl_layer.proofs.sheets.+push_marks.Given as goal

abbrev pub invariant-loop-node : goal.invariant-loop-node
invariant-loop-node l = l.marks ≡ l.initial.marks ++ marks_of (entries_of_nodes (take l.node-index l.nodes))

abbrev pub decreases-push_marks : goal.decreases-push_marks
decreases-push_marks l = length (entries_of_nodes l.nodes.now)
