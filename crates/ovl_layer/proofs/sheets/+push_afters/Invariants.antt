use Rattle.std.proofs.Common.{◌≡◌, ◌++◌, length, take}
use Rattle.ovl_layer.specs.LayerTrees.{entries_of_nodes}
use Rattle.ovl_layer.specs.Sheets.{afters_from}
use Rattle.ovl_layer.proofs.sheets.+push_afters.Given as goal

abbrev pub invariant-loop-node : goal.invariant-loop-node
invariant-loop-node l = l.afters.items ≡ l.initial.afters.items ++ afters_from (length l.initial.afters.items) (entries_of_nodes (take l.node-index l.nodes))

abbrev pub decreases-push_afters : goal.decreases-push_afters
decreases-push_afters l = length (entries_of_nodes l.nodes.now)
