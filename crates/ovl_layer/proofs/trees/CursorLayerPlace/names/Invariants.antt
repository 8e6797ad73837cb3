use Rattle.std.proofs.Common.{◌≡◌, [], take}
use Rattle.ovl_layer.specs.Layers.{names_below}
use Rattle.ovl_layer.specs.LayerTrees.{entries_of_nodes}
use Rattle.ovl_layer.proofs.trees.CursorLayerPlace.names.Given as goal

abbrev pub invariant-loop-child : goal.invariant-loop-child
invariant-loop-child l = l.names.items ≡ names_below (entries_of_nodes (take l.child-index l.child-items)) []
