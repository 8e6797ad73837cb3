-- Each child has fewer entries below it than its node.
use Rattle.std.specs.Prelude.{◌≡◌, ◌+◌, ◌≤◌, List, [], ◌∷◌, length}
use Rattle.std.proofs.Common.{arith, length-append, refl, ap, suc}
use denote.Param.Weighed.{most}
use Rattle.ovl_names.specs.Names.{PathName}
use Rattle.ovl_layer.specs.Layers.{Entries}
use Rattle.ovl_layer.specs.LayerTrees.{NodeView, entries_from, entries_of_nodes, under}

-- as many entries are under a name
pub length-under : (name : PathName) (entries : Entries)
    → length (under name entries) ≡ length entries
length-under name [] = refl
length-under name (entry ∷ entries) = ap suc (length-under name entries)

pub most_le-length-entries_of_nodes : (nodes : List NodeView)
    → most (λ node. length node.below + 1) nodes ≤ length (entries_of_nodes nodes)
most_le-length-entries_of_nodes [] = omega arith
most_le-length-entries_of_nodes (node ∷ nodes) =
    omega (
      arith,
      most_le-length-entries_of_nodes nodes,
      length-append
          (under node.name (entries_from node.inode node.below))
          (entries_of_nodes nodes),
      length-under node.name (entries_from node.inode node.below),
    )
