use Rattle.std.proofs.Common.{◌≡◌, ◌++◌, true, length, take, string_bytes}
use Rattle.ovl_names.specs.Paths.{PathNames, child_path}
use Rattle.ovl_manifest.specs.Compact.{entries_text}
use Rattle.ovl_layer.specs.LayerTrees.{entries_of_nodes, placed}
use Rattle.ovl_layer.specs.TextPaths.{slashed}
use Rattle.ovl_manifest.proofs.writing.+push_under.Given as goal

abbrev pub decreases-push_under : goal.decreases-push_under
decreases-push_under l = length l.node.now.below

-- what lies under the nodes so far, and the path is the node's again
abbrev pub invariant-loop-child : goal.invariant-loop-child
invariant-loop-child l =
    ((directory : PathNames) → string_bytes l.fn.path ≡ slashed directory
    → l.text.items ≡ l.initial.text.items ++ entries_text true (placed (child_path directory l.node.name) (entries_of_nodes (take l.child-index l.child-items))))
    × (string_bytes l.path ≡ string_bytes l.initial.path)
