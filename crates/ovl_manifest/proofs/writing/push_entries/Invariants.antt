use Rattle.std.proofs.Common.{◌≡◌, ◌++◌, [], true, take, string_bytes}
use Rattle.ovl_manifest.specs.Compact.{entries_text}
use Rattle.ovl_layer.specs.LayerTrees.{entries_of_nodes}
use Rattle.ovl_manifest.proofs.writing.push_entries.Given as goal

-- what lies under the nodes so far, and the path is the root's again
abbrev pub invariant-loop-child : goal.invariant-loop-child
invariant-loop-child l =
    (l.text.items ≡ l.initial.text.items ++ entries_text true (entries_of_nodes (take l.child-index l.child-items)))
    × (string_bytes l.path ≡ [])
