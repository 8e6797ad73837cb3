use Rattle.std.proofs.Common.{◌≡◌, ◌+◌, ◌++◌, length, take, string_bytes}
use Rattle.std.specs.List.{flat_map}
use Rattle.ovl_names.specs.Paths.{PathNames, child_path}
use Rattle.ovl_layer.specs.LayerTrees.{entries_of_nodes, placed}
use Rattle.ovl_reports.specs.Reports.{shown_names}
use Rattle.ovl_reports.specs.LayerReports.{entry_line}
use Rattle.ovl_reports.proofs.layer_reports.+push_under.Given as goal

abbrev pub decreases-push_under : goal.decreases-push_under
decreases-push_under l = length l.node.now.below

-- the lines of what lies under the children so far, and how many entries that are
abbrev pub invariant-loop-child : goal.invariant-loop-child
invariant-loop-child l = record {
  lines : (dir : PathNames) → l.above ≡ shown_names dir → string_bytes l.report
      ≡ string_bytes l.initial.report ++ flat_map entry_line (placed (child_path dir l.node.name) (entries_of_nodes (take l.child-index l.children)));
  count : l.entries ≡ l.initial.entries + length (entries_of_nodes (take l.child-index l.children));
}
