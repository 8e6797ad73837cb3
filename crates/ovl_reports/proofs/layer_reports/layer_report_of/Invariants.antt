use Rattle.std.proofs.Common.{◌≡◌, ◌+◌, length, take, string_bytes}
use Rattle.std.specs.List.{flat_map}
use Rattle.ovl_layer.specs.LayerTrees.{entries_of_nodes}
use Rattle.ovl_reports.specs.LayerReports.{entry_line}
use Rattle.ovl_reports.proofs.layer_reports.layer_report_of.Given as goal

-- the lines of what lies under the nodes so far, and how many entries that are beside the root
abbrev pub invariant-loop-node : goal.invariant-loop-node
invariant-loop-node l = record {
  lines : string_bytes l.report ≡ flat_map entry_line (entries_of_nodes (take l.node-index l.node-items));
  count : l.entries ≡ 1 + length (entries_of_nodes (take l.node-index l.node-items));
}
