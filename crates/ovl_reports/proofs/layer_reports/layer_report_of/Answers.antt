use Rattle.std.proofs.Common.{◌≡◌, ◌++◌, ◌∷◌, [], ◌∙◌, List, length, take, string_bytes, sym, ap, arith, decimal, refl}
use Rattle.std.specs.Prelude.{codes}
use Rattle.std.specs.List.{flat_map}
use Rattle.std.proofs.lemmas.List.{take_all}
use Rattle.std.proofs.lemmas.List.Concat.{flat_map-append}
use Rattle.ovl_inode.specs.declared.inodes.Inode.{Inode}
use Rattle.ovl_layer.specs.Layers.{Entries}
use Rattle.ovl_layer.specs.LayerTrees.{NodeView, entries_of_nodes, under, entries_from, placed}
use Rattle.ovl_layer.proofs.NodeLemmas.{entries_of_nodes-more, placed_at-under}
use Rattle.ovl_reports.specs.LayerReports.{entry_line}
use Rattle.ovl_reports.proofs.LayerReportSteps.{one_more_counted}
use Rattle.ovl_reports.proofs.layer_reports.layer_report_of.Goals as goal

pub loop-node-preserved : goal.loop-node-preserved
loop-node-preserved c =
    let nodes : List NodeView = c.children-node-items.result.now in
    let node : NodeView = c.node-item.result in
    let done : Entries = entries_of_nodes (take c.loop-node.node-index nodes) in
    let own : Entries = under node.name (entries_from node.inode node.below) in
    let more = entries_of_nodes-more nodes c.loop-node.node-index node c.loop-node-test.true c.node-item.is in
    let counted = one_more_counted nodes c.loop-node.node-index node c.loop-node-test.true c.node-item.is in
    let lines : string_bytes c.push_under.new.report ≡ string_bytes c.loop-node.report ++ flat_map entry_line (placed (node.name ∷ []) (entries_from node.inode node.below)) = c.in_ok-push_under.ensures.lines [] refl in
    record {
      lines = lines
          ∙ ((λ j. c.loop-node.invariant.lines j ++ flat_map entry_line (placed_at-under node.name (entries_from node.inode node.below) j))
          ∙ (sym (flat_map-append entry_line done own) ∙ ap (flat_map entry_line) (sym more)));
      count = omega (arith, c.in_ok-push_under.ensures.count, c.loop-node.invariant.count, counted);
    }

pub returns-clause-value : goal.returns-clause-value
returns-clause-value c =
    let nodes : List NodeView = c.children-node-items.result.now in
    let layer : Entries = c.args.layer.now in
    let inode : Inode = c.children-node-items.ensures.0 in
    let told : List NodeView = take c.loop-node.node-index nodes in
    let whole : entries_from inode (entries_of_nodes told) ≡ layer =
    ap (λ (ns : List NodeView). entries_from inode (entries_of_nodes ns)) (take_all c.loop-node.node-index nodes c.loop-node-test.false) ∙ (sym c.children-node-items.ensures.1 ∙ c.root.ensures.value) in
    let lines : string_bytes c.loop-node.report ≡ flat_map entry_line layer = c.loop-node.invariant.lines ∙ ap (flat_map entry_line) whole in
    let count : c.loop-node.entries ≡ length layer = omega (arith, c.loop-node.invariant.count, ap length whole) in
    ap (λ v. v.items) c.into_bytes.ensures.value
    ∙ (c.in_ok-push_count.ensures ∙ (λ j. lines j ++ codes "entries " ++ decimal (count j) ++ codes "\n"))
