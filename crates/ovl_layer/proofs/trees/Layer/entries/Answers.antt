use Rattle.std.proofs.Common.{◌++◌, append_assoc, List, take, sym, ◌∙◌, ap, rules, arith}
use Rattle.ovl_layer.specs.Layers.{Entries}
use Rattle.ovl_layer.specs.LayerTrees.{NodeView, entries_of_nodes, under, entries_from, placed}
use Rattle.ovl_names.specs.Paths.{PathNames, child_path}
use Rattle.std.proofs.lemmas.Grind.{common_steps}
use Rattle.ovl_layer.specs.Entries.{layer_of_pairs}
use Rattle.ovl_layer.proofs.BackLemmas.{pairs-back}
use Rattle.ovl_layer.proofs.NodeLemmas.{entries_of_nodes-more, placed_at-under}
use Rattle.ovl_layer.proofs.trees.Layer.entries.Goals as goal

pub loop-child-preserved : goal.loop-child-preserved
loop-child-preserved c =
    let nodes : List NodeView = c.deref-child-items.result.now in
    let node : NodeView = c.child-item.result in
    let more = entries_of_nodes-more nodes c.loop-child.child-index node c.loop-child-test.true c.child-item.is in
    let below = ap (λ (path : PathNames). placed (child_path path node.name) (entries_from node.inode node.below)) c.root-root.ensures ∙ placed_at-under node.name (entries_from node.inode node.below) in
    c.in_ok-push_entries.ensures
    ∙ ((λ j. c.loop-child.invariant j ++ below j)
    ∙ (append_assoc c.push.new.self.items (entries_of_nodes (take c.loop-child.child-index nodes)) (under node.name (entries_from node.inode node.below))
    ∙ ap (λ (rest : Entries). c.push.new.self.items ++ rest) (sym more)))

pub returns-clause-value : goal.returns-clause-value
returns-clause-value c = grind (arith, common_steps)

pub returns-clause-layer : goal.returns-clause-layer
returns-clause-layer c = search rules

pub returns-clause-back : goal.returns-clause-back
returns-clause-back c = ap layer_of_pairs (returns-clause-value c) ∙ pairs-back c.args.self.now (returns-clause-layer c)
