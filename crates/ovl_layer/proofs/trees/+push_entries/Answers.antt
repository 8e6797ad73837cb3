use Rattle.std.proofs.Common.{◌≡◌, ◌++◌, ◌∷◌, [], append_assoc, List, take, sym, ◌∙◌, ap}
use Rattle.std.proofs.lemmas.List.{take_all, append-nil}
use Rattle.ovl_inode.specs.declared.inodes.Inode.{Inode}
use Rattle.ovl_layer.specs.Layers.{Entries}
use Rattle.ovl_layer.specs.LayerTrees.{NodeView, entries_of_nodes, under, entries_from, placed}
use Rattle.ovl_names.specs.Paths.{PathNames, child_path}
use Rattle.ovl_layer.proofs.NodeLemmas.{entries_of_nodes-more, placed-under, placed-append}
use Rattle.ovl_layer.proofs.trees.+push_entries.Goals as goal

pub loop-child-preserved : goal.loop-child-preserved
loop-child-preserved n c =
    let nodes : List NodeView = c.deref-child-items.result.now in
    let node : NodeView = c.child-item.result in
    let path : PathNames = child_path c.args.above.now c.args.node.now.name in
    let more = entries_of_nodes-more nodes c.loop-child.child-index node c.loop-child-test.true c.child-item.is in
    let below = ap (λ (p : PathNames). placed (child_path p node.name) (entries_from node.inode node.below)) (c.in_ok-path.ensures ∙ ap (λ (own : NodeView). child_path c.args.above.now own.name) c.node.view_is) ∙ sym (placed-under path node.name (entries_from node.inode node.below)) in
    c.in_ok-push_entries.ensures
    ∙ ((λ j. c.loop-child.invariant j ++ below j)
    ∙ (append_assoc c.push.new.self.items (placed path (entries_of_nodes (take c.loop-child.child-index nodes))) (placed path (under node.name (entries_from node.inode node.below)))
    ∙ ap (λ (rest : Entries). c.push.new.self.items ++ rest) (sym (placed-append path (entries_of_nodes (take c.loop-child.child-index nodes)) (under node.name (entries_from node.inode node.below))) ∙ ap (placed path) (sym more))))

pub returns : goal.returns
returns n c =
    let nodes : List NodeView = c.deref-child-items.result.now in
    let path : PathNames = child_path c.args.above.now c.args.node.now.name in
    let below : Entries = c.args.node.now.below in
    let whole : take c.loop-child.child-index nodes ≡ nodes = take_all c.loop-child.child-index nodes c.loop-child-test.false in
    let seen : entries_of_nodes (take c.loop-child.child-index nodes) ≡ below =
    ap entries_of_nodes (whole ∙ c.deref-child-items.ensures.value) ∙ ap (λ (node : NodeView). node.below) c.node.view_is in
    let own : PathNames × Inode = (c.in_ok-copy.field-0, c.in_ok-copy-2.field-0) in
    let here = c.in_ok-copy.ensures ∙ (c.in_ok-path.ensures ∙ (ap (λ (node : NodeView). child_path c.args.above.now node.name) c.node.view_is ∙ sym (append-nil path))) in
    let inode = c.in_ok-copy-2.ensures ∙ ap (λ (node : NodeView). node.inode) c.node.view_is in
    let same : own ≡ (path ++ [], c.args.node.now.inode) = λ j. (here j, inode j) in
    c.loop-child.invariant
    ∙ ((λ j. c.in_ok-push.ensures.items j ++ placed path (seen j))
    ∙ (append_assoc c.args.entries.now.items (own ∷ []) (placed path below)
    ∙ (λ j. c.args.entries.now.items ++ same j ∷ placed path below)))
