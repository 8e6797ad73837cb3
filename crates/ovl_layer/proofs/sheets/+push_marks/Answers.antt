use Rattle.std.proofs.Common.{◌∙◌, ◌++◌, ◌∷◌, [], List, length, take, ap, arith, length-append}
use Rattle.std.proofs.lemmas.List.{take_all}
use Rattle.ovl_inode.specs.Marks.{mark_of}
use Rattle.ovl_layer.specs.LayerTrees.{NodeView, entries_of_nodes}
use Rattle.ovl_layer.proofs.SheetPassLemmas.{marks_of, kids-room, marks-count, marks-more}
use Rattle.ovl_layer.proofs.sheets.+push_marks.Goals as goal

pub push_of-requires : goal.push_of-requires
push_of-requires t c =
    let nodes : List NodeView = c.args.nodes.now in
    let room = kids-room nodes c.node.inside.children.items c.loop-node.node-index c.node-item.result c.loop-node-test.true c.node-item.is (ap (λ (node : NodeView). node.below) c.node.view_is) in
    let count = marks-count c.args.marks.now c.loop-node.marks (entries_of_nodes (take c.loop-node.node-index nodes)) c.loop-node.invariant in
    omega (arith, c.requires.limit, room, count)

pub push_marks-requires : goal.push_marks-requires
push_marks-requires t c =
    let nodes : List NodeView = c.args.nodes.now in
    let below = ap entries_of_nodes c.deref.ensures.value ∙ ap (λ (node : NodeView). node.below) c.node.view_is in
    let room = kids-room nodes c.deref.result.now c.loop-node.node-index c.node-item.result c.loop-node-test.true c.node-item.is below in
    let count = marks-count c.args.marks.now c.loop-node.marks (entries_of_nodes (take c.loop-node.node-index nodes)) c.loop-node.invariant in
    let more = ap length c.in_ok-push_of.ensures ∙ length-append c.loop-node.marks (mark_of c.node.inside.inode ∷ []) in
    (omega (arith, c.decreases, room), omega (arith, c.requires.limit, room, count, more))

pub loop-node-preserved : goal.loop-node-preserved
loop-node-preserved t c =
    marks-more c.args.marks.now c.loop-node.marks c.push_of.new.self c.push_marks.new.marks c.args.nodes.now c.node.inside.children.items c.loop-node.node-index c.node-item.result (mark_of c.node.inside.inode)
    c.loop-node-test.true c.node-item.is (ap (λ (node : NodeView). node.below) c.node.view_is) (ap (λ (node : NodeView). mark_of node.inode) c.node.view_is) c.loop-node.invariant c.in_ok-push_of.ensures
    (c.in_ok-push_marks.ensures ∙ ap (λ (nodes : List NodeView). c.push_of.new.self ++ marks_of (entries_of_nodes nodes)) c.deref.ensures.value)

pub returns : goal.returns
returns t c =
    c.loop-node.invariant ∙ ap (λ (nodes : List NodeView). c.args.marks.now ++ marks_of (entries_of_nodes nodes)) (take_all c.loop-node.node-index c.args.nodes.now c.loop-node-test.false)
