use Rattle.std.proofs.Common.{◌∙◌, List, take, ap, subst, arith}
use Rattle.std.proofs.lemmas.List.{take_all}
use Rattle.ovl_layer.specs.LayerTrees.{NodeView, entries_of_nodes}
use Rattle.ovl_layer.specs.SheetPasses.{AddsParents}
use Rattle.ovl_layer.proofs.SheetPassLemmas.{kids-room, parents-count, parents-none, parents-more}
use Rattle.ovl_layer.proofs.sheets.+push_parents.Goals as goal

pub loop-node-init : goal.loop-node-init
loop-node-init t c = parents-none c.args.directory c.args.parents.now.items

pub overflow_cast-number : goal.overflow_cast-number
overflow_cast-number t c =
    let nodes : List NodeView = c.args.nodes.now in
    let room = kids-room nodes c.node.inside.children.items c.loop-node.node-index c.node-item.result c.loop-node-test.true c.node-item.is (ap (λ (node : NodeView). node.below) c.node.view_is) in
    let count = parents-count c.args.directory c.args.parents.now.items c.loop-node.parents.items (entries_of_nodes (take c.loop-node.node-index nodes)) c.loop-node.invariant in
    omega (arith, c.requires.limit, room, count, c.len-number.ensures, c.loop-node.parents.ok.0, c.args.parents.now.ok.0)

pub push_parents-requires : goal.push_parents-requires
push_parents-requires t c =
    let nodes : List NodeView = c.args.nodes.now in
    let below = ap entries_of_nodes c.deref.ensures.value ∙ ap (λ (node : NodeView). node.below) c.node.view_is in
    let room = kids-room nodes c.deref.result.now c.loop-node.node-index c.node-item.result c.loop-node-test.true c.node-item.is below in
    let count = parents-count c.args.directory c.args.parents.now.items c.loop-node.parents.items (entries_of_nodes (take c.loop-node.node-index nodes)) c.loop-node.invariant in (
      omega (arith, c.decreases, room),
      (
        omega (arith, c.len-number.ensures, c.in_ok-push.ensures.len),
        omega (arith, c.requires.limit, room, count, c.in_ok-push.ensures.len, c.loop-node.parents.ok.0, c.args.parents.now.ok.0),
      ),
    )

pub loop-node-preserved : goal.loop-node-preserved
loop-node-preserved t c =
    let number = c.len-number.ensures ∙ c.loop-node.parents.ok.0 in
    let kids = subst (λ (nodes : List NodeView). AddsParents c.len-number.result c.push.new.self.items c.push_parents.new.parents.items (entries_of_nodes nodes)) c.deref.ensures.value c.in_ok-push_parents.ensures in
    parents-more c.args.directory c.args.parents.now.items c.loop-node.parents.items c.push.new.self.items c.push_parents.new.parents.items c.args.nodes.now c.node.inside.children.items c.loop-node.node-index c.node-item.result
    (omega (arith, c.requires.directory, c.args.parents.now.ok.0)) c.loop-node-test.true c.node-item.is (ap (λ (node : NodeView). node.below) c.node.view_is) c.loop-node.invariant c.in_ok-push.ensures.items
    (subst (λ n. AddsParents n c.push.new.self.items c.push_parents.new.parents.items (entries_of_nodes c.node.inside.children.items)) number kids)

pub returns : goal.returns
returns t c =
    subst (λ (nodes : List NodeView). AddsParents c.args.directory c.args.parents.now.items c.loop-node.parents.items (entries_of_nodes nodes))
    (take_all c.loop-node.node-index c.args.nodes.now c.loop-node-test.false) c.loop-node.invariant
