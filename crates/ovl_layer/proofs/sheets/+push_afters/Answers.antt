use Rattle.std.proofs.Common.{◌∙◌, ◌++◌, List, set, take, sym, ap, arith}
use Rattle.std.proofs.lemmas.List.{take_all}
use Rattle.ovl_layer.specs.LayerTrees.{NodeView, entries_of_nodes}
use Rattle.ovl_layer.specs.Sheets.{afters_from}
use Rattle.ovl_layer.proofs.SheetPassLemmas.{kids-room, afters-count, afters-more}
use Rattle.ovl_layer.proofs.sheets.+push_afters.Goals as goal

pub push_afters-requires : goal.push_afters-requires
push_afters-requires t c =
    let nodes : List NodeView = c.args.nodes.now in
    let below = ap entries_of_nodes c.deref.ensures.value ∙ ap (λ (node : NodeView). node.below) c.node.view_is in
    let room = kids-room nodes c.deref.result.now c.loop-node.node-index c.node-item.result c.loop-node-test.true c.node-item.is below in
    let count = afters-count c.args.afters.now.items c.loop-node.afters.items (entries_of_nodes (take c.loop-node.node-index nodes)) c.loop-node.invariant in
    (omega (arith, c.decreases, room), omega (arith, c.requires.limit, room, count, c.in_ok-push.ensures.len, c.loop-node.afters.ok.0, c.args.afters.now.ok.0))

pub overflow_cast-len : goal.overflow_cast-len
overflow_cast-len t c =
    let nodes : List NodeView = c.args.nodes.now in
    let below = ap entries_of_nodes c.deref.ensures.value ∙ ap (λ (node : NodeView). node.below) c.node.view_is in
    let room = kids-room nodes c.deref.result.now c.loop-node.node-index c.node-item.result c.loop-node-test.true c.node-item.is below in
    let count = afters-count c.args.afters.now.items c.loop-node.afters.items (entries_of_nodes (take c.loop-node.node-index nodes)) c.loop-node.invariant in
    let grown = afters-count c.push.new.self.items c.push_afters.new.afters.items (entries_of_nodes c.deref.result.now)
    (c.in_ok-push_afters.ensures ∙ ap (λ n. c.push.new.self.items ++ afters_from n (entries_of_nodes c.deref.result.now)) c.push.new.self.ok.0) in
    omega (arith, c.requires.limit, room, count, grown, c.len.ensures, c.in_ok-push.ensures.len, c.loop-node.afters.ok.0, c.args.afters.now.ok.0, c.push.new.self.ok.0, c.push_afters.new.afters.ok.0)

pub loop-node-preserved : goal.loop-node-preserved
loop-node-preserved t c =
    let below = ap (λ (node : NodeView). node.below) c.node.view_is in
    afters-more c.args.afters.now.items c.loop-node.afters.items c.push.new.self.items c.push_afters.new.afters.items _ c.args.nodes.now c.node.inside.children.items c.loop-node.node-index c.len.result c.node-item.result
    c.loop-node-test.true c.node-item.is below c.loop-node.invariant c.in_ok-push.ensures.items
    (c.in_ok-push_afters.ensures ∙ (λ j. c.push.new.self.items ++ afters_from (c.push.new.self.ok.0 j) (entries_of_nodes (c.deref.ensures.value j))))
    (c.len.ensures ∙ c.push_afters.new.afters.ok.0)
    (ap (λ n. set c.push_afters.new.afters.items n c.len.result) (c.len-number.ensures ∙ c.loop-node.afters.ok.0))

pub returns : goal.returns
returns t c =
    c.loop-node.invariant
    ∙ ((λ j. c.args.afters.now.items ++ afters_from (sym c.args.afters.now.ok.0 j) (entries_of_nodes (take_all c.loop-node.node-index c.args.nodes.now c.loop-node-test.false j))))
