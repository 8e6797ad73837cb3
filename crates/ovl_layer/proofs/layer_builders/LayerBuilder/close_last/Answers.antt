use Rattle.std.proofs.Common.{◌≡◌, ◌∙◌, ◌-◌, ◌++◌, ◌∷◌, [], List, sym, ap, arith, map, set, take, vec_len}
use Rattle.std.specs.Prelude.{option_to_list}
use Rattle.ovl_layer.specs.LayerTrees.{NodeView, entries_from, entries_of_nodes, grown}
use Rattle.ovl_layer.specs.LayerBuilders.{entries_of_open}
use Rattle.ovl_layer.proofs.OpenLemmas.{nothing, last_apart, last_changed, last_named, names_left, closed_first, closed_next, order_next}
use Rattle.ovl_layer.proofs.layer_builders.LayerBuilder.close_last.Goals as goal

pub returns-then-depth-eq0-clause-entries : goal.returns-then-depth-eq0-clause-entries
returns-then-depth-eq0-clause-entries c =
    let nodes : List NodeView = c.args.self.now.children.items in
    let popped = c.pop.ensures.items ∙ ap (λ o. c.pop.new.self.items ++ option_to_list o) c.unwrap-node.ensures in
    let none : c.pop.new.self.items ≡ [] = nothing c.pop.new.self.items (omega (arith, c.pop.new.self.ok.0, c.len-depth.ensures, c.if-depth-eq0.true)) in
    ap (λ (more : List NodeView). entries_from c.args.self.now.inode (entries_of_nodes more ++ entries_of_open c.pop.new.self.items)) c.in_ok-push.ensures.items
    ∙ closed_first c.args.self.now.inode nodes c.args.self.now.open_dirs.items c.pop.new.self.items c.unwrap-node.result popped none

-- the parent has the node then
changed : (c : goal.In_ok-take_child) → set c.pop.new.self.items (c.len-depth.result - 1) c.take_child.new.self ≡ take (c.len-depth.result - 1) c.pop.new.self.items ++ grown c.index_mut-parent.result.now c.unwrap-node.result ∷ []
changed c =
    let rest : List NodeView = c.pop.new.self.items in
    last_changed rest (c.len-depth.result - 1) c.take_child.new.self (omega (arith, c.pop.new.self.ok.0, c.len-depth.ensures, c.if-depth-eq0.false))
    ∙ ap (λ (node : NodeView). take (c.len-depth.result - 1) rest ++ node ∷ []) c.in_ok-take_child.ensures

pub take_child-requires : goal.take_child-requires
take_child-requires c =
    let nodes : List NodeView = c.args.self.now.children.items in
    let rest : List NodeView = c.pop.new.self.items in
    let popped = c.pop.ensures.items ∙ ap (λ o. rest ++ option_to_list o) c.unwrap-node.ensures in
    let parted = last_apart rest (c.len-depth.result - 1) c.index_mut-parent.result.now (omega (arith, c.pop.new.self.ok.0, c.len-depth.ensures, c.if-depth-eq0.false)) c.index_mut-parent.ensures.value in
    order_next c.args.self.now.inode nodes c.args.self.now.open_dirs.items rest c.unwrap-node.result popped (take (c.len-depth.result - 1) rest) c.index_mut-parent.result.now parted c.requires.order

pub returns-clause-entries : goal.returns-clause-entries
returns-clause-entries c =
    let nodes : List NodeView = c.args.self.now.children.items in
    let rest : List NodeView = c.pop.new.self.items in
    let popped = c.pop.ensures.items ∙ ap (λ o. rest ++ option_to_list o) c.unwrap-node.ensures in
    let parted = last_apart rest (c.len-depth.result - 1) c.index_mut-parent.result.now (omega (arith, c.pop.new.self.ok.0, c.len-depth.ensures, c.if-depth-eq0.false)) c.index_mut-parent.ensures.value in
    ap (λ (open_dirs : List NodeView). entries_from c.args.self.now.inode (entries_of_nodes nodes ++ entries_of_open open_dirs)) (changed c)
    ∙ closed_next c.args.self.now.inode nodes c.args.self.now.open_dirs.items rest c.unwrap-node.result popped (take (c.len-depth.result - 1) rest) c.index_mut-parent.result.now parted

pub returns-clause-open_dirs : goal.returns-clause-open_dirs
returns-clause-open_dirs c =
    let rest : List NodeView = c.pop.new.self.items in
    let front : List NodeView = take (c.len-depth.result - 1) rest in
    let popped = c.pop.ensures.items ∙ ap (λ o. rest ++ option_to_list o) c.unwrap-node.ensures in
    let parted = last_apart rest (c.len-depth.result - 1) c.index_mut-parent.result.now (omega (arith, c.pop.new.self.ok.0, c.len-depth.ensures, c.if-depth-eq0.false)) c.index_mut-parent.ensures.value in
    let left = names_left c.args.self.now.inode c.args.self.now.children.items c.args.self.now.open_dirs.items rest c.unwrap-node.result popped (vec_len c.args.self.now.open_dirs) c.args.self.now.open_dirs.ok.0 in
    ap (map (λ (node : NodeView). node.name)) (changed c)
    ∙ (last_named front c.index_mut-parent.result.now c.unwrap-node.result ∙ (ap (map (λ (node : NodeView). node.name)) (sym parted) ∙ left))
