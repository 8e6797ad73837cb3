use Rattle.std.proofs.Common.{◌≡◌, ◌∙◌, ◌++◌, true, sym, ap, subst}
use Rattle.ovl_names.specs.Order.{ascends}
use Rattle.ovl_layer.specs.Layers.{Entries, entry_cmp}
use Rattle.ovl_layer.specs.LayerTrees.{NodeView, entries_from, entries_of_nodes, under, grown}
use Rattle.ovl_layer.proofs.OpenLemmas.{nodes_ascend}
use Rattle.ovl_layer.proofs.NodeLemmas.{entries_of_nodes-push}
use Rattle.ovl_layer.proofs.trees.Node.take_child.Goals as goal

pub invariant_of-self-2 : goal.invariant_of-self-2
invariant_of-self-2 c =
    let child : NodeView = c.args.child in
    let below = ap (λ (node : NodeView). node.below ++ under child.name (entries_from child.inode child.below)) (sym c.self.view_is) in
    let same = below ∙ (sym (entries_of_nodes-push c.self.inside.children.items child) ∙ ap entries_of_nodes (sym c.in_ok-push.ensures.items)) in
    nodes_ascend c.push.new.self.items (subst (λ (entries : Entries). ascends entry_cmp entries ≡ true) same c.requires)

pub returns : goal.returns
returns c =
    let child : NodeView = c.args.child in
    (λ j. record { name = c.self.inside.name; inode = c.self.inside.inode; below = (ap entries_of_nodes c.in_ok-push.ensures.items ∙ entries_of_nodes-push c.self.inside.children.items child) j })
    ∙ ap (λ (node : NodeView). grown node child) c.self.view_is
