use Rattle.std.proofs.Common.{◌≡◌, ◌∙◌, ◌<◌, ◌-◌, ◌++◌, ◌∷◌, [], Some, List, ℕ, true, length, take, sym, ap, subst, arith}
use Rattle.std.specs.Prelude.{slice_get}
use Rattle.std.specs.Ordering.{is_lt}
use Rattle.std.proofs.lemmas.Option.{slice_get_within, get_or_from_slice_get}
use Rattle.ovl_names.specs.Names.{name_cmp}
use Rattle.ovl_names.specs.Order.{ascends}
use Rattle.ovl_layer.specs.Layers.{Entries}
use Rattle.ovl_layer.specs.LayerTrees.{NodeView, node_cmp, entries_of_nodes}
use Rattle.ovl_layer.specs.Entries.{comes_after}
use Rattle.ovl_layer.proofs.OpenLemmas.{last_apart}
use Rattle.ovl_layer.proofs.SubtreeBuilderLemmas.{last-decides}
use Rattle.ovl_layer.proofs.subtree_builders.SubtreeBuilder.comes_last.Goals as goal

pub returns-in-Some : goal.returns-in-Some
returns-in-Some c =
    let nodes : List NodeView = c.self.inside.nodes.items in
    let last : NodeView = c.in-Some.last.now in
    let name : List ℕ = c.args.name.now in
    let end : ℕ = length nodes - 1 in
    let at : slice_get nodes end ≡ Some last = sym (c.in-Some.ensures.value ∙ ap (λ (ns : List NodeView). slice_get ns (length ns - 1)) c.deref.ensures.value) in
    let inside : end < length nodes = slice_get_within nodes end last at in
    let apart : nodes ≡ take end nodes ++ last ∷ [] = last_apart nodes end last (omega (arith, inside)) (sym (get_or_from_slice_get nodes end last last at)) in
    c.is_lt.ensures
    ∙ (ap is_lt (c.cmp.ensures ∙ ap (λ (node : NodeView). name_cmp node.name name) c.last-in-Some.view_is)
    ∙ (last-decides (take end nodes) last name (subst (λ (ns : List NodeView). ascends node_cmp ns ≡ true) apart c.self.invariant.0)
    ∙ (ap (λ (ns : List NodeView). comes_after (entries_of_nodes ns) (name ∷ [])) (sym apart)
    ∙ ap (λ (entries : Entries). comes_after entries (name ∷ [])) c.self.view_is)))
