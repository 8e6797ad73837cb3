use Rattle.std.proofs.Common.{◌≡◌, ◌∙◌, sym, rules, tests, ap, [], subst}
use Rattle.std.proofs.lemmas.Fn.{always_returns_same}
use Rattle.ovl_names.specs.Names.{name_cmp}
use Rattle.ovl_layer.specs.Layers.{Entries}
use Rattle.ovl_layer.specs.LayerTrees.{NodeView, entries_in, entries_from}
use Rattle.ovl_layer.proofs.NodeLemmas.{missing, found}
use Rattle.ovl_layer.proofs.trees.CursorLayerPlace.child.Goals as goal

pub returns-in-Ok : goal.returns-in-Ok
returns-in-Ok c =
    let position = c.binary_search_by.ensures.position (λ node. name_cmp node.name c.args.name.now) (always_returns_same _ _ _ (λ a r q k. (search (rules, tests), search (rules, tests)))) in
    let at = found c.self.inside.children.now c.in-Ok.place c.args.name.now c.index-self-place.result c.self.invariant c.in-Ok.ensures.bound (rw c.in-Ok.is at position) c.index-self-place.is in
    let seen = c.at.ensures ∙ ap (λ (node : NodeView). entries_from node.inode node.below) (sym c.index-self-place.is) in (
      seen ∙ (sym at ∙ ap (entries_in c.args.name.now) c.self.view_is),
      λ none. let bad = sym seen ∙ none in cc,
    )

pub returns-in-Err : goal.returns-in-Err
returns-in-Err c =
    let position = c.binary_search_by.ensures.position (λ node. name_cmp node.name c.args.name.now) (always_returns_same _ _ _ (λ a r q k. (search (rules, tests), search (rules, tests)))) in
    let none = missing c.self.inside.children.now c.in-Err.field-0 c.args.name.now c.self.invariant (rw c.in-Err.is at position) in
    subst (λ (e : Entries). entries_in c.args.name.now e ≡ []) c.self.view_is none
