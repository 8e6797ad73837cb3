use Rattle.std.proofs.Common.{◌++◌, ◌∷◌, [], sym, ◌∙◌, ap}
use Rattle.ovl_layer.specs.LayerTrees.{NodeView}
use Rattle.ovl_layer.proofs.NodeLemmas.{names_below-more}
use Rattle.ovl_layer.proofs.trees.CursorLayerPlace.names.Goals as goal

pub loop-child-preserved : goal.loop-child-preserved
loop-child-preserved c =
    let more = names_below-more c.self.inside.children.now c.loop-child.child-index c.child-item.result c.child.inside.children.items c.loop-child-test.true c.child-item.is (ap (λ (node : NodeView). node.below) c.child.view_is) in
    c.in_ok-push.ensures.items
    ∙ ((λ j. c.loop-child.invariant j ++ (c.in_ok-copy.ensures ∙ ap (λ (node : NodeView). node.name) c.child.view_is) j ∷ [])
    ∙ sym more)
