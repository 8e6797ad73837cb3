use Rattle.std.proofs.Common.{◌<◌, subst, ◌∙◌, ◌+◌, ◌*◌, ◌++◌, length}
use Rattle.std.specs.List.{All}
use Rattle.ovl_layer.specs.Layers.{IsLayer}
use Rattle.ovl_names.specs.Paths.{depth_limit}
use Rattle.ovl_lookup.specs.Stacks.{StackView}
use Rattle.ovl_lookup.specs.Passes.{looks_from, looks_placed}
use Rattle.ovl_lookup.proofs.LawsOfKids.{is-merged, shows-root}
use Rattle.ovl_lookup.proofs.stacks.Stack.list.Goals as goal

pub returns : goal.returns
returns c =
    let stack : StackView = c.args.self.now in
    let each : All IsLayer stack.layers = subst (λ (s : StackView). All IsLayer s.layers) c.self.view_is c.self.invariant.2 in
    let some : 0 < length stack.layers = subst (λ (s : StackView). 0 < length s.layers) c.self.view_is c.self.invariant.0 in
    is-merged stack each (shows-root stack each some) c.push_looks.new.looks.items
    (c.in_ok-push_looks.ensures
    ∙ ((λ j. c.new-looks.ensures.items j ++ looks_placed (c.root-root.ensures j) (looks_from (depth_limit * c.ordinary.ensures.value j + 1) stack (c.root-root.ensures j)))))
