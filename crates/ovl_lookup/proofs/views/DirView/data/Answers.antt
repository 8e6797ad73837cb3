use Rattle.std.proofs.Common.{◌≡◌, ◌∙◌, None, List, IfOk, sym, ap, subst}
use Rattle.std.specs.Option.{option_map}
use Rattle.std.specs.List.{All}
use Rattle.ovl_inode.specs.declared.inodes.Inode.{Inode}
use Rattle.ovl_layer.specs.Layers.{IsLayer}
use Rattle.ovl_lookup.specs.Stacks.{StackView}
use Rattle.ovl_lookup.specs.Passes.{data_below}
use Rattle.ovl_lookup.specs.Views.{found_below}
use Rattle.ovl_lookup.specs.DirViews.{places_in}
use Rattle.ovl_lookup.proofs.ViewLemmas.{views-find}
use Rattle.ovl_lookup.proofs.views.DirView.data.Goals as goal

pub returns : goal.returns
returns c =
    let stack : StackView = c.args.stack.now in
    let each : All IsLayer stack.layers = subst (λ (s : StackView). All IsLayer s.layers) c.stack.view_is c.stack.invariant.2 in
    let same = c.first_in.ensures.found ∙ ap (found_below stack.layers c.args.name.now) (ap (places_in stack) c.deref.ensures.value ∙ c.requires.reached)
    ∙ sym (views-find stack each c.args.self.now.from c.args.self.now.path c.args.name.now) in
    subst (λ (found : List Inode). IfOk c.data_of.result (λ answer. option_map (λ inode. inode.now) answer ≡ data_below stack.data_only None found)) same c.data_of.ensures
