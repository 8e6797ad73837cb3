use Rattle.std.proofs.Common.{◌≡◌, ◌∙◌, true, sym, ap, subst}
use Rattle.ovl_names.specs.Order.{ascends}
use Rattle.ovl_layer.specs.Layers.{Entries, entry_cmp}
use Rattle.ovl_layer.specs.Entries.{comes_after}
use Rattle.ovl_layer.proofs.LayerLemmas.{comes_after-last}
use Rattle.ovl_layer.proofs.layer_builders.LayerBuilder.comes_before.Goals as goal

pub returns-clause-value : goal.returns-clause-value
returns-clause-value c =
    let ends = c.requires.ends.2 in
    let up = subst (λ (entries : Entries). ascends entry_cmp entries ≡ true) ends c.requires.layer.in_order in
    c.lt.ensures ∙ sym (ap (λ (entries : Entries). comes_after entries c.args.path.now) ends ∙ comes_after-last c.requires.ends.0 c.args.self.now.last c.args.path.now c.requires.ends.1 up)
