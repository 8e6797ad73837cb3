use Rattle.std.proofs.Common.{length, ◌<◌, subst}
use Rattle.std.specs.List.{All}
use Rattle.ovl_layer.specs.Layers.{IsLayer}
use Rattle.ovl_lookup.specs.Stacks.{StackView}
use Rattle.ovl_merge.specs.Places.{merge_of}
use Rattle.ovl_merge.specs.MergeDown.{merged_entry}
use Rattle.ovl_merge.proofs.finish.finish_merge.Goals as goal

pub returns-clause-top : goal.returns-clause-top
returns-clause-top c =
    c.in_ok-over.ensures.top c.args.work.now
    (subst (λ (s : StackView). 1 < length s.layers) c.work.view_is c.work.invariant)
    (subst (λ (s : StackView). All IsLayer s.layers) c.work.view_is c.ordinary-layers.ensures.each)
    (c.in_ok-lower.ensures.layer (merged_entry (merge_of c.args.work.now)) c.in_ok-of.ensures.told)
