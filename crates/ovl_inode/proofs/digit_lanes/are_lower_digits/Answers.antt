use Rattle.std.proofs.Common.{◌∙◌, sym, ap, arith, Bool}
use Rattle.std.specs.Prelude.{◌&&◌}
use Rattle.ovl_inode.proofs.DigitLaneLemmas.{block-more, and-turned}
use Rattle.ovl_inode.proofs.digit_lanes.are_lower_digits.Goals as goal

pub loop-place-preserved : goal.loop-place-preserved
loop-place-preserved c = (
  block-more c.args.text.now c.loop-place.are c.is_lower_block-are.result c.loop-place.place c.is_lower_block-are.ensures c.loop-place.invariant.0,
  omega arith,
)

pub returns : goal.returns
returns c = ap (λ (b : Bool). b && c.loop-place.are) c.are_lower_tail.ensures ∙ (and-turned _ c.loop-place.are ∙ sym c.loop-place.invariant.0)
