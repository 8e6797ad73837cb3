use Rattle.std.proofs.Common.{below_more, arith}
use Rattle.ovl_manifest.proofs.RunLemmas.{stop-not}
use Rattle.ovl_manifest.proofs.plain_runs.plain_tail.Goals as goal

pub loop-place-preserved : goal.loop-place-preserved
loop-place-preserved c = (
  below_more _ _ c.loop-place.invariant.0 (stop-not _ (λ e. c.if-bytes-place-ne34.true e) (λ e. c.if-bytes-place-ne92.true e) (omega (arith, c.if-bytes-place-ge32.true))),
  omega (arith, c.loop-place-test.true),
)
