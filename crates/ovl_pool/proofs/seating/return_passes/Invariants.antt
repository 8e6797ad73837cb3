use Rattle.std.proofs.Common.{◌<◌, length, vec_len}
use Rattle.std.specs.List.{sum_by, AllWithin}
use Rattle.ovl_pool.specs.Flows.{AreUntouched}
use Rattle.ovl_pool.specs.Passes.{AreSeated, HasNone}
use Rattle.ovl_pool.proofs.seating.return_passes.Given as goal

abbrev pub invariant-loop-lane : goal.invariant-loop-lane
invariant-loop-lane l = record {
  seated : AreSeated l.thieves l.workers;
  worker : l.number < length l.workers;
  before : AllWithin HasNone l.workers 0 l.number;
  same : AreUntouched l.fn.workers l.workers;
}

abbrev pub decreases-loop-lane : goal.decreases-loop-lane
decreases-loop-lane l = sum_by (λ worker. vec_len worker.others) l.workers
