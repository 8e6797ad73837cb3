use Rattle.std.proofs.Common.{◌≡◌, vec_len}
use Rattle.std.specs.List.{AllWithin}
use Rattle.ovl_pool.specs.Flows.{AreUntouched}
use Rattle.ovl_pool.specs.Passes.{AreSeated, HasNone}
use Rattle.ovl_pool.proofs.seating.close_lanes.Given as goal

abbrev pub invariant-loop-number : goal.invariant-loop-number
invariant-loop-number l = record {
  seated : AreSeated l.thieves.items l.workers.items;
  before : AllWithin HasNone l.workers.items 0 l.number;
  all : vec_len l.workers ≡ vec_len l.fn.workers;
  same : AreUntouched l.fn.workers.items l.workers.items;
}
