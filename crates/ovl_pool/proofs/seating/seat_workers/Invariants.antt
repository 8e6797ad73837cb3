use Rattle.std.proofs.Common.{◌≡◌, vec_len}
use Rattle.ovl_pool.specs.Passes.{AreSeated}
use Rattle.ovl_pool.specs.Flows.{HaveNothing}
use Rattle.ovl_pool.proofs.seating.seat_workers.Given as goal

abbrev pub invariant-loop-number : goal.invariant-loop-number
invariant-loop-number l = record {
  seated : AreSeated l.thieves.items l.workers.items;
  all : vec_len l.workers ≡ l.count;
  nothing : HaveNothing l.workers.items;
}

abbrev pub invariant-loop-step : goal.invariant-loop-step
invariant-loop-step l = record {
  seated : AreSeated l.thieves.items l.workers.items;
  all : vec_len l.workers ≡ l.count;
  nothing : HaveNothing l.workers.items;
}
