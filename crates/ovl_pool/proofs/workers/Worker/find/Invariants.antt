use Rattle.std.proofs.Common.{◌≡◌}
use Rattle.ovl_pool.specs.Flows.{IsUntouched}
use Rattle.ovl_pool.specs.Passes.{HasPasses, post_of}
use Rattle.ovl_pool.proofs.workers.Worker.find.Given as goal

abbrev pub invariant-loop-i : goal.invariant-loop-i
invariant-loop-i l = record {
  passes : HasPasses l.thieves l.self;
  same : post_of l.self ≡ post_of l.fn.self;
  untouched : IsUntouched l.fn.self l.self;
}
