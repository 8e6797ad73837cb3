use Rattle.std.proofs.Common.{◌≡◌}
use Rattle.ovl_lanes.specs.Lanes.{account_of, IsSameLane}
use Rattle.ovl_tests.proofs.thieves.pushing.Given as goal

abbrev pub invariant-loop-space : goal.invariant-loop-space
invariant-loop-space l = record {
  same : IsSameLane l.fn.lane l.lane;
  split : (account_of l.lane).split ≡ (account_of l.fn.lane).split;
  joined : (account_of l.lane).joined ≡ (account_of l.fn.lane).joined;
}
