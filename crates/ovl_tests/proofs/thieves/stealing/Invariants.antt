use Rattle.ovl_lanes.specs.Lanes.{thief_id, IsPass}
use Rattle.ovl_tests.proofs.thieves.stealing.Given as goal

abbrev pub invariant-loop : goal.invariant-loop
invariant-loop l = IsPass (thief_id l.thief) l.pass
