use Rattle.ovl_lanes.proofs.StepLemmas.{steals}
use Rattle.ovl_lanes.proofs.ends.Thief.steal.Goals as goal

pub steal_as-requires-clause-takes : goal.steal_as-requires-clause-takes
steal_as-requires-clause-takes c = steals _ _ c.args.pass.now.out.0 c.args.pass.now.out.1
