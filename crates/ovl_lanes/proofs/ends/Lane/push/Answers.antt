use Rattle.ovl_lanes.proofs.StepLemmas.{puts}
use Rattle.ovl_lanes.proofs.ends.Lane.push.Goals as goal

pub push_as-requires-clause-pushes : goal.push_as-requires-clause-pushes
push_as-requires-clause-pushes c = puts _ _ _ c.args.self.now.owns
