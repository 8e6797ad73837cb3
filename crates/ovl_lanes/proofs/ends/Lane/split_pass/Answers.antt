use Rattle.ovl_lanes.proofs.StepLemmas.{forks}
use Rattle.ovl_lanes.proofs.ends.Lane.split_pass.Goals as goal

pub another-requires : goal.another-requires
another-requires c = forks _ _ c.args.self.now.owns
