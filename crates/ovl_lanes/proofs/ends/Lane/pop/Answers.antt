use Rattle.ovl_lanes.proofs.StepLemmas.{pops, finds}
use Rattle.ovl_lanes.proofs.ends.Lane.pop.Goals as goal

pub pop_as-requires-clause-fifo : goal.pop_as-requires-clause-fifo
pop_as-requires-clause-fifo c = λ _. pops _ _ c.args.self.now.owns

pub pop_as-requires-clause-empty : goal.pop_as-requires-clause-empty
pop_as-requires-clause-empty c = finds _ _ c.args.self.now.owns
