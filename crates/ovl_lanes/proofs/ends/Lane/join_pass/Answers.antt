use Rattle.ovl_lanes.proofs.StepLemmas.{merges}
use Rattle.ovl_lanes.proofs.ends.Lane.join_pass.Goals as goal

pub absorb-requires-clause-rule : goal.absorb-requires-clause-rule
absorb-requires-clause-rule c = merges _ _ _ _ c.args.self.now.owns c.args.pass.out.1
