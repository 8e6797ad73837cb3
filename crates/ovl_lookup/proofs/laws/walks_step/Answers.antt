use Rattle.ovl_lookup.proofs.LawsOfWalks.{walk-child}
use Rattle.ovl_lookup.proofs.laws.walks_step.Goals as goal

pub returns : goal.returns
returns c = walk-child
