use Rattle.ovl_lookup.proofs.LawsOfWalks.{walk-child_directory}
use Rattle.ovl_lookup.proofs.laws.walks_enter.Goals as goal

pub returns : goal.returns
returns c = walk-child_directory
