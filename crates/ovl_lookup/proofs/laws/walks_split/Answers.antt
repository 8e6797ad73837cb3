use Rattle.ovl_lookup.proofs.LawsOfSplits.{walks-split}
use Rattle.ovl_lookup.proofs.laws.walks_split.Goals as goal

pub returns : goal.returns
returns c = walks-split
