use Rattle.ovl_lookup.proofs.LawsOfNames.{walk-below_root}
use Rattle.ovl_lookup.proofs.laws.walks_stay_below_root.Goals as goal

pub returns : goal.returns
returns c = walk-below_root
