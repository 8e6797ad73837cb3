use Rattle.ovl_lookup.proofs.LawsOfLooks.{ShowsParents-holds}
use Rattle.ovl_lookup.proofs.laws.merged_tree_has_parents.Goals as goal

pub returns : goal.returns
returns c = ShowsParents-holds
