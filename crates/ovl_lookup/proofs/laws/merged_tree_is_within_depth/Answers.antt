use Rattle.ovl_lookup.proofs.LawsOfLooks.{ShowsWithinDepth-holds}
use Rattle.ovl_lookup.proofs.laws.merged_tree_is_within_depth.Goals as goal

pub returns : goal.returns
returns c = ShowsWithinDepth-holds
