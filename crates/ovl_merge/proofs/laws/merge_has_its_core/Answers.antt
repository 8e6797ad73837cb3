use Rattle.ovl_merge.proofs.CoreLaw.{MergeHasCore-holds}
use Rattle.ovl_merge.proofs.laws.merge_has_its_core.Goals as goal

pub returns : goal.returns
returns c = MergeHasCore-holds
