use Rattle.ovl_merge.proofs.LayerLemmas.{MergeGivesLayer-holds}
use Rattle.ovl_merge.proofs.laws.merge_gives_a_layer.Goals as goal

pub returns : goal.returns
returns c = MergeGivesLayer-holds
