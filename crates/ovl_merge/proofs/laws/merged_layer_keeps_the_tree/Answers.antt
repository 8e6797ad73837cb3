use Rattle.ovl_merge.proofs.Tree.{MergedLayerKeepsTree-holds}
use Rattle.ovl_merge.proofs.laws.merged_layer_keeps_the_tree.Goals as goal

pub returns : goal.returns
returns c = MergedLayerKeepsTree-holds
