use Rattle.ovl_merge.proofs.Tree.{MergeKeepsTree-holds}
use Rattle.ovl_merge.proofs.laws.merge_keeps_the_tree.Goals as goal

pub returns : goal.returns
returns c = MergeKeepsTree-holds
