use Rattle.ovl_flatten.proofs.FlattenLemmas.{FlattenKeepsTree-holds}
use Rattle.ovl_flatten.proofs.laws.flatten_keeps_the_tree.Goals as goal

pub returns : goal.returns
returns c = FlattenKeepsTree-holds
