use Rattle.ovl_flatten.proofs.FlattenLemmas.{FlattenIsTheOne-holds}
use Rattle.ovl_flatten.proofs.laws.flatten_is_the_one.Goals as goal

pub returns : goal.returns
returns c = FlattenIsTheOne-holds
