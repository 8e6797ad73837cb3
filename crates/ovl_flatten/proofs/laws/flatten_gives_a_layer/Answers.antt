use Rattle.ovl_flatten.proofs.FlattenLemmas.{FlattenGivesLayer-holds}
use Rattle.ovl_flatten.proofs.laws.flatten_gives_a_layer.Goals as goal

pub returns : goal.returns
returns c = FlattenGivesLayer-holds
