use Rattle.ovl_flatten.proofs.FlattenLemmas.{FlattenIsSound-holds}
use Rattle.ovl_flatten.proofs.laws.flatten_is_sound.Goals as goal

pub returns : goal.returns
returns c = FlattenIsSound-holds
