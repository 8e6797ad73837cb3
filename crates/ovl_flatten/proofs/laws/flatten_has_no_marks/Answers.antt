use Rattle.ovl_flatten.proofs.FlattenLemmas.{FlattenHasNoMarks-holds}
use Rattle.ovl_flatten.proofs.laws.flatten_has_no_marks.Goals as goal

pub returns : goal.returns
returns c = FlattenHasNoMarks-holds
