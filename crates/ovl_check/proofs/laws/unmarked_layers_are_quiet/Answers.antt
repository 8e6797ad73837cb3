use Rattle.ovl_check.proofs.UnmarkedLemmas.{unmarked-quiet}
use Rattle.ovl_check.proofs.laws.unmarked_layers_are_quiet.Goals as goal

pub returns : goal.returns
returns c = unmarked-quiet
