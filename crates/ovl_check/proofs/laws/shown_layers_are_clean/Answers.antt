use Rattle.ovl_check.proofs.UnmarkedLemmas.{shown-clean}
use Rattle.ovl_check.proofs.laws.shown_layers_are_clean.Goals as goal

pub returns : goal.returns
returns c = shown-clean
