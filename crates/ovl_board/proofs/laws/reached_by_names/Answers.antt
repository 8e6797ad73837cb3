use Rattle.ovl_board.proofs.LawLemmas.{ReachedByNames-holds}
use Rattle.ovl_board.proofs.laws.reached_by_names.Goals as goal

pub returns : goal.returns
returns c = ReachedByNames-holds
