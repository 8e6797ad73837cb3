use Rattle.ovl_board.proofs.LawLemmas.{BalancedHaveNoFault-holds}
use Rattle.ovl_board.proofs.laws.balanced_parcels_have_no_fault.Goals as goal

pub returns : goal.returns
returns c = BalancedHaveNoFault-holds
