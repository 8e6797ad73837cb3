use Rattle.ovl_board.proofs.LawLemmas.{InOrderHaveNoFault-holds}
use Rattle.ovl_board.proofs.laws.parcels_in_order_have_no_fault.Goals as goal

pub returns : goal.returns
returns g c = InOrderHaveNoFault-holds g.row.W-Out.Denot
