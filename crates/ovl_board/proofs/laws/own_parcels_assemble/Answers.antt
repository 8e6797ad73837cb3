use Rattle.ovl_board.proofs.LawsOfWalks.{OwnAssemble-holds}
use Rattle.ovl_board.proofs.laws.own_parcels_assemble.Goals as goal

pub returns : goal.returns
returns g c = OwnAssemble-holds (g.W.Work.kids_of c.args._work.now) (g.W.Work.out_of c.args._work.now) g.W.Work.seen
