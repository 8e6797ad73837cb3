use Rattle.ovl_board.proofs.LawsOfWalks.{plain_own}
use Rattle.ovl_board.proofs.laws.plain_parcels_are_own.Goals as goal

pub returns : goal.returns
returns g c = plain_own (g.W.Work.kids_of c.args._work.now) (g.W.Work.out_of c.args._work.now)
