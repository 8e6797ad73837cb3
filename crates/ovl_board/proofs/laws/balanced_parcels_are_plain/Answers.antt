use Rattle.ovl_board.proofs.LawsOfWalks.{balanced_plain}
use Rattle.ovl_board.proofs.laws.balanced_parcels_are_plain.Goals as goal

pub returns : goal.returns
returns g c = balanced_plain (g.W.Work.kids_of c.args._work.now) (g.W.Work.out_of c.args._work.now)
