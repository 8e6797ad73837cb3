use Rattle.ovl_board.proofs.LawsOfWalks.{KeepsBalance-holds}
use Rattle.ovl_board.proofs.laws.events_keep_the_balance.Goals as goal

pub returns : goal.returns
returns g c = KeepsBalance-holds (g.W.Work.kids_of c.args._work.now) (g.W.Work.out_of c.args._work.now)
