use Rattle.ovl_board.proofs.LawsOfWalks.{HasReachedPieces-holds}
use Rattle.ovl_board.proofs.laws.plain_walk_has_the_reached_pieces.Goals as goal

pub returns : goal.returns
returns g c = HasReachedPieces-holds (g.W.Work.kids_of c.args._work.now) (g.W.Work.out_of c.args._work.now)
