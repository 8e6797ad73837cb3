use Rattle.ovl_board.proofs.TreeLemmas.{tree_lawful}
use Rattle.ovl_board.proofs.trees.TreeWork.deepest.Goals as goal

pub returns-clause-lawful : goal.returns-clause-lawful
returns-clause-lawful c = rw (← c.self.view_is) (tree_lawful c.self.inside.paths.items c.self.invariant.0.ascend)
