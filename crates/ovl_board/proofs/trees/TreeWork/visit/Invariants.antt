use Rattle.std.proofs.Common.{◌≡◌, take}
use Rattle.ovl_board.specs.Trees.{tree_kids}
use Rattle.ovl_board.proofs.trees.TreeWork.visit.Given as goal

abbrev pub invariant-loop-path : goal.invariant-loop-path
invariant-loop-path l = l.kids.items ≡ tree_kids (take l.path-index l.path-items) l.piece
