use Rattle.std.proofs.Common.{◌≡◌, true}
use Rattle.std.specs.List.{AllAdjacentBelow}
use Rattle.ovl_board.specs.Trees.{is_next}
use Rattle.ovl_board.proofs.trees.each_follows.Given as goal

abbrev pub invariant-loop-i : goal.invariant-loop-i
invariant-loop-i l = AllAdjacentBelow (λ d e. is_next d e ≡ true) l.paths l.i
