use Rattle.ovl_board.proofs.works.ascends.Given as goal
use Rattle.ovl_board.specs.Pieces.{IsBefore}
use Rattle.std.specs.List.{AllAdjacentBelow}

abbrev pub invariant-loop-i : goal.invariant-loop-i
invariant-loop-i l = AllAdjacentBelow IsBefore l.kids l.i
