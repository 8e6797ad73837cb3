use Rattle.std.specs.List.{AllAdjacentBelow}
use Rattle.ovl_board.specs.Pieces.{IsBefore}
use Rattle.ovl_board.proofs.assembly.first_double.Given as goal

abbrev pub invariant-loop-i : goal.invariant-loop-i
invariant-loop-i l = AllAdjacentBelow IsBefore l.pieces l.i
