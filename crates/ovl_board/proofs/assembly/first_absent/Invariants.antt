use Rattle.std.proofs.Common.{ℕ, ◌<◌, get_or, Contains}
use Rattle.ovl_board.specs.declared.pieces.Piece.{Piece}
use Rattle.ovl_board.proofs.assembly.first_absent.Given as goal

abbrev pub invariant-loop-piece : goal.invariant-loop-piece
invariant-loop-piece l = (d : Piece) (k : ℕ) → k < l.piece-index → Contains l.among (get_or l.pieces k d)
