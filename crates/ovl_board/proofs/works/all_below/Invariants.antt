use Rattle.std.proofs.Common.{ℕ, ◌<◌, get_or}
use Rattle.ovl_board.specs.declared.pieces.Piece.{Piece}
use Rattle.ovl_board.specs.Pieces.{IsOneBelow}
use Rattle.ovl_board.proofs.works.all_below.Given as goal

abbrev pub invariant-loop-kid : goal.invariant-loop-kid
invariant-loop-kid l = (d : Piece) (k : ℕ) → k < l.kid-index → IsOneBelow l.piece (get_or l.kids k d)
