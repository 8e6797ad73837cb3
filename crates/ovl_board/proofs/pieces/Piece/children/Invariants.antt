use Rattle.std.proofs.Common.{◌≡◌, map}
use Rattle.ovl_board.specs.Pieces.{piece_in}
use Rattle.ovl_board.proofs.pieces.Piece.children.Given as goal

-- those of the names so far
abbrev pub invariant-loop-name : goal.invariant-loop-name
invariant-loop-name g l =
    (goal.iterator-loop-name g).can_next l.name-iterator
    × (goal.iterator-loop-name g).is_finite l.name-iterator
    × (l.kids.items ≡ map (λ name. piece_in l.self name.now) l.yielded)
