-- Pieces of work: what they are, their order, and which kids a piece may have.
use Rattle.std.specs.Prelude.{◌≡◌, ℕ, ◌≤◌, List, [], length, All, AllPairs}
use Rattle.std.specs.Ordering.{nat_cmp, ordering_then}
use Rattle.std.specs.declared.cmp.Ordering.{Ordering}
use Rattle.std.specs.declared.cmp.Ordering.TheVariants.{Less}
use Rattle.ovl_names.specs.Names.{PathName}
use Rattle.ovl_names.specs.Paths.{PathNames, path_cmp, child_path}
use Rattle.ovl_board.specs.declared.pieces.Piece.{Piece}

-- a directory of a space as a piece, and the root of the space
abbrev pub piece_at : ℕ → PathNames → Piece
piece_at space dir = record { space = space; dir = dir }

abbrev pub space_root : ℕ → Piece
space_root space = piece_at space []

-- an entry of a piece's directory as a piece
abbrev pub piece_in : Piece → PathName → Piece
piece_in piece name = piece_at piece.space (child_path piece.dir name)

-- pieces by space, and then by path
abbrev pub piece_cmp : Piece → Piece → Ordering
piece_cmp p q = ordering_then (nat_cmp p.space q.space) (path_cmp p.dir q.dir)

abbrev pub IsBefore : Piece → Piece → Type 0
IsBefore p q = piece_cmp p q ≡ Less

-- q lies one name below p, in its space
abbrev pub IsOneBelow : Piece → Piece → Type 0
IsOneBelow p q = (q.space ≡ p.space) × ((name : PathName) × (q.dir ≡ child_path p.dir name))

-- kids lie one name below their piece, and ascend strictly
pub record AreLawfulKids (piece : Piece) (kids : List Piece) : Type 0 where
  pub below : All (IsOneBelow piece) kids
  pub ascend : AllPairs IsBefore kids

-- the kids of each piece are lawful, and have at most `deepest` names
pub record HasLawfulKids (kids : Piece → List Piece) (deepest : ℕ) : Type 0 where
  pub lawful : (p : Piece) → AreLawfulKids p (kids p)
  pub shallow : (p : Piece) → All (λ kid. length kid.dir ≤ deepest) (kids p)
