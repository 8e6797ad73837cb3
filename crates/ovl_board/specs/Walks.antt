-- What is reached from a root by steps, and the walk over it.
use Rattle.std.specs.Prelude.{◌≡◌, ℕ, zero, suc, ◌++◌, List, [], ◌∷◌, All, AllPairs, Contains}
use Rattle.std.specs.List.{flat_map}
use Rattle.ovl_names.specs.Paths.{PathNames}
use Rattle.ovl_board.specs.declared.pieces.Piece.{Piece}
use Rattle.ovl_board.specs.Pieces.{piece_in, IsBefore}

-- what is reached from the root: the root, and what a step leads to from what is reached
pub data Reached (Step : Piece → Piece → Type 0) (root : Piece) : Piece → Type 0 where
  start : Reached Step root root
  next : {p q : Piece} → Reached Step root p → Step p q → Reached Step root q

-- the pieces that are reached, each once, in the order of pieces
pub record IsWalk (Step : Piece → Piece → Type 0) (root : Piece)
    (pieces : List Piece) : Type 0 where
  pub ascend : AllPairs IsBefore pieces
  pub reached : All (Reached Step root) pieces
  pub whole : (p : Piece) → Reached Step root p → Contains pieces p

-- a step to a kid
abbrev pub ToKid : (Piece → List Piece) → Piece → Piece → Type 0
ToKid kids p q = Contains (kids p) q

-- each step of a path down from a piece goes to a kid
abbrev pub StepsToKids : (Piece → List Piece) → Piece → PathNames → Type 0
StepsToKids kids piece [] = Unit {0}
StepsToKids kids piece (name ∷ names) =
    ToKid kids piece (piece_in piece name) × StepsToKids kids (piece_in piece name) names

-- a piece under the root, in its space, to which kids lead name by name
abbrev pub IsReachedByNames : (Piece → List Piece) → Piece → Piece → Type 0
IsReachedByNames kids root p =
    (p.space ≡ root.space)
    × ((names : PathNames)
    × ((p.dir ≡ root.dir ++ names) × StepsToKids kids root names))

-- a piece and, `depth` times at most, the kids of what is before: what one call of the walk
-- appends
abbrev pub preorder : (Piece → List Piece) → ℕ → Piece → List Piece
preorder kids zero p = p ∷ []
preorder kids (suc depth) p = p ∷ flat_map (λ kid. preorder kids depth kid) (kids p)
