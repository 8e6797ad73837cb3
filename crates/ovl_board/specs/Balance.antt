-- The balance of a run: each piece is the root or a kid as often as it has a parcel or is open.
use Rattle.std.specs.Prelude.{◌≡◌, ℕ, ◌++◌, ◌∷◌, List, Bool, All, Contains, count_by}
use Rattle.std.specs.List.{flat_map}
use Rattle.std.specs.Ordering.{is_eq}
use Rattle.ovl_board.specs.declared.pieces.Piece.{Piece}
use Rattle.ovl_board.specs.Pieces.{piece_cmp, AreLawfulKids}
use Rattle.ovl_board.specs.Parcels.{ParcelView, pieces_of}

-- how often a piece is in a list
abbrev pub is_same : Piece → Piece → Bool
is_same p q = is_eq (piece_cmp p q)

abbrev pub times : Piece → List Piece → ℕ
times p pieces = count_by (is_same p) pieces

-- the kids of all parcels
abbrev pub kids_in : {S : Type 0} → List (ParcelView S) → List Piece
kids_in views = flat_map (λ view. view.kids) views

-- the root with the kids of all parcels has each piece as often as the parcels with the open pieces
abbrev pub IsBalanced : {S : Type 0} → Piece → List (ParcelView S) → List Piece → Type 0
IsBalanced root views open_ones =
    (p : Piece) → times p (root ∷ kids_in views) ≡ times p (pieces_of views ++ open_ones)

-- the kids of each parcel are lawful
abbrev pub AllLawful : {S : Type 0} → List (ParcelView S) → Type 0
AllLawful views = All (λ view. AreLawfulKids view.piece view.kids) views

-- some parcel of p has q among its kids
abbrev pub HasKid : {S : Type 0} → List (ParcelView S) → Piece → Piece → Type 0
HasKid {S} views p q =
    (view : ParcelView S) × (Contains views view × ((view.piece ≡ p) × Contains view.kids q))
