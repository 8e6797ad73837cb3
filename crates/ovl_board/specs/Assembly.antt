-- What assembling parcels gives: the parcels in order, or the first fault with its least piece.
use Rattle.std.specs.Prelude.{◌≤◌, List, All, AllPairs, Contains, IsPermutation}
use Rattle.ovl_board.specs.declared.pieces.Piece.{Piece}
use Rattle.ovl_board.specs.declared.works.Parcel.{Parcel}
use Rattle.ovl_board.specs.declared.assembly.BoardFault.{BoardFault}
use Rattle.ovl_board.specs.declared.assembly.BoardFault.TheVariants.{Double, Stranger, Missing, Memory}
use Rattle.ovl_board.specs.Pieces.{IsBefore}
use Rattle.ovl_board.specs.Walks.{Reached, IsWalk}
use Rattle.ovl_board.specs.Parcels.{ParcelView, parcel_views, pieces_of}
use Rattle.ovl_board.specs.Balance.{times, HasKid}

-- P holds of p, and of no piece before it
abbrev pub IsLeast : (Piece → Type 0) → Piece → Type 0
IsLeast P p = P p × ((q : Piece) → P q → ¬ IsBefore q p)

-- P holds of no piece
abbrev pub NoPiece : (Piece → Type 0) → Type 0
NoPiece P = (p : Piece) → ¬ P p

-- the parcels, without their outputs
abbrev pub bare : {O : Type 0} → List (Parcel O) → List (ParcelView (Unit {0}))
bare parcels = parcel_views (λ _. tt) parcels

-- two parcels have the piece
abbrev pub IsDouble : {S : Type 0} → List (ParcelView S) → Piece → Type 0
IsDouble views p = 2 ≤ times p (pieces_of views)

-- a parcel has the piece, to which the parcels' kids don't lead from the root
abbrev pub IsStranger : {S : Type 0} → Piece → List (ParcelView S) → Piece → Type 0
IsStranger root views p = Contains (pieces_of views) p × ¬ Reached (HasKid views) root p

-- the parcels' kids lead to the piece from the root, and no parcel has it
abbrev pub IsMissing : {S : Type 0} → Piece → List (ParcelView S) → Piece → Type 0
IsMissing root views p = Reached (HasKid views) root p × ¬ Contains (pieces_of views) p

-- what a refusal says of the parcels: its least piece, and that no earlier fault is there
abbrev pub IsBoardFault : {S : Type 0} → Piece → List (ParcelView S) → BoardFault → Type 0
IsBoardFault root views (Double p) = IsLeast (IsDouble views) p
IsBoardFault root views (Stranger p) = NoPiece (IsDouble views) × IsLeast (IsStranger root views) p
IsBoardFault root views (Missing p) =
    NoPiece (IsDouble views) × NoPiece (IsStranger root views) × IsLeast (IsMissing root views) p
IsBoardFault root views Memory = Unit {0}

-- the same parcels in the order of pieces, one for each piece to which their kids lead from the
-- root
abbrev pub IsInOrder : {O : Type 0} → Piece → List (Parcel O) → List (Parcel O) → Type 0
IsInOrder root parcels assembled =
    IsPermutation parcels assembled
    × IsWalk (HasKid (bare parcels)) root (pieces_of (bare assembled))

-- a piece of the first list that isn't in the second
abbrev pub IsAbsent : List Piece → List Piece → Piece → Type 0
IsAbsent pieces among p = Contains pieces p × ¬ Contains among p

-- ascending pieces are the expected ones
abbrev pub AreExpected : List Piece → List Piece → Type 0
AreExpected pieces expected =
    AllPairs IsBefore pieces × All (Contains expected) pieces × All (Contains pieces) expected

-- what a refusal says of pieces beside the expected ones
abbrev pub IsListFault : List Piece → List Piece → BoardFault → Type 0
IsListFault pieces expected (Double p) = IsLeast (λ q. 2 ≤ times q pieces) p
IsListFault pieces expected (Stranger p) =
    AllPairs IsBefore pieces × IsLeast (IsAbsent pieces expected) p
IsListFault pieces expected (Missing p) =
    AllPairs IsBefore pieces × All (Contains expected) pieces × IsLeast (IsAbsent expected pieces) p
IsListFault pieces expected Memory = Unit {0}
