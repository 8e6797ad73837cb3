-- Parcels as contracts see them, and the plain walk of a work.
use mathlib.Core.List.{is_set}
use Rattle.std.specs.Prelude.{◌≡◌, List, map, IsPermutation}
use Rattle.ovl_board.specs.declared.pieces.Piece.{Piece}
use Rattle.ovl_board.specs.declared.works.Parcel.{Parcel}
use Rattle.ovl_board.specs.Walks.{IsWalk, ToKid}

-- a parcel: its piece, its kids, and what is seen of its output
pub record ParcelView (S : Type 0) : Type 0 where
  pub piece : Piece
  pub kids : List Piece
  pub seen : S

abbrev pub parcel_view : {O S : Type 0} → (O → S) → Parcel O → ParcelView S
parcel_view seen parcel =
    record { piece = parcel.piece; kids = parcel.kids.items; seen = seen parcel.out }

abbrev pub parcel_views : {O S : Type 0} → (O → S) → List (Parcel O) → List (ParcelView S)
parcel_views seen parcels = map (parcel_view seen) parcels

abbrev pub pieces_of : {S : Type 0} → List (ParcelView S) → List Piece
pieces_of views = map (λ view. view.piece) views

-- the parcel that a work makes of a piece
abbrev pub own_view : {S : Type 0} → (Piece → List Piece) → (Piece → S) → Piece → ParcelView S
own_view kids out piece = record { piece = piece; kids = kids piece; seen = out piece }

-- each parcel is the one that the work makes of its piece
abbrev pub AreOwn : {S : Type 0} → (Piece → List Piece) → (Piece → S) → List (ParcelView S) → Type 0
AreOwn kids out views = views ≡ map (own_view kids out) (pieces_of views)

-- the plain walk: the work's own parcels of all pieces that kids lead to from the root, each once,
-- in the order of pieces
pub record IsPlain {S : Type 0} (kids : Piece → List Piece) (out : Piece → S) (root : Piece)
    (views : List (ParcelView S)) : Type 0 where
  pub walk : IsWalk (ToKid kids) root (pieces_of views)
  pub own : AreOwn kids out views

-- that parcels are a work's own has one proof, where what is seen of an output is plain data
pub AreOwn-prop : {S : Type 0} → IsSet S → IsSet Piece
    → (kids : Piece → List Piece) (out : Piece → S) (views : List (ParcelView S))
    → IsProp (AreOwn kids out views)
AreOwn-prop {S} seen_set piece_set kids out views =
    let view_set : IsSet (ParcelView S) = hlevel is_set
    in is_set view_set views (map (own_view kids out) (pieces_of views))

-- the plain walk's parcels, in some order
abbrev pub IsPlainUnordered : {S : Type 0} → (Piece → List Piece) → (Piece → S) → Piece
    → List (ParcelView S) → Type 0
IsPlainUnordered {S} kids out root views =
    (walk : List (ParcelView S)) × (IsPlain kids out root walk × IsPermutation walk views)
