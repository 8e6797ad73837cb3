-- Laws of walks, parcels and the machine of workers.
use Rattle.std.specs.Prelude.{◌≡◌, ℕ, ◌≤◌, ◌↔◌, List, [], AllPairs, Contains}
use Rattle.ovl_board.specs.declared.pieces.Piece.{Piece}
use Rattle.ovl_board.specs.declared.works.Parcel.{Parcel}
use Rattle.ovl_board.specs.declared.events.Event.{Event}
use Rattle.ovl_board.specs.Pieces.{IsBefore, HasLawfulKids}
use Rattle.ovl_board.specs.Walks.{Reached, IsReachedByNames, ToKid}
use Rattle.ovl_board.specs.Parcels.{ParcelView, parcel_views, pieces_of, AreOwn, IsPlain, IsPlainUnordered}
use Rattle.ovl_board.specs.Balance.{times, IsBalanced, AllLawful}
use Rattle.ovl_board.specs.Assembly.{NoPiece, IsDouble, IsStranger, IsMissing, IsInOrder, bare}
use Rattle.ovl_board.specs.Machine.{CoreState, start_state, after_all, open_pieces}

-- with lawful kids, the pieces that are reached are those under the root to which kids lead name by
-- name
abbrev pub ReachedByNames : Type 0
ReachedByNames =
    (kids : Piece → List Piece) (deepest : ℕ) → HasLawfulKids kids deepest → (root p : Piece)
    → Reached (ToKid kids) root p ↔ IsReachedByNames kids root p

module _ {S : Type 0} (kids : Piece → List Piece) (out : Piece → S) where
  -- a plain walk has exactly the reached pieces, ascending, each once, and it is the only one
  abbrev pub HasReachedPieces : Type 0
  HasReachedPieces = (root : Piece) (views : List (ParcelView S)) → IsPlain kids out root views →
      ((p : Piece) → Contains (pieces_of views) p ↔ Reached (ToKid kids) root p)
      × AllPairs IsBefore (pieces_of views)
      × ((p : Piece) → times p (pieces_of views) ≤ 1)
      × ((others : List (ParcelView S)) → IsPlain kids out root others → others ≡ views)

  -- after every list of events the parcels and what is open are in balance
  abbrev pub KeepsBalance : Type 0
  KeepsBalance = (root : Piece) (workers : ℕ) (events : List Event) →
      let s : CoreState S = after_all kids out (start_state root workers) events in
      IsBalanced root s.parcels (open_pieces s.worker_states)

  -- a work's own parcels that balance with nothing open are its plain walk, in some order
  abbrev pub BalancedArePlain : Type 0
  BalancedArePlain =
      (deepest : ℕ) → HasLawfulKids kids deepest → (root : Piece) (views : List (ParcelView S)) →
      AreOwn kids out views → IsBalanced root views [] → IsPlainUnordered kids out root views

  -- the parcels of a plain walk in some order are the work's own
  abbrev pub PlainAreOwn : Type 0
  PlainAreOwn =
      (root : Piece) (views : List (ParcelView S)) → IsPlainUnordered kids out root views
      → AreOwn kids out views

  -- a work's own parcels may be assembled, and in order they are its plain walk
  abbrev pub OwnAssemble : {O : Type 0} → (O → S) → Type 0
  OwnAssemble {O} seen =
      (deepest : ℕ) → HasLawfulKids kids deepest → (parcels : List (Parcel O))
      → AreOwn kids out (parcel_views seen parcels) →
      AllLawful (bare parcels)
      × ((root : Piece) (assembled : List (Parcel O)) → IsInOrder root parcels assembled
      → IsPlain kids out root (parcel_views seen assembled))

-- parcels with lawful kids that balance with nothing open have no double, no stranger and no
-- missing piece
abbrev pub BalancedHaveNoFault : Type 0
BalancedHaveNoFault =
    (root : Piece) (views : List (ParcelView (Unit {0}))) → AllLawful views
    → IsBalanced root views [] →
    NoPiece (IsDouble views) × NoPiece (IsStranger root views) × NoPiece (IsMissing root views)

-- parcels in order have no fault, so that only one answer fits
abbrev pub InOrderHaveNoFault : Type 0 → Type 0
InOrderHaveNoFault O =
    (root : Piece) (parcels assembled : List (Parcel O)) → IsInOrder root parcels assembled →
    NoPiece (IsDouble (bare parcels)) × NoPiece (IsStranger root (bare parcels))
    × NoPiece (IsMissing root (bare parcels))
