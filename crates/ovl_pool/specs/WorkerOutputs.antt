-- What workers bring.
use Rattle.std.specs.Prelude.{◌≡◌, ◌++◌, ◌||◌, List, None, IfSome, false, AllPairs, IsPermutation}
use Rattle.std.specs.Option.{option_or}
use Rattle.ovl_board.specs.declared.pieces.Piece.{Piece}
use Rattle.ovl_board.specs.declared.works.Parcel.{Parcel}
use Rattle.ovl_board.specs.Pieces.{IsBefore}
use Rattle.ovl_board.specs.Parcels.{parcel_views, AreOwn}
use Rattle.ovl_pool.specs.declared.worker_outputs.WorkerOutput.{WorkerOutput}

-- the parcels are the work's own, and a refused piece is one that the gate may refuse
abbrev pub IsOwnWorkerOutput : {O S : Type 0} → (O → S) → (Piece → List Piece) → (Piece → S)
    → (Piece → Type 0) → WorkerOutput O → Type 0
IsOwnWorkerOutput seen kids out may_refuse worker_output =
    AreOwn kids out (parcel_views seen worker_output.parcels.items) × IfSome worker_output.refused may_refuse

-- no worker was out of memory, and the gate refused nothing
abbrev pub IsClean : {O : Type 0} → WorkerOutput O → Type 0
IsClean worker_output = (worker_output.out_of_memory ≡ false) × (worker_output.refused ≡ None)

-- parcels come in the order of their pieces
abbrev pub AreInPieceOrder : {O : Type 0} → List (Parcel O) → Type 0
AreInPieceOrder {O} parcels = AllPairs (λ (a b : Parcel O). ¬ IsBefore b.piece a.piece) parcels

-- both outputs in one, in the order of pieces where each of them is, with the first of two refused
-- pieces
pub record IsWorkerOutputOfBoth {O : Type 0} (first second both : WorkerOutput O) : Type 0 where
  pub parcels : IsPermutation (first.parcels.items ++ second.parcels.items) both.parcels.items
  pub order : AreInPieceOrder first.parcels.items → AreInPieceOrder second.parcels.items
      → AreInPieceOrder both.parcels.items
  pub refused : both.refused ≡ option_or first.refused second.refused
  pub out_of_memory : both.out_of_memory ≡ (first.out_of_memory || second.out_of_memory)
