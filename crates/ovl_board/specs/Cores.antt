-- What clauses see of a core: its work, its root, and its state.
use Rattle.std.specs.Prelude.{List}
use Rattle.ovl_board.specs.declared.pieces.Piece.{Piece}
use Rattle.ovl_board.specs.declared.works.Parcel.{Parcel}
use Rattle.ovl_board.specs.declared.cores.Core.{Core}
use Rattle.ovl_board.specs.Machine.{CoreState}
use Rattle.ovl_board.specs.CoreViews.{core_state}

module _ {W O : Type 0} {g : _} where
  abbrev pub work_of : Core W O g → W
  work_of core = core.work.now

  abbrev pub root_of : Core W O g → Piece
  root_of core = core.root

  abbrev pub parcels_of : Core W O g → List (Parcel O)
  parcels_of core = core.parcels.items

  abbrev pub state_of : {S : Type 0} → (O → S) → Core W O g → CoreState S
  state_of seen core = core_state seen core.worker_states.items core.parcels.items
