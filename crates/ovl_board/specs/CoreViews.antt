-- A core's states and parcels as a state of the machine.
use Rattle.std.specs.Prelude.{List}
use Rattle.ovl_board.specs.declared.works.Parcel.{Parcel}
use Rattle.ovl_board.specs.WorkerStates.{WorkerStateView}
use Rattle.ovl_board.specs.Parcels.{parcel_views}
use Rattle.ovl_board.specs.Machine.{CoreState}

abbrev pub core_state : {O S : Type 0} → (O → S) → List WorkerStateView → List (Parcel O) → CoreState S
core_state seen worker_states parcels = record { worker_states = worker_states; parcels = parcel_views seen parcels }
