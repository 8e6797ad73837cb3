-- The machine of workers: the state of each, the parcels so far, and what each event does.
use Rattle.std.specs.Prelude.{◌≡◌, ℕ, ◌-◌, ◌==◌, nat_lt, ◌&&◌, if◌then◌else◌, List, [], ◌∷◌, ◌++◌, length, replicate, All, Option, Some, None, unwrap_or, slice_index_or, slice_set}
use Rattle.std.specs.List.{flat_map}
use Rattle.std.specs.Option.{option_to_list}
use Rattle.ovl_board.specs.declared.pieces.Piece.{Piece}
use Rattle.ovl_board.specs.declared.events.Event.{Event}
use Rattle.ovl_board.specs.declared.events.Event.TheVariants.{Pop, Steal, Work, Push}
use Rattle.ovl_board.specs.WorkerStates.{WorkerStateView, empty_worker_state, is_free, pushed_worker_state}
use Rattle.ovl_board.specs.Parcels.{ParcelView, own_view}
use Rattle.ovl_board.specs.Balance.{IsBalanced}

-- the most workers
abbrev pub worker_limit : ℕ
worker_limit = 64

-- the states, one for each worker, and the parcels
pub record CoreState (S : Type 0) : Type 0 where
  pub worker_states : List WorkerStateView
  pub parcels : List (ParcelView S)

-- at the start the first lane holds the root, and nothing else is anywhere
abbrev pub start_worker_states : Piece → ℕ → List WorkerStateView
start_worker_states root workers =
    record empty_worker_state { lane = root ∷ [] } ∷ replicate (workers - 1) empty_worker_state

abbrev pub start_state : {S : Type 0} → Piece → ℕ → CoreState S
start_state root workers = record { worker_states = start_worker_states root workers; parcels = [] }

-- a worker's state, and an empty one where there is no such worker
abbrev pub worker_state_of : List WorkerStateView → ℕ → WorkerStateView
worker_state_of worker_states w = slice_index_or worker_states w empty_worker_state

abbrev pub with_worker_state : List WorkerStateView → ℕ → Option WorkerStateView → Option (List WorkerStateView)
with_worker_state worker_states w None = None
with_worker_state worker_states w (Some worker_state) = Some (slice_set worker_states w worker_state)

-- worker w takes the first piece of the lane of l into its empty hand, while its outbox is empty
abbrev pub hold : List WorkerStateView → ℕ → Piece → List WorkerStateView
hold worker_states w p = slice_set worker_states w (record (worker_state_of worker_states w) { hand = Some p })

abbrev pub take_first : List WorkerStateView → ℕ → ℕ → List Piece → Option (List WorkerStateView)
take_first worker_states w l [] = None
take_first worker_states w l (p ∷ rest) =
    Some (hold (slice_set worker_states l (record (worker_state_of worker_states l) { lane = rest })) w p)

abbrev pub after_take : List WorkerStateView → ℕ → ℕ → Option (List WorkerStateView)
after_take worker_states w l =
    if nat_lt w (length worker_states) && is_free (worker_state_of worker_states w)
    then take_first worker_states w l (worker_state_of worker_states l).lane else None

-- the same from the lane of another worker
abbrev pub after_steal : List WorkerStateView → ℕ → ℕ → Option (List WorkerStateView)
after_steal worker_states w l = if w == l then None else after_take worker_states w l

-- worker w moves the first kid of its outbox to the back of its lane
abbrev pub after_push : List WorkerStateView → ℕ → Option (List WorkerStateView)
after_push worker_states w = with_worker_state worker_states w (pushed_worker_state (worker_state_of worker_states w))

module _ {S : Type 0} (kids : Piece → List Piece) (out : Piece → S) where
  -- worker w turns the piece in its hand into a parcel, and its kids become the outbox
  abbrev pub work_piece : CoreState S → ℕ → Option Piece → Option (CoreState S)
  work_piece s w None = None
  work_piece s w (Some p) = Some (record {
    worker_states = slice_set s.worker_states w (record (worker_state_of s.worker_states w) { hand = None; outbox = kids p });
    parcels = s.parcels ++ own_view kids out p ∷ [];
  })

  abbrev pub with_worker_states : CoreState S → Option (List WorkerStateView) → Option (CoreState S)
  with_worker_states s None = None
  with_worker_states s (Some worker_states) = Some (record s { worker_states = worker_states })

  -- the state after an event, where it is possible
  abbrev pub after : CoreState S → Event → Option (CoreState S)
  after s (Pop w) = with_worker_states s (after_take s.worker_states w w)
  after s (Steal w l) = with_worker_states s (after_steal s.worker_states w l)
  after s (Work w) = work_piece s w (worker_state_of s.worker_states w).hand
  after s (Push w) = with_worker_states s (after_push s.worker_states w)

  -- the state after events, of which those that aren't possible change nothing
  abbrev pub after_all : CoreState S → List Event → CoreState S
  after_all s [] = s
  after_all s (e ∷ es) = after_all (unwrap_or (after s e) s) es

-- the pieces on a state, and on all states
abbrev pub worker_state_pieces : WorkerStateView → List Piece
worker_state_pieces worker_state = worker_state.lane ++ option_to_list worker_state.hand ++ worker_state.outbox

abbrev pub open_pieces : List WorkerStateView → List Piece
open_pieces worker_states = flat_map worker_state_pieces worker_states

-- nothing is open
abbrev pub IsIdle : List WorkerStateView → Type 0
IsIdle worker_states = All (λ worker_state. worker_state ≡ empty_worker_state) worker_states

-- a full hand is beside an empty outbox, and the root with all kids are the pieces of the
-- parcels with the open ones
pub record IsCoreState {S : Type 0} (root : Piece) (s : CoreState S) : Type 0 where
  pub free : All (λ worker_state. (p : Piece) → worker_state.hand ≡ Some p → worker_state.outbox ≡ []) s.worker_states
  pub balance : IsBalanced root s.parcels (open_pieces s.worker_states)
