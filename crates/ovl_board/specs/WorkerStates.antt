-- The state of a worker, and what the worker does with it.
use Rattle.std.specs.Prelude.{◌==◌, Bool, ◌&&◌, List, [], ◌∷◌, ◌++◌, length, Option, Some, None, is_none}
use Rattle.ovl_board.specs.declared.pieces.Piece.{Piece}

-- the lane of pieces to do, the piece in the hand, and the kids in the outbox
pub record WorkerStateView : Type 0 where
  pub lane : List Piece
  pub hand : Option Piece
  pub outbox : List Piece

abbrev pub empty_worker_state : WorkerStateView
empty_worker_state = record { lane = []; hand = None; outbox = [] }

-- the worker may take a piece: its hand and its outbox are empty
abbrev pub is_free : WorkerStateView → Bool
is_free worker_state = is_none worker_state.hand && (length worker_state.outbox == 0)

-- the first kid of the outbox goes to the back of the lane
abbrev pub push_first : WorkerStateView → List Piece → Option WorkerStateView
push_first worker_state [] = None
push_first worker_state (p ∷ rest) = Some (record worker_state { lane = worker_state.lane ++ p ∷ []; outbox = rest })

abbrev pub pushed_worker_state : WorkerStateView → Option WorkerStateView
pushed_worker_state worker_state = push_first worker_state worker_state.outbox
