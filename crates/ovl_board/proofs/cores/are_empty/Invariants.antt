use Rattle.std.proofs.Common.{◌≡◌, ℕ, ◌<◌, get_or}
use Rattle.ovl_board.specs.WorkerStates.{WorkerStateView, empty_worker_state}
use Rattle.ovl_board.proofs.cores.are_empty.Given as goal

abbrev pub invariant-loop-worker_state : goal.invariant-loop-worker_state
invariant-loop-worker_state l = (d : WorkerStateView) (k : ℕ) → k < l.worker_state-index → get_or l.worker_states k d ≡ empty_worker_state
