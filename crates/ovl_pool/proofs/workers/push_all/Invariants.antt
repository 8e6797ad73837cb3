use Rattle.std.proofs.Common.{◌≡◌, ◌+◌, ℕ, deque_len}
use Rattle.std.specs.List.{sum_by}
use Rattle.ovl_board.specs.declared.pieces.Piece.{Piece}
use Rattle.ovl_pool.specs.Flows.{lane_pushed, lane_taken}
use Rattle.ovl_pool.specs.Passes.{ends_of}
use Rattle.ovl_pool.proofs.workers.push_all.Given as goal

abbrev pub invariant-loop-piece : goal.invariant-loop-piece
invariant-loop-piece l = record {
  same : ends_of l.lane ≡ ends_of l.fn.lane;
  pushed : (h : Piece → ℕ) → (lane_pushed h l.lane + sum_by h l.pieces.items ≡ lane_pushed h l.fn.lane + sum_by h l.fn.pieces.items) × (lane_taken h l.lane ≡ lane_taken h l.fn.lane);
}

abbrev pub decreases-loop-piece : goal.decreases-loop-piece
decreases-loop-piece l = deque_len l.pieces
