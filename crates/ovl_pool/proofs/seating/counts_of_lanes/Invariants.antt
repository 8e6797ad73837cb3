use Rattle.std.proofs.Common.{◌≡◌, ◌+◌, vec_len, All, List, length}
use Rattle.ovl_board.specs.declared.pieces.Piece.{Piece}
use Rattle.ovl_board.specs.Balance.{times}
use Rattle.ovl_lanes.specs.Lanes.{IsWhole}
use Rattle.ovl_pool.specs.Flows.{all_pushed, all_taken, each_one, indicator}
use Rattle.ovl_pool.specs.Passes.{HasNone}
use Rattle.ovl_pool.proofs.seating.counts_of_lanes.Given as goal

abbrev pub invariant-loop-lane : goal.invariant-loop-lane
invariant-loop-lane l = record {
  whole : All (λ worker. IsWhole worker.lane) l.workers.items;
  none : All HasNone l.workers.items;
  one_each : vec_len l.workers ≡ vec_len l.thieves;
  counted : l.taken + all_taken each_one l.workers.items ≡ all_taken each_one l.fn.workers.items;
  numbers : l.taken + l.left + all_pushed each_one l.workers.items ≡ all_pushed each_one l.fn.workers.items;
  settled : (left : List Piece) × ((length left ≡ l.left)
      × ((p : Piece) → all_pushed (indicator p) l.fn.workers.items + all_taken (indicator p) l.workers.items ≡ all_taken (indicator p) l.fn.workers.items + all_pushed (indicator p) l.workers.items + times p left));
}

abbrev pub decreases-loop-lane : goal.decreases-loop-lane
decreases-loop-lane l = vec_len l.workers
