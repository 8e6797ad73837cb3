use Rattle.std.proofs.Common.{◌≡◌, ◌+◌, vec_len, All, map}
use Rattle.ovl_lanes.specs.Lanes.{lane_id, thief_id}
use Rattle.ovl_lanes.specs.Seats.{IsNew}
use Rattle.ovl_pool.specs.Flows.{HaveNothing}
use Rattle.ovl_pool.proofs.WorkerThreadLemmas.{IsApart}
use Rattle.ovl_pool.proofs.seating.split_seats.Given as goal

abbrev pub invariant-loop-lane : goal.invariant-loop-lane
invariant-loop-lane l = record {
  new : All IsNew l.seats.items;
  split_seats : All IsApart l.workers.items;
  same : map (λ worker. lane_id worker.lane) l.workers.items ≡ map thief_id l.thieves.items;
  all : vec_len l.workers + vec_len l.seats ≡ vec_len l.fn.seats;
  nothing : HaveNothing l.workers.items;
}

abbrev pub decreases-loop-lane : goal.decreases-loop-lane
decreases-loop-lane l = vec_len l.seats
