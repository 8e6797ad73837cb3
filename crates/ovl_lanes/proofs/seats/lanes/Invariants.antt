use Rattle.std.proofs.Common.{◌≡◌, vec_len, All}
use Rattle.ovl_lanes.specs.Seats.{IsNew}
use Rattle.ovl_lanes.proofs.seats.lanes.Given as goal

abbrev pub invariant-loop : goal.invariant-loop
invariant-loop l = (vec_len l.seats ≡ l.counter) × All IsNew l.seats.items
