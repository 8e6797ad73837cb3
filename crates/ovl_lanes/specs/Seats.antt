-- A seat at its start.
use Rattle.std.specs.Prelude.{◌≡◌, []}
use Rattle.ovl_lanes.specs.declared.seats.Seat.{Seat}
use Rattle.ovl_lanes.specs.Accounts.{owned}
use Rattle.ovl_lanes.specs.Lanes.{account_of, IsOneLane}

-- a seat whose lane is new: nothing was pushed, taken, split off or joined
abbrev pub IsNew : Seat → Type 0
IsNew seat = (account_of seat.lane ≡ owned 0 0 [] []) × IsOneLane seat.lane seat.thief
