-- What clauses see of lanes, thieves and passes: accounts, and which lane each is of.
use Rattle.std.specs.Prelude.{◌≡◌, ◌⊎◌, ℕ, ◌≤◌, ◌+◌, ◌^◌, ◌++◌, List, length}
use Rattle.std.specs.declared.alloc.Global.{Global}
use Rattle.crossbeam_deque.specs.Handles.{view, IsPassOf, worker_deque, stealer_deque, worker_view, worker_capacity}
use Rattle.ovl_board.specs.declared.pieces.Piece.{Piece}
use Rattle.ovl_board.specs.Balance.{times}
use Rattle.ovl_lanes.specs.declared.accounts.Account.{Account}
use Rattle.ovl_lanes.specs.declared.ends.Lane.{Lane}
use Rattle.ovl_lanes.specs.declared.ends.Thief.{Thief}
use Rattle.ovl_lanes.specs.declared.ends.Pass.{Pass}

abbrev pub account_of : Lane → Account
account_of lane = worker_view lane.deque

-- each piece was pushed as often as it was taken or is left
abbrev pub IsSettled : Account → List Piece → Type 0
IsSettled a left = (p : Piece) → times p a.pushed ≡ times p (a.taken ++ left)

-- as many pieces were pushed as the lane has slots or more, or as many as can be counted
abbrev pub IsUsedUp : Lane → Type 0
IsUsedUp lane =
    (worker_capacity lane.deque ≤ length (account_of lane).pushed)
    ⊎ (length (account_of lane).pushed + 1 ≡ 2 ^ 64)

-- every pass that was split from the lane is joined again
abbrev pub IsWhole : Lane → Type 0
IsWhole lane = (account_of lane).split ≡ (account_of lane).joined

abbrev pub stolen_by : Pass → List Piece
stolen_by pass = (view pass.account).taken

-- which lane it is
abbrev pub LaneId : Type 0
LaneId = (ℕ × ℕ) × Global

abbrev pub lane_id : Lane → LaneId
lane_id lane = worker_deque lane.deque

abbrev pub thief_id : Thief → LaneId
thief_id thief = stealer_deque thief.deque

-- the pass was split from that lane
abbrev pub IsPass : LaneId → Pass → Type 0
IsPass id pass = IsPassOf id pass.account

-- the pass was split from the lane
abbrev pub IsOfLane : Lane → Pass → Type 0
IsOfLane lane pass = IsPass (lane_id lane) pass

-- the pass is one of the lane whose thief this is
abbrev pub IsOfThief : Thief → Pass → Type 0
IsOfThief thief pass = IsPass (thief_id thief) pass

-- the lane and the thief are ends of one lane
abbrev pub IsOneLane : Lane → Thief → Type 0
IsOneLane lane thief = thief_id thief ≡ lane_id lane

abbrev pub IsSameLane : Lane → Lane → Type 0
IsSameLane old new = lane_id new ≡ lane_id old
