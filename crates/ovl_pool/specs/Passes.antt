-- The passes that workers hold, and the lanes from which they were split.
use Rattle.std.specs.Prelude.{◌≡◌, ℕ, ◌+◌, ◌<◌, ◌==◌, List, [], All, map, length, count_by, slice_index_or}
use Rattle.std.specs.List.{sum_by, HoldsAt}
use Rattle.ovl_lanes.specs.declared.ends.Lane.{Lane}
use Rattle.ovl_lanes.specs.declared.ends.Thief.{Thief}
use Rattle.ovl_lanes.specs.Lanes.{LaneId, lane_id, thief_id, account_of, IsOfThief}
use Rattle.ovl_pool.specs.declared.workers.Worker.{Worker}
use Rattle.ovl_pool.specs.declared.workers.Other.{Other}

-- the pass is one of the lane that it names
unfoldable pub IsOther : List Thief → Other → Type 0
IsOther thieves other =
    (other.lane < length thieves) × HoldsAt (λ thief. IsOfThief thief other.pass) thieves other.lane

-- each pass of the worker is one of the lane that it names
abbrev pub HasPasses : List Thief → Worker → Type 0
HasPasses thieves worker = All (IsOther thieves) worker.others.items

-- which lane it is, and how many passes were split from it and joined to it
pub record LaneEnds : Type 0 where
  pub id : LaneId
  pub split : ℕ
  pub joined : ℕ

abbrev pub ends_of : Lane → LaneEnds
ends_of lane =
    record { id = lane_id lane; split = (account_of lane).split; joined = (account_of lane).joined }

-- what work leaves as it is: the ends of the worker's lane, and the lanes that its passes name
pub record Post : Type 0 where
  pub ends : LaneEnds
  pub named : List ℕ

abbrev pub names_of : List Other → List ℕ
names_of others = map (λ (other : Other). other.lane) others

abbrev pub post_of : Worker → Post
post_of worker = record { ends = ends_of worker.lane; named = names_of worker.others.items }

-- how often a lane is named
abbrev pub times_named : ℕ → List ℕ → ℕ
times_named lane named = count_by (λ n. n == lane) named

-- how many passes of a lane the workers at these posts hold
abbrev pub held_of : ℕ → List Post → ℕ
held_of lane posts = sum_by (λ post. times_named lane post.named) posts

-- each pass that was split from a lane is joined again, held by a worker, or one of the loose ones
abbrev pub AreOutBut : List ℕ → List Post → Type 0
AreOutBut loose posts =
    (lane : ℕ) (d : Post) → lane < length posts
    → (slice_index_or posts lane d).ends.split
    ≡ (slice_index_or posts lane d).ends.joined + held_of lane posts + times_named lane loose

-- the posts are those of these lanes in their order, and all passes that aren't joined again are
-- held
abbrev pub AreRunning : List Post → List LaneId → Type 0
AreRunning posts ids = (map (λ post. post.ends.id) posts ≡ ids) × AreOutBut [] posts

-- the workers hold all passes of their lanes, whose thieves these are
abbrev pub AreSeated : List Thief → List Worker → Type 0
AreSeated thieves workers =
    All (HasPasses thieves) workers × AreRunning (map post_of workers) (map thief_id thieves)

-- the worker holds no pass
abbrev pub HasNone : Worker → Type 0
HasNone worker = worker.others.items ≡ []
