-- What goes through lanes, however pieces are weighed: a weight of 1 for each piece counts them,
-- one of 1 for a single piece says how often that one comes.
use Rattle.std.specs.Prelude.{◌≡◌, ℕ, ◌+◌, ◌≤◌, List, length, Option, Some, None, if◌then◌else◌}
use Rattle.std.specs.List.{sum_by}
use Rattle.ovl_board.specs.declared.pieces.Piece.{Piece}
use Rattle.ovl_board.specs.declared.works.Parcel.{Parcel}
use Rattle.ovl_board.specs.Balance.{is_same, times}
use Rattle.ovl_lanes.specs.declared.ends.Lane.{Lane}
use Rattle.ovl_lanes.specs.Lanes.{account_of, stolen_by}
use Rattle.ovl_pool.specs.declared.worker_outputs.WorkerOutput.{WorkerOutput}
use Rattle.ovl_pool.specs.declared.workers.Worker.{Worker}
use Rattle.ovl_pool.specs.declared.workers.Other.{Other}
use Rattle.ovl_pool.specs.declared.runs.RunCount.{RunCount}

-- the pieces that were pushed to a lane, and those that its owner took
abbrev pub lane_pushed : (Piece → ℕ) → Lane → ℕ
lane_pushed h lane = sum_by h (account_of lane).pushed

abbrev pub lane_taken : (Piece → ℕ) → Lane → ℕ
lane_taken h lane = sum_by h (account_of lane).taken

-- the pieces that were stolen by passes
abbrev pub stolen : (Piece → ℕ) → List Other → ℕ
stolen h others = sum_by (λ (other : Other). sum_by h (stolen_by other.pass)) others

-- the pieces that a worker pushed to its lane, and those that it took from it and by its passes
abbrev pub pushed : (Piece → ℕ) → Worker → ℕ
pushed h worker = lane_pushed h worker.lane

abbrev pub taken : (Piece → ℕ) → Worker → ℕ
taken h worker = lane_taken h worker.lane + stolen h worker.others.items

-- what all workers pushed and took
abbrev pub all_pushed : (Piece → ℕ) → List Worker → ℕ
all_pushed h workers = sum_by (pushed h) workers

abbrev pub all_taken : (Piece → ℕ) → List Worker → ℕ
all_taken h workers = sum_by (taken h) workers

-- the pieces of parcels, and their kids
abbrev pub delivered : {O : Type 0} → (Piece → ℕ) → List (Parcel O) → ℕ
delivered {O} h parcels = sum_by (λ (parcel : Parcel O). h parcel.piece) parcels

abbrev pub below : {O : Type 0} → (Piece → ℕ) → List (Parcel O) → ℕ
below {O} h parcels = sum_by (λ (parcel : Parcel O). sum_by h parcel.kids.items) parcels

-- a piece that the gate refused, if there is one
abbrev pub refused_weight : (Piece → ℕ) → Option Piece → ℕ
refused_weight h None = 0
refused_weight h (Some piece) = h piece

-- the pieces that an output accounts for: those of its parcels, and the refused one
abbrev pub accounted : {O : Type 0} → (Piece → ℕ) → WorkerOutput O → ℕ
accounted h worker_output = delivered h worker_output.parcels.items + refused_weight h worker_output.refused

-- these pieces were pushed to the lane, and nothing else was done by its owner
abbrev pub IsPushed : Lane → Lane → List Piece → Type 0
IsPushed old new pieces =
    (h : Piece → ℕ)
    → (lane_pushed h new ≡ lane_pushed h old + sum_by h pieces)
    × (lane_taken h new ≡ lane_taken h old)

-- at most these pieces were pushed to the lane, and nothing else was done by its owner
abbrev pub IsPushedOf : Lane → Lane → List Piece → Type 0
IsPushedOf old new pieces =
    (h : Piece → ℕ)
    → (lane_pushed h new ≤ lane_pushed h old + sum_by h pieces)
    × (lane_taken h new ≡ lane_taken h old)

-- while these parcels became those, no pieces but the kids of new ones were pushed to the lane, and
-- its owner took none
abbrev pub PushesKids : {O : Type 0} → Lane → Lane → List (Parcel O) → List (Parcel O) → Type 0
PushesKids old new before after =
    (h : Piece → ℕ)
    → (lane_pushed h new + below h before ≤ lane_pushed h old + below h after)
    × (lane_taken h new ≡ lane_taken h old)

-- the worker took this piece, and pushed none
abbrev pub IsTaken : Worker → Worker → Piece → Type 0
IsTaken old new piece =
    (h : Piece → ℕ) → (taken h new ≡ taken h old + h piece) × (pushed h new ≡ pushed h old)

-- the worker took no piece, and pushed none
abbrev pub IsUntouched : Worker → Worker → Type 0
IsUntouched old new = (h : Piece → ℕ) → (taken h new ≡ taken h old) × (pushed h new ≡ pushed h old)

-- a parcel of this piece with these kids was added
abbrev pub IsAdded : {O : Type 0} → List (Parcel O) → List (Parcel O) → Piece → List Piece → Type 0
IsAdded old new piece kids =
    (h : Piece → ℕ)
    → (delivered h new ≡ delivered h old + h piece) × (below h new ≡ below h old + sum_by h kids)

-- what the worker took since then is the pieces of these parcels, and what it pushed is their kids
abbrev pub IsTied : {O : Type 0} → Worker → Worker → List (Parcel O) → Type 0
IsTied old new parcels =
    (h : Piece → ℕ)
    → (taken h new ≡ taken h old + delivered h parcels)
    × (pushed h new ≡ pushed h old + below h parcels)

-- while these parcels became those, the worker took the pieces of the new ones, and pushed their
-- kids
abbrev pub KeepsPace : {O : Type 0} → Worker → Worker → List (Parcel O) → List (Parcel O) → Type 0
KeepsPace old new before after =
    (h : Piece → ℕ)
    → (taken h new + delivered h before ≡ taken h old + delivered h after)
    × (pushed h new + below h before ≡ pushed h old + below h after)

-- while this output became that one, the worker took at least what the new one accounts for beyond
-- the old, and pushed at most the kids of new parcels
abbrev pub StaysWithin : {O : Type 0} → Worker → Worker → WorkerOutput O → WorkerOutput O → Type 0
StaysWithin old new before after =
    (h : Piece → ℕ)
    → (taken h old + accounted h after ≤ taken h new + accounted h before)
    × (pushed h new + below h before.parcels.items ≤ pushed h old + below h after.parcels.items)

-- what the worker took since then is at least what the output accounts for, and what it pushed is at
-- most the kids of its parcels
abbrev pub IsWithin : {O : Type 0} → Worker → Worker → WorkerOutput O → Type 0
IsWithin old new worker_output =
    (h : Piece → ℕ)
    → (taken h old + accounted h worker_output ≤ taken h new)
    × (pushed h new ≤ pushed h old + below h worker_output.parcels.items)

-- the same of all workers
abbrev pub AreWithin : {O : Type 0} → List Worker → List Worker → WorkerOutput O → Type 0
AreWithin old new worker_output =
    (h : Piece → ℕ)
    → (all_taken h old + accounted h worker_output ≤ all_taken h new)
    × (all_pushed h new ≤ all_pushed h old + below h worker_output.parcels.items)

-- what the workers took since then is the pieces of these parcels, and what they pushed is their
-- kids
abbrev pub AreTied : {O : Type 0} → List Worker → List Worker → List (Parcel O) → Type 0
AreTied old new parcels =
    (h : Piece → ℕ)
    → (all_taken h new ≡ all_taken h old + delivered h parcels)
    × (all_pushed h new ≡ all_pushed h old + below h parcels)

-- each piece weighs 1
abbrev pub each_one : Piece → ℕ
each_one piece = 1

-- these are the numbers of the parcels' kids and of the parcels
abbrev pub AreCounted : {O : Type 0} → ℕ → ℕ → List (Parcel O) → Type 0
AreCounted known parcels_noted parcels =
    (known ≡ below each_one parcels) × (parcels_noted ≡ length parcels)

-- the numbers of a run that brought these parcels: what was known is what was taken with what is
-- left
abbrev pub CountsParcels : {O : Type 0} → List (Parcel O) → RunCount → Type 0
CountsParcels parcels count =
    (count.known ≡ below each_one parcels + 1) × (count.delivered ≡ length parcels)
    × (count.taken ≡ length parcels) × (count.known ≡ count.taken + count.left)

-- no worker took or pushed a piece
abbrev pub HaveNothing : List Worker → Type 0
HaveNothing workers = (h : Piece → ℕ) → (all_taken h workers ≡ 0) × (all_pushed h workers ≡ 0)

-- no worker took a piece, and the root was pushed
abbrev pub HaveRoot : Piece → List Worker → Type 0
HaveRoot root workers =
    (h : Piece → ℕ) → (all_taken h workers ≡ 0) × (all_pushed h workers ≡ h root)

-- what the workers took is the pieces of these parcels, and what they pushed is the root with their
-- kids
abbrev pub HaveGone : {O : Type 0} → Piece → List Worker → List (Parcel O) → Type 0
HaveGone root workers parcels =
    (h : Piece → ℕ)
    → (all_taken h workers ≡ delivered h parcels)
    × (all_pushed h workers ≡ h root + below h parcels)

-- the workers took and pushed no more pieces
abbrev pub AreUntouched : List Worker → List Worker → Type 0
AreUntouched old new =
    (h : Piece → ℕ) → (all_taken h new ≡ all_taken h old) × (all_pushed h new ≡ all_pushed h old)

-- one piece weighs 1, and the others nothing
abbrev pub indicator : Piece → Piece → ℕ
indicator p q = if is_same p q then 1 else 0

-- piece by piece, what was pushed is what was taken with these
abbrev pub AreSettled : List Worker → List Piece → Type 0
AreSettled workers left =
    (p : Piece) → all_pushed (indicator p) workers ≡ all_taken (indicator p) workers + times p left
