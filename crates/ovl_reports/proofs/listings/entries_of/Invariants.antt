use Rattle.std.proofs.Common.{◌≡◌, ◌+◌, length, take}
use Rattle.std.specs.List.{sum_by}
use Rattle.ovl_reports.proofs.listings.entries_of.Given as goal

-- the paths of the directories so far
abbrev pub invariant-loop-parcel : goal.invariant-loop-parcel
invariant-loop-parcel l = l.entries ≡ 1 + sum_by (λ parcel. length parcel.out.items) (take l.parcel-index l.fn.parcels)
