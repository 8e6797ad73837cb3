use Rattle.std.specs.List.{flat_map}
use Rattle.std.specs.List.Sorted.{IsPermutation}
use Rattle.ovl_board.specs.Parcels.{parcel_views}
use Rattle.ovl_check.specs.Checks.{check_seen}
use Rattle.ovl_check.specs.Walks.{found_along}
use Rattle.ovl_check.proofs.finish.found_in.Given as goal

abbrev pub invariant-loop-parcels : goal.invariant-loop-parcels
invariant-loop-parcels l = IsPermutation (flat_map (λ parcels. found_along (parcel_views check_seen parcels.items)) l.yielded) l.found.items
