use Rattle.std.proofs.Common.{◌≡◌, [], drop}
use Rattle.ovl_board.specs.Parcels.{parcel_views}
use Rattle.ovl_check.specs.Checks.{check_seen}
use Rattle.ovl_check.specs.Walks.{moved_places}
use Rattle.ovl_check.proofs.finish.places_of_moved.Given as goal

abbrev pub invariant-loop-parcel : goal.invariant-loop-parcel
invariant-loop-parcel l =
    moved_places l.places.keys (parcel_views check_seen (drop l.parcel-index l.parcels)) ≡ moved_places [] (parcel_views check_seen l.parcels)
