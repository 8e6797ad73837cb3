use Rattle.std.proofs.Common.{◌≡◌, ◌++◌, [], drop}
use Rattle.ovl_board.specs.Parcels.{parcel_views}
use Rattle.ovl_check.specs.Checks.{check_seen}
use Rattle.ovl_check.specs.Walks.{doubles_among}
use Rattle.ovl_check.proofs.finish.push_doubles.Given as goal

abbrev pub invariant-loop-parcel : goal.invariant-loop-parcel
invariant-loop-parcel l =
    l.findings.items ++ doubles_among l.moved.keys l.places.keys (parcel_views check_seen (drop l.parcel-index l.parcels))
    ≡ l.initial.findings.items ++ doubles_among l.moved.keys [] (parcel_views check_seen l.parcels)
