use Rattle.std.proofs.Common.{◌++◌, []}
use Rattle.ovl_board.specs.Parcels.{parcel_views}
use Rattle.ovl_check.specs.Checks.{check_seen}
use Rattle.ovl_check.specs.Walks.{doubles_after, found_along}
use Rattle.ovl_blobs.proofs.Plain.{seen-flat}
use Rattle.ovl_check.proofs.FinishLemmas.{found-more}
use Rattle.ovl_check.proofs.finish.found_in.Goals as goal

pub loop-parcels-preserved : goal.loop-parcels-preserved
loop-parcels-preserved c =
    found-more (λ parcels. found_along (parcel_views check_seen parcels.items)) c.loop-parcels.yielded c.in-Some.parcels _ _ _ _ _
    c.loop-parcels.invariant c.in_ok-push_doubles.ensures c.in_ok-push_outputs.ensures
    (λ j. doubles_after [] (parcel_views check_seen (c.deref.ensures.value j)) ++ seen-flat check_seen (λ s. s.findings) c.in-Some.parcels.items j)
