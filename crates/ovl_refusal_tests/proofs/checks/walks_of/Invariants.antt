use Rattle.std.proofs.Common.{◌≡◌, length, map}
use Rattle.ovl_board.specs.Parcels.{parcel_views}
use Rattle.ovl_check.specs.Checks.{check_seen}
use Rattle.ovl_check.specs.CheckViews.{check_view}
use Rattle.ovl_check.specs.Walks.{AreLayerWalks}
use Rattle.ovl_refusal_tests.proofs.checks.walks_of.Given as goal

abbrev pub invariant-loop-i : goal.invariant-loop-i
invariant-loop-i l = record {
  count : length l.layers.items ≡ l.i;
  walks : AreLayerWalks (check_view l.work) 0 (map (λ parcels. parcel_views check_seen parcels.items) l.layers.items);
}
