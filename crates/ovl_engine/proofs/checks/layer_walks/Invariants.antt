use Rattle.std.proofs.Common.{◌≡◌, length, map}
use Rattle.ovl_board.specs.Parcels.{parcel_views}
use Rattle.ovl_check.specs.Checks.{check_seen}
use Rattle.ovl_check.specs.CheckViews.{check_view}
use Rattle.ovl_check.specs.Walks.{AreLayerWalks}
use Rattle.ovl_engine.proofs.checks.layer_walks.Given as goal

-- the walks of the layers so far
abbrev pub invariant-loop-i : goal.invariant-loop-i
invariant-loop-i g l =
    (length l.walks.items ≡ l.i)
    × AreLayerWalks (check_view l.fn.work) 0 (map (λ parcels. parcel_views check_seen parcels.items) l.walks.items)
