use Rattle.std.proofs.Common.{◌≡◌, ◌+◌, ◌≤◌, ◌++◌, length}
use Rattle.std.specs.Vec.Iter.{into_iter_items}
use Rattle.ovl_board.specs.Parcels.{parcel_views}
use Rattle.ovl_rewrite.specs.Directories.{inodes_seen}
use Rattle.ovl_rewrite.proofs.UnderLemmas.{WalksAmong}
use Rattle.ovl_rewrite.proofs.layers.+next_below.Given as goal

abbrev pub decreases-next_below : goal.decreases-next_below
decreases-next_below l = length (into_iter_items l.rest.now)

abbrev pub invariant-loop-name : goal.invariant-loop-name
invariant-loop-name l =
    (length (into_iter_items l.rest) + 1 ≤ length (into_iter_items l.fn.rest))
    × WalksAmong (parcel_views inodes_seen (into_iter_items l.fn.rest)) (parcel_views inodes_seen (into_iter_items l.rest)) (length l.yielded) l.siblings
    × (into_iter_items l.initial.name-iterator ≡ l.yielded ++ into_iter_items l.name-iterator)
