use Rattle.std.proofs.Common.{◌≡◌, ◌-◌, ◌+◌, length, map, ◌++◌}
use Rattle.std.specs.List.{flat_map}
use Rattle.ovl_board.specs.Walks.{preorder}
use Rattle.ovl_board.specs.Parcels.{parcel_views, own_view}
use Rattle.ovl_board.proofs.plain.+walk_from.Given as goal

abbrev pub decreases-walk_from : goal.decreases-walk_from
decreases-walk_from g l = g.W.Work.deepest_of l.work.now + 1 - length l.piece.dir

abbrev pub invariant-loop-kid : goal.invariant-loop-kid
invariant-loop-kid g l =
    (goal.iterator-loop-kid g).can_next l.kid-iterator
    × (goal.iterator-loop-kid g).is_finite l.kid-iterator
    × (l.yielded ++ l.kid-iterator.rest.items ≡ g.W.Work.kids_of l.work l.fn.piece)
    × (let w = l.work in
    let kids = g.W.Work.kids_of w in
    parcel_views g.W.Work.seen l.parcels.items
    ≡ parcel_views g.W.Work.seen l.initial.parcels.items
    ++ map (own_view kids (g.W.Work.out_of w)) (flat_map (preorder kids (g.W.Work.deepest_of w - length l.fn.piece.dir - 1)) l.yielded))
