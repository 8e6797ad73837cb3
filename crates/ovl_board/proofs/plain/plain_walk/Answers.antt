use Rattle.std.proofs.Common.{◌∙◌, ap, ◌++◌, ◌-◌, map, length}
use Rattle.ovl_board.specs.Walks.{preorder}
use Rattle.ovl_board.specs.Parcels.{parcel_views, own_view}
use Rattle.ovl_board.proofs.LawsOfWalks.{IsPlain-from_preorder}
use Rattle.ovl_board.proofs.plain.plain_walk.Goals as goal

pub returns : goal.returns
returns g c =
    let w = c.args.work.now in
    IsPlain-from_preorder (g.W.Work.kids_of w) (g.W.Work.out_of w) (g.W.Work.deepest_of w) c.deepest-deepest.ensures.lawful c.args.root _ (c.in_ok-walk_from.ensures ∙ ap (λ items. parcel_views g.W.Work.seen items ++ map (own_view (g.W.Work.kids_of w) (g.W.Work.out_of w)) (preorder (g.W.Work.kids_of w) (g.W.Work.deepest_of w - length c.args.root.dir) c.args.root)) c.new-parcels.ensures.items)
