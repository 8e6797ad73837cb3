use Rattle.std.proofs.Common.{◌+◌, ◌∙◌, ℕ, sym, ap, subst, map, length, length-append, [], ◌∷◌}
use Rattle.ovl_board.specs.declared.pieces.Piece.{Piece}
use Rattle.ovl_board.specs.Parcels.{IsPlain, parcel_views}
use Rattle.ovl_check.specs.Checks.{check_seen, check_kids, check_out}
use Rattle.ovl_check.specs.CheckViews.{check_view}
use Rattle.ovl_check.specs.Walks.{AreLayerWalks}
use Rattle.ovl_check.proofs.WalkLists.{layer_walks-more}
use Rattle.ovl_refusal_tests.proofs.checks.walks_of.Goals as goal

pub loop-i-preserved : goal.loop-i-preserved
loop-i-preserved c =
    let work = check_view c.args.work.now in
    let parcels = c.in_ok-plain_walk.field-0 in
    let added = c.in_ok-push.ensures.items in
    let plain = subst (λ (p : Piece). IsPlain (check_kids work) (check_out work) p (parcel_views check_seen parcels.items)) c.root.ensures c.in_ok-plain_walk.ensures in
    record {
      count = ap length added ∙ (length-append c.loop-i.layers.items (parcels ∷ []) ∙ ap (λ (n : ℕ). n + 1) c.loop-i.invariant.count);
      walks = subst (λ ps. AreLayerWalks work 0 (map (λ p. parcel_views check_seen p.items) ps)) (sym added)
          (layer_walks-more (λ p. parcel_views check_seen p.items) work c.loop-i.layers.items parcels c.loop-i.i c.loop-i.invariant.walks c.loop-i.invariant.count plain);
    }
