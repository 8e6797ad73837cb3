use Rattle.std.proofs.Common.{◌<◌, [], ◌∷◌, subst, length, arith, length-append}
use Rattle.std.proofs.lemmas.Result.{err_from_is_err_and}
use Rattle.ovl_lookup.specs.Stacks.{StackView, all_layers}
use Rattle.ovl_board.specs.Pieces.{space_root}
use Rattle.ovl_board.specs.Parcels.{parcel_views}
use Rattle.ovl_pool.specs.Runs.{MayBeRefused}
use Rattle.ovl_check.specs.Checks.{check_seen, check_kids}
use Rattle.ovl_check.specs.CheckViews.{check_view}
use Rattle.ovl_check.proofs.WalkLists.{layer_walks-more}
use Rattle.ovl_engine.specs.Outcomes.{MayRefuseLayers, check_of}
use Rattle.ovl_engine.proofs.OutcomeLemmas.{walk-part}
use Rattle.ovl_engine.proofs.checks.layer_walks.Goals as goal

pub returns-in_err-walk : goal.returns-in_err-walk
returns-in_err-walk g c =
    let out = err_from_is_err_and c.from_residual.result c.from_residual.ensures.1 in
    let may_refuse = g.G.Gate.may_refuse c.args.team.now.gate.now in
    let inside : c.loop-i.i < length (all_layers c.args.stack.now) = omega (arith, c.loop-i-test.true, c.layers-i-end.ensures.value) in
    rw (out.1, out.2) (walk-part (MayBeRefused (check_kids (check_of (check_view c.args.work.now).stack)) may_refuse (space_root c.loop-i.i)) (MayRefuseLayers c.args.stack.now may_refuse)
    (λ refused. (c.loop-i.i, (inside, subst (λ (stack : StackView). MayBeRefused (check_kids (check_of stack)) may_refuse (space_root c.loop-i.i)) c.requires.same refused)))
    c.in_err-walk.field-0.0 c.in_err-walk.ensures)

pub loop-i-preserved : goal.loop-i-preserved
loop-i-preserved g c =
    let count = c.loop-i.invariant.0 in
    rw (c.in_ok-push.ensures.items) (
      omega (arith, count, length-append c.loop-i.walks.items (c.in_ok-walk.field-0 ∷ [])),
      layer_walks-more (λ parcels. parcel_views check_seen parcels.items) (check_view c.args.work.now) c.loop-i.walks.items c.in_ok-walk.field-0 c.loop-i.i c.loop-i.invariant.1 count c.in_ok-walk.ensures,
    )
