use Rattle.std.proofs.Common.{rules, ◌≡◌, ◌+◌, ◌∷◌, ◌++◌, [], sym, ap, ◌∙◌, subst, get_or, set, arith, List}
use Rattle.std.proofs.lemmas.List.{length-set}
use Rattle.std.proofs.lemmas.List.Elements.{AllWithin-kept}
use Rattle.ovl_lanes.specs.declared.accounts.Account.{Account}
use Rattle.ovl_lanes.specs.Lanes.{account_of, lane_id, stolen_by, IsOfLane}
use Rattle.ovl_pool.specs.declared.workers.Worker.{Worker}
use Rattle.ovl_pool.specs.declared.workers.Other.{Other}
use Rattle.ovl_pool.specs.Passes.{HasNone}
use Rattle.ovl_pool.proofs.WorkerThreadLemmas.{last_laid, join_back, other_of_lane, keep_post, none_kept}
use Rattle.ovl_pool.proofs.FlowLemmas.{untouched_both, given_back, kept_set, same_untouched}
use Rattle.ovl_pool.proofs.seating.return_passes.Goals as goal

pub bounds-workers-lane : goal.bounds-workers-lane
bounds-workers-lane c =
    let w : Worker = c.index-workers-number.result in
    let u : Worker = record { lane = (get_or c.loop-lane.workers c.args.number w).lane; others = c.pop.new.self } in
    let items : w.others.items ≡ u.others.items ++ c.in-Some.field-0 ∷ [] = search rules in
    let laid = last_laid c.args.thieves.now c.loop-lane.workers c.args.number w u c.in-Some.field-0 c.loop-lane.invariant.worker c.index-workers-number.is c.loop-lane.invariant.seated (ap (λ (y : Worker). y.lane) (sym c.index-workers-number.is)) items in
    laid.1

pub offset_bounds-workers-lane : goal.offset_bounds-workers-lane
offset_bounds-workers-lane c =
    let w : Worker = c.index-workers-number.result in
    let u : Worker = record { lane = (get_or c.loop-lane.workers c.args.number w).lane; others = c.pop.new.self } in
    let items : w.others.items ≡ u.others.items ++ c.in-Some.field-0 ∷ [] = search rules in
    let laid = last_laid c.args.thieves.now c.loop-lane.workers c.args.number w u c.in-Some.field-0 c.loop-lane.invariant.worker c.index-workers-number.is c.loop-lane.invariant.seated (ap (λ (y : Worker). y.lane) (sym c.index-workers-number.is)) items in
    let within = laid.1 in search rules

pub join_pass-requires : goal.join_pass-requires
join_pass-requires c =
    let w : Worker = c.index-workers-number.result in
    let u : Worker = record { lane = (get_or c.loop-lane.workers c.args.number w).lane; others = c.pop.new.self } in
    let items : w.others.items ≡ u.others.items ++ c.in-Some.field-0 ∷ [] = search rules in
    let laid = last_laid c.args.thieves.now c.loop-lane.workers c.args.number w u c.in-Some.field-0 c.loop-lane.invariant.worker c.index-workers-number.is c.loop-lane.invariant.seated (ap (λ (y : Worker). y.lane) (sym c.index-workers-number.is)) items in
    let is = c.index-workers-lane.is in
    subst (λ (y : Worker). IsOfLane y.lane c.in-Some.field-0.pass) is (other_of_lane (c.in-Some.field-0.lane ∷ []) c.args.thieves.now (set c.loop-lane.workers c.args.number u) c.index-workers-lane.result c.in-Some.field-0 laid.1 is laid.0.0 laid.0.1)

pub loop-lane-preserved : goal.loop-lane-preserved
loop-lane-preserved c =
    let ws : List Worker = c.loop-lane.workers in
    let i = c.args.number in
    let held = c.loop-lane.invariant in
    let is = c.index-workers-number.is in
    let other : Other = c.in-Some.field-0 in
    let w : Worker = c.index-workers-number.result in
    let u : Worker = record { lane = (get_or c.loop-lane.workers c.args.number w).lane; others = c.pop.new.self } in
    let items : w.others.items ≡ u.others.items ++ c.in-Some.field-0 ∷ [] = search rules in
    let laid = last_laid c.args.thieves.now c.loop-lane.workers c.args.number w u c.in-Some.field-0 c.loop-lane.invariant.worker c.index-workers-number.is c.loop-lane.invariant.seated (ap (λ (y : Worker). y.lane) (sym c.index-workers-number.is)) items in
    let us : List Worker = set ws i u in
    let within = laid.1 in
    let x : Worker = c.index-workers-lane.result in
    let at : x ≡ get_or us other.lane x = c.index-workers-lane.is in
    let v : Worker = record { lane = c.join_pass.new.self; others = (get_or us other.lane x).others } in
    let kept = ap (λ (y : Worker). y.others.items) (sym at) in
    let joined = c.join_pass.ensures in
    let same : lane_id v.lane ≡ lane_id x.lane = joined.same ∙ ap (λ (y : Worker). lane_id y.lane) (sym at) in
    let split = ap (λ (a : Account). a.split) joined.counted ∙ ap (λ (y : Worker). (account_of y.lane).split) (sym at) in
    let once = ap (λ (a : Account). a.joined) joined.counted ∙ ap (λ (y : Worker). (account_of y.lane).joined + 1) (sym at) in
    record {
      seated = join_back c.args.thieves.now us other.lane x v within at laid.0.0 kept same split once;
      worker = omega (arith, held.worker, length-set ws i u, length-set us other.lane v);
      before = none_kept us other.lane i x v within at kept (AllWithin-kept ws i u held.worker HasNone held.before);
      same = untouched_both c.args.workers.now ws (set us other.lane v) held.same
          (given_back ws i other.lane w u x v other held.worker is (ap (λ (y : Worker). y.lane) (sym is)) items within at
          (subst (λ (y : Worker). account_of v.lane ≡ record (account_of y.lane) { joined = (account_of y.lane).joined + 1; taken = (account_of y.lane).taken ++ stolen_by other.pass }) (sym at) joined.counted) kept);
    }

pub returns-clause-seated : goal.returns-clause-seated
returns-clause-seated c =
    let w : Worker = c.index-workers-number.result in
    let u : Worker = record { lane = (get_or c.loop-lane.workers c.args.number w).lane; others = c.pop.new.self } in
    let items : u.others.items ≡ w.others.items = search rules in
    let is = c.index-workers-number.is in
    keep_post c.args.thieves.now c.loop-lane.workers c.args.number w u c.loop-lane.invariant.worker is c.loop-lane.invariant.seated items (ap (λ (y : Worker). lane_id y.lane) (sym is)) (ap (λ (y : Worker). (account_of y.lane).split) (sym is)) (ap (λ (y : Worker). (account_of y.lane).joined) (sym is))

pub returns-clause-same : goal.returns-clause-same
returns-clause-same c =
    let w : Worker = c.index-workers-number.result in
    let u : Worker = record { lane = (get_or c.loop-lane.workers c.args.number w).lane; others = c.pop.new.self } in
    let items : u.others.items ≡ w.others.items = search rules in
    let ws : List Worker = c.loop-lane.workers in
    let is = c.index-workers-number.is in
    untouched_both c.args.workers.now ws (set ws c.args.number u) c.loop-lane.invariant.same (kept_set ws c.args.number w u c.loop-lane.invariant.worker is (same_untouched w u (ap (λ (y : Worker). y.lane) (sym is)) items))
