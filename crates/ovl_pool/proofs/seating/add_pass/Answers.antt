use Rattle.std.proofs.Common.{rules, ◌≡◌, ◌+◌, ◌∷◌, ◌++◌, [], refl, sym, ap, ◌∙◌, subst, get_or, set, arith, List}
use Rattle.std.proofs.lemmas.List.{length-set}
use Rattle.ovl_lanes.specs.declared.accounts.Account.{Account}
use Rattle.ovl_lanes.specs.Lanes.{account_of, lane_id, IsPass}
use Rattle.ovl_pool.specs.declared.workers.Worker.{Worker}
use Rattle.ovl_pool.specs.declared.workers.Other.{Other}
use Rattle.ovl_pool.proofs.WorkerThreadLemmas.{split_off, take_up, new_other}
use Rattle.ovl_pool.proofs.FlowLemmas.{untouched_both, kept_set, split_untouched, taken_up_untouched}
use Rattle.ovl_pool.proofs.seating.add_pass.Goals as goal

pub returns-clause-seated : goal.returns-clause-seated
returns-clause-seated c =
    let thieves = c.args.thieves.now in
    let ws : List Worker = c.args.workers.now in
    let w : Worker = c.index-workers-lane.result in
    let is : w ≡ get_or ws c.args.lane w = c.index-workers-lane.is in
    let split = c.split_pass-pass.ensures in
    let v : Worker = record { lane = c.split_pass-pass.new.self; others = (get_or ws c.args.lane w).others } in
    let same : lane_id v.lane ≡ lane_id w.lane = split.same ∙ ap (λ (x : Worker). lane_id x.lane) (sym is) in
    let once = ap (λ (a : Account). a.split) split.counted ∙ ap (λ (x : Worker). (account_of x.lane).split + 1) (sym is) in
    let joined = ap (λ (a : Account). a.joined) split.counted ∙ ap (λ (x : Worker). (account_of x.lane).joined) (sym is) in
    let loose = split_off thieves ws c.args.lane w v c.requires.lane is c.requires.seated (ap (λ (x : Worker). x.others.items) (sym is)) same once joined in
    let other : Other = record { lane = c.args.lane; pass = c.split_pass-pass.result } in
    let pass = new_other thieves ws c.args.lane w other c.requires.lane is c.requires.seated refl (subst (λ id. IsPass id other.pass) same split.pass.0) in
    let us : List Worker = set ws c.args.lane v in
    let u : Worker = c.index-workers-number.result in
    let at : u ≡ get_or us c.args.number u = c.index-workers-number.is in
    let x : Worker = record { lane = (get_or us c.args.number u).lane; others = c.push.new.self } in
    take_up thieves us c.args.number u x other (omega (arith, c.requires.worker, length-set ws c.args.lane v)) at loose pass (ap (λ (y : Worker). y.lane) (sym at)) (search rules)

pub returns-clause-same : goal.returns-clause-same
returns-clause-same c =
    let ws : List Worker = c.args.workers.now in
    let w : Worker = c.index-workers-lane.result in
    let is : w ≡ get_or ws c.args.lane w = c.index-workers-lane.is in
    let split = c.split_pass-pass.ensures in
    let v : Worker = record { lane = c.split_pass-pass.new.self; others = (get_or ws c.args.lane w).others } in
    let counted = subst (λ (y : Worker). account_of v.lane ≡ record (account_of y.lane) { split = (account_of y.lane).split + 1 }) (sym is) split.counted in
    let first = kept_set ws c.args.lane w v c.requires.lane is (split_untouched w v counted (ap (λ (x : Worker). x.others.items) (sym is))) in
    let other : Other = record { lane = c.args.lane; pass = c.split_pass-pass.result } in
    let us : List Worker = set ws c.args.lane v in
    let u : Worker = c.index-workers-number.result in
    let at : u ≡ get_or us c.args.number u = c.index-workers-number.is in
    let x : Worker = record { lane = (get_or us c.args.number u).lane; others = c.push.new.self } in
    let items : x.others.items ≡ u.others.items ++ other ∷ [] = search rules in
    untouched_both ws us (set us c.args.number x) first
    (kept_set us c.args.number u x (omega (arith, c.requires.worker, length-set ws c.args.lane v)) at (taken_up_untouched u x other (ap (λ (y : Worker). y.lane) (sym at)) items split.pass.1))
