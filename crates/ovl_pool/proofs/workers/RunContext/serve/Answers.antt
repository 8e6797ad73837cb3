use Rattle.std.proofs.Common.{rules, ◌≡◌, length, refl}
use Rattle.ovl_pool.proofs.WorkerStepLemmas.{served_one, served_clean}
use Rattle.ovl_pool.proofs.workers.RunContext.serve.Goals as goal

pub returns-in_err-push_all-clause-served : goal.returns-in_err-push_all-clause-served
returns-in_err-push_all-clause-served g c =
    let count : c.len-count.result ≡ length c.in_ok-kids.kids.items = search rules in
    let copied : c.in_ok-below.below.items ≡ c.in_ok-kids.kids.items = search rules in
    served_one g.W.Work.seen g.W.Work.kids_of g.W.Work.out_of g.G.Gate.may_refuse c.args.self.now c.args.lane.now c.push_all.new.lane _ _ _ _ _ _ _ c.in_ok-push.ensures.items refl c.requires c.in_ok-kids.ensures.kids c.in_ok-kids.ensures.out copied count c.push_all.ensures.same c.push_all.ensures.within c.in_ok-next_action.ensures.known c.in_ok-next_action.ensures.parts

pub returns-clause-served : goal.returns-clause-served
returns-clause-served g c =
    let count : c.len-count.result ≡ length c.in_ok-kids.kids.items = search rules in
    let copied : c.in_ok-below.below.items ≡ c.in_ok-kids.kids.items = search rules in
    served_one g.W.Work.seen g.W.Work.kids_of g.W.Work.out_of g.G.Gate.may_refuse c.args.self.now c.args.lane.now c.push_all.new.lane _ _ _ _ _ _ _ c.in_ok-push.ensures.items refl c.requires c.in_ok-kids.ensures.kids c.in_ok-kids.ensures.out copied count c.push_all.ensures.same c.push_all.ensures.within c.in_ok-next_action.ensures.known c.in_ok-next_action.ensures.parts

pub returns-clause-clean : goal.returns-clause-clean
returns-clause-clean g c = λ clean.
    let count : c.len-count.result ≡ length c.in_ok-kids.kids.items = search rules in
    let copied : c.in_ok-below.below.items ≡ c.in_ok-kids.kids.items = search rules in
    served_clean c.args.lane.now c.push_all.new.lane _ _ _ _ _ _ _ _ _ c.in_ok-push.ensures.items clean c.in_ok-kids.ensures.kids copied count c.in_ok-push_all.ensures.pushed c.in_ok-next_action.ensures.known c.in_ok-next_action.ensures.delivered c.in_ok-next_action.ensures.settled
