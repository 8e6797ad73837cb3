use Rattle.std.proofs.Common.{rules}
use Rattle.ovl_pool.proofs.WorkerStepLemmas.{after_turn, at_end}
use Rattle.ovl_pool.proofs.workers.RunContext.work_loop.Goals as goal

pub loop-preserved-in-Ok-Work : goal.loop-preserved-in-Ok-Work
loop-preserved-in-Ok-Work g c = record {
  can = tt;
  finite = tt;
  work = after_turn g.W.Work.seen g.W.Work.kids_of g.W.Work.out_of g.G.Gate.may_refuse c.args.self.now c.args.worker c.args.shares _ _ _ _ _ _ _ c.loop.invariant.work c.step.ensures.turned c.in-Ok-Work.ensures.clean;
}

pub loop-preserved : goal.loop-preserved
loop-preserved g c = record {
  can = tt;
  finite = tt;
  work = after_turn g.W.Work.seen g.W.Work.kids_of g.W.Work.out_of g.G.Gate.may_refuse c.args.self.now c.args.worker c.args.shares _ _ _ _ _ _ _ c.loop.invariant.work c.step.ensures.turned c.in-Ok-Wait.ensures.clean;
}

pub returns-in-Ok-End : goal.returns-in-Ok-End
returns-in-Ok-End g c =
    let clean = c.in-Ok-End.ensures.clean in
    let work = after_turn g.W.Work.seen g.W.Work.kids_of g.W.Work.out_of g.G.Gate.may_refuse c.args.self.now c.args.worker c.args.shares _ _ _ _ _ _ _ c.loop.invariant.work c.step.ensures.turned clean in record {
      ended = at_end g.W.Work.seen g.W.Work.kids_of g.W.Work.out_of g.G.Gate.may_refuse c.args.self.now c.args.worker c.args.shares _ _ _ _ work (λ k. (clean k).noted.settled c.in-Ok-End.finished (search rules)) c.into_shares.ensures;
    }
