use Rattle.ovl_pool.proofs.WorkerStepLemmas.{IsAtWork}
use Rattle.ovl_pool.proofs.workers.RunContext.work_loop.Given as goal

abbrev pub invariant-loop : goal.invariant-loop
invariant-loop g l = record {
  can : (goal.iterator-loop g).can_next l.iterator';
  finite : (goal.iterator-loop g).is_finite l.iterator';
  work : IsAtWork g.W.Work.seen g.W.Work.kids_of g.W.Work.out_of g.G.Gate.may_refuse l.self l.fn.worker l.fn.shares l.worker l.tally_handle l.worker_output;
}
