use Rattle.std.proofs.Common.{◌≡◌, false, sym, ◌∙◌, subst, IfSome}
use Rattle.ovl_board.proofs.LawsOfWalks.{own_permuted}
use Rattle.ovl_pool.specs.declared.worker_outputs.WorkerOutput.{WorkerOutput}
use Rattle.ovl_pool.specs.WorkerOutputs.{IsClean, AreInPieceOrder}
use Rattle.ovl_pool.proofs.FlowLemmas.{tied_permuted, within_permuted, counted_permuted}
use Rattle.ovl_pool.proofs.workers.RunContext.run_worker.Goals as goal

-- where an output is clean it was clean before it was sorted
was_clean : {O : Type 0} (worker_output sorted : WorkerOutput O) → (sorted.out_of_memory ≡ false → (worker_output.out_of_memory ≡ false) × AreInPieceOrder sorted.parcels.items) → sorted.refused ≡ worker_output.refused → IsClean sorted → IsClean worker_output
was_clean worker_output sorted fed refused clean = ((fed clean.0).0, sym refused ∙ clean.1)

-- the output is the worker's own in any order
pub returns-clause-ended : goal.returns-clause-ended
returns-clause-ended g c =
    let work = c.args.self.now.work.now in
    let served = c.work_loop-worker in
    let ended = served.ensures.ended in
    let worker_output = served.result.1 in
    let sorted = c.sorted.result in
    let same = c.sorted.ensures.parcels in
    let refused = c.sorted.ensures.refused in record {
      worker_output = (
        own_permuted g.W.Work.seen (g.W.Work.kids_of work) (g.W.Work.out_of work) worker_output.parcels.items sorted.parcels.items same ended.worker_output.0,
        subst (λ o. IfSome o (g.G.Gate.may_refuse c.args.self.now.gate.now)) (sym refused) ended.worker_output.1,
      );
      passes = ended.passes;
      same = ended.same;
      parts = ended.parts;
      within = within_permuted c.args.worker served.result.0 worker_output sorted same refused ended.within;
      foreknown = ended.foreknown;
      tied = λ clean. tied_permuted c.args.worker served.result.0 worker_output.parcels.items sorted.parcels.items same (ended.tied (was_clean worker_output sorted c.sorted.ensures.out_of_memory refused clean));
      counted = λ clean.
          counted_permuted worker_output.parcels.items sorted.parcels.items served.result.2.known.amount served.result.2.delivered.amount same
          (ended.counted (was_clean worker_output sorted c.sorted.ensures.out_of_memory refused clean));
    }
