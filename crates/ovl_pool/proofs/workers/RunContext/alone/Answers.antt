use Rattle.std.proofs.Common.{rules, ◌≡◌, ◌++◌, ◌∷◌, [], List, subst}
use Rattle.ovl_pool.specs.declared.workers.Worker.{Worker}
use Rattle.ovl_pool.specs.WorkerThreads.{AreStarting}
use Rattle.ovl_pool.proofs.EndLemmas.{last_ended}
use Rattle.ovl_pool.proofs.workers.RunContext.alone.Goals as goal

pub returns : goal.returns
returns g c =
    let rest : List Worker = c.pop.new.self.items in
    let w : Worker = c.in-Some.worker in
    let run_worker = c.run_worker-worker in
    let v : Worker = run_worker.result.0 in
    let before : c.args.workers.items ≡ rest ++ w ∷ [] = search rules in
    let after : c.push.new.self.items ≡ rest ++ v ∷ [] = search rules in
    let begun : AreStarting c.args.self.now.thieves.now (rest ++ w ∷ []) c.args.shares = subst (λ ws. AreStarting c.args.self.now.thieves.now ws c.args.shares) before c.requires.begun in record {
      ended = rw (before, after) (last_ended g.W.Work.seen g.W.Work.kids_of g.W.Work.out_of g.G.Gate.may_refuse c.args.self.now rest w v c.args.shares run_worker.result.1 run_worker.result.2 begun run_worker.ensures.ended run_worker.ensures.order);
    }
