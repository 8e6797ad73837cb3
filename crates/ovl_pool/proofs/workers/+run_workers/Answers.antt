use Rattle.std.proofs.Common.{rules, ◌/◌, List, IfOk, sym, subst}
use Rattle.ovl_pool.specs.declared.workers.Worker.{Worker}
use Rattle.ovl_pool.specs.WorkerThreads.{HaveEnded}
use Rattle.ovl_pool.proofs.EndLemmas.{both_ended, parted, from_both}
use Rattle.ovl_pool.proofs.workers.+run_workers.Goals as goal

pub RunContext::halves-returns : goal.RunContext::halves-returns
RunContext::halves-returns g t c =
    let seen = g.W.Work.seen in
    let kids_of = g.W.Work.kids_of in
    let out_of = g.W.Work.out_of in
    let may_refuse = g.G.Gate.may_refuse in
    let context = c.args.self.now in
    let all : List Worker = c.args.workers.items in
    let first : List Worker = c.split_off.new.self.items in
    let later : List Worker = c.in_ok-later.later.items in
    let left : IfOk c.join-after.result.1 (λ r. HaveEnded seen kids_of out_of may_refuse context first r.0.items r.1 r.2) = search rules in
    let right : IfOk c.join-after.result.0 (λ r. HaveEnded seen kids_of out_of may_refuse context later r.0.items r.1 r.2) = search rules in
    let halved = parted all first later (c.len.result / 2) c.in_ok-later.ensures.items c.in_ok-later.ensures.tail in record {
      ended = from_both c.both.result c.join-after.result.1 c.join-after.result.0 _ _ _ _
          (λ x y z left right of. subst (λ ws. HaveEnded seen kids_of out_of may_refuse context all ws z.1 z.2) (sym of.0)
          (both_ended seen kids_of out_of may_refuse context all first later x.0.items y.0.items x.1 y.1 z.1 x.2 y.2 z.2 halved left right of.1.0 of.1.1))
          left right c.both.ensures;
    }
