use Rattle.std.proofs.Common.{subst}
use Rattle.std.proofs.lemmas.Result.{IfOk-weaker}
use Rattle.ovl_board.proofs.LawsOfWalks.{own_lawful-bare, order_plain}
use Rattle.ovl_pool.specs.Flows.{HaveRoot}
use Rattle.ovl_pool.proofs.FlowLemmas.{gathered_balance}
use Rattle.ovl_pool.proofs.ToldLemmas.{gone_from, numbers, was_refused, board_memory, refused_reached}
use Rattle.ovl_pool.proofs.runs.run_noted.Goals as goal

pub outcome-requires-clause-lawful : goal.outcome-requires-clause-lawful
outcome-requires-clause-lawful g c =
    let w = c.args.work.now in
    own_lawful-bare g.W.Work.seen (g.W.Work.kids_of w) (g.W.Work.out_of w) (g.W.Work.deepest_of w) c.deepest-deepest.ensures.lawful c.in_ok-ended.worker_output.parcels.items c.in_ok-ended.ensures.ended.worker_output.0

pub outcome-requires-clause-counted : goal.outcome-requires-clause-counted
outcome-requires-clause-counted g c = λ clean.
    let run_workers = c.in_ok-ended.ensures.ended in
    let count = c.run_count-count.ensures in
    let begun = subst (λ p. HaveRoot p c.in_ok-crowd.crowd.items) c.in_ok-first.ensures c.in_ok-crowd.ensures.root in
    let gone = gone_from c.args.root c.in_ok-crowd.crowd.items c.in_ok-ended.ended.items c.in_ok-ended.worker_output.parcels.items begun (run_workers.tied clean) in
    numbers c.args.root c.in_ok-ended.ended.items c.in_ok-ended.worker_output.parcels.items c.in_ok-ended.shares.known.amount c.in_ok-ended.shares.delivered.amount c.run_count-count.result gone (run_workers.counted clean) count.known count.delivered count.taken count.pushed

pub outcome-requires-clause-left : goal.outcome-requires-clause-left
outcome-requires-clause-left g c = λ clean.
    let left = c.run_count-count.ensures.left in
    let begun = subst (λ p. HaveRoot p c.in_ok-crowd.crowd.items) c.in_ok-first.ensures c.in_ok-crowd.ensures.root in
    let gone = gone_from c.args.root c.in_ok-crowd.crowd.items c.in_ok-ended.ended.items c.in_ok-ended.worker_output.parcels.items begun (c.in_ok-ended.ensures.ended.tied clean) in
    (left.0, (left.1.0, gathered_balance c.args.root c.in_ok-ended.ended.items c.in_ok-ended.worker_output.parcels.items left.0 gone left.1.1))

pub returns-clause-plain : goal.returns-clause-plain
returns-clause-plain g c =
    let w = c.args.work.now in
    IfOk-weaker c.outcome.result _ _
    (λ done order. order_plain g.W.Work.seen (g.W.Work.kids_of w) (g.W.Work.out_of w) c.args.root c.in_ok-ended.worker_output.parcels.items done.0.items c.in_ok-ended.ensures.ended.worker_output.0 order)
    c.outcome.ensures.order

pub returns-clause-gate : goal.returns-clause-gate
returns-clause-gate g c = λ refused.
    let w = c.args.work.now in
    let worker_output = c.in_ok-ended.worker_output in
    let run_workers = c.in_ok-ended.ensures.ended in
    let left = c.run_count-count.ensures.left in
    let begun = subst (λ p. HaveRoot p c.in_ok-crowd.crowd.items) c.in_ok-first.ensures c.in_ok-crowd.ensures.root in
    let lawful = own_lawful-bare g.W.Work.seen (g.W.Work.kids_of w) (g.W.Work.out_of w) (g.W.Work.deepest_of w) c.deepest-deepest.ensures.lawful worker_output.parcels.items run_workers.worker_output.0 in
    refused_reached g.W.Work.seen (g.W.Work.kids_of w) (g.W.Work.out_of w) (g.G.Gate.may_refuse c.args.gate.now) c.args.root c.in_ok-crowd.crowd.items c.in_ok-ended.ended.items worker_output left.0 run_workers.worker_output lawful begun run_workers.within left.1.1
    (was_refused c.outcome.result worker_output.refused worker_output.out_of_memory c.run_count-count.result c.outcome.ensures.fault refused)

pub returns-clause-board : goal.returns-clause-board
returns-clause-board g c = board_memory c.outcome.result c.in_ok-ended.worker_output.refused c.in_ok-ended.worker_output.out_of_memory c.run_count-count.result c.outcome.ensures.fault
