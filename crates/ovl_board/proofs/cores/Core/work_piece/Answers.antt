use Rattle.std.proofs.Common.{◌≡◌, ◌<◌, ◌∙◌, Some, sym, ap, arith, length}
use Rattle.std.proofs.lemmas.List.{get_or_read}
use Rattle.ovl_board.specs.WorkerStates.{WorkerStateView, empty_worker_state}
use Rattle.ovl_board.specs.Machine.{worker_state_of}
use Rattle.ovl_board.proofs.CoreLemmas.{worked_own, worked_kept}
use Rattle.ovl_board.proofs.cores.Core.work_piece.Goals as goal

pub invariant_of-self-2 : goal.invariant_of-self-2
invariant_of-self-2 g c =
    let me = c.args.self.now in
    let worker_states = me.worker_states.items in
    let w = c.args.worker in
    let held = c.in-Some.piece.now in
    let within : w < length worker_states = omega arith in
    let seen_at : c.index.result.now ≡ worker_state_of worker_states w = get_or_read worker_states w c.index.result.now within c.index.ensures empty_worker_state in
    let here : c.index_mut.result.now ≡ worker_state_of worker_states w = get_or_read worker_states w c.index_mut.result.now within c.index_mut.ensures.value empty_worker_state in
    let hand : (worker_state_of worker_states w).hand ≡ Some held = sym (ap (λ (d : WorkerStateView). d.hand) seen_at) ∙ sym c.in-Some.ensures in
    let both : Some c.put_down-piece.result ≡ Some held = sym c.put_down-piece.ensures.piece ∙ (ap (λ (d : WorkerStateView). d.hand) here ∙ hand) in
    let piece : c.put_down-piece.result ≡ held = cc in
    let ks = c.in_ok-kids.ensures.kids in
    let box = c.in_ok-outbox.ensures ∙ (c.deref.ensures.value ∙ ks) in
    let push = rw c.in_ok-reserve.ensures.items at c.push_reserved.ensures.items in
    let work = me.work.now in
    record {
      own = worked_own g.W.Work.seen (g.W.Work.kids_of work) (g.W.Work.out_of work) me.root worker_states me.parcels.items w held _ c.index_mut.result.now c.put_down-piece.new.self c.in_ok-outbox.outbox.items c.push_reserved.new.self.items
          hand piece ks c.in_ok-kids.ensures.out box here c.put_down-piece.ensures.after push me.own;
      kept = worked_kept g.W.Work.seen (g.W.Work.kids_of work) (g.W.Work.out_of work) me.root worker_states me.parcels.items w held _ c.index_mut.result.now c.put_down-piece.new.self c.in_ok-outbox.outbox.items c.push_reserved.new.self.items
          hand piece ks c.in_ok-kids.ensures.out box here c.put_down-piece.ensures.after push me.kept;
    }
