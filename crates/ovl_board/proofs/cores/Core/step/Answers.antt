use Rattle.ovl_board.specs.Parcels.{parcel_views}
use Rattle.ovl_board.proofs.MachineLemmas.{moved_by_take, moved_by_steal, moved_by_push}
use Rattle.ovl_board.proofs.cores.Core.step.Goals as goal

pub invariant_of-self : goal.invariant_of-self
invariant_of-self g c =
    let me = c.args.self.now in
    record { own = me.own; kept = moved_by_take me.root (parcel_views g.W.Work.seen me.parcels.items) me.worker_states.items me.kept c.in-Pop.worker c.in-Pop.worker c.take.result _ c.take.ensures }

pub invariant_of-self-in-Steal : goal.invariant_of-self-in-Steal
invariant_of-self-in-Steal g c =
    let me = c.args.self.now in
    record { own = me.own; kept = moved_by_steal me.root (parcel_views g.W.Work.seen me.parcels.items) me.worker_states.items me.kept c.in-Steal.worker c.in-Steal.lane c.steal.result _ c.steal.ensures }

pub invariant_of-self-in-Push : goal.invariant_of-self-in-Push
invariant_of-self-in-Push g c =
    let me = c.args.self.now in
    record { own = me.own; kept = moved_by_push me.root (parcel_views g.W.Work.seen me.parcels.items) me.worker_states.items me.kept c.in-Push.worker c.push.result _ c.push.ensures.done }
