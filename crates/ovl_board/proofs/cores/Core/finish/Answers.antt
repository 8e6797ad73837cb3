use Rattle.ovl_board.specs.Parcels.{parcel_views}
use Rattle.ovl_board.specs.CoreViews.{core_state}
use Rattle.ovl_board.proofs.MachineLemmas.{idle_balance}
use Rattle.ovl_board.proofs.LawsOfWalks.{balanced_plain}
use Rattle.ovl_board.proofs.cores.Core.finish.Goals as goal

pub returns-clause-plain : goal.returns-clause-plain
returns-clause-plain g c =
    let me = c.args.self in
    let work = me.work.now in
    balanced_plain (g.W.Work.kids_of work) (g.W.Work.out_of work) (g.W.Work.deepest_of work) c.deepest-deepest.ensures.lawful me.root (parcel_views g.W.Work.seen me.parcels.items) me.own
    (idle_balance me.root (core_state g.W.Work.seen me.worker_states.items me.parcels.items) me.kept (c.idle.ensures.0 c.if-not-idle.false))
