use Rattle.std.proofs.Common.{refl, sym, ap, subst}
use Rattle.ovl_board.specs.Parcels.{AreOwn, parcel_views}
use Rattle.ovl_board.proofs.CoreLemmas.{started_kept}
use Rattle.ovl_board.proofs.cores.Core.start.Goals as goal

pub invariant_of-result : goal.invariant_of-result
invariant_of-result g c =
    let work = c.args.work.now in
    record {
      own = subst (λ ps. AreOwn (g.W.Work.kids_of work) (g.W.Work.out_of work) (parcel_views g.W.Work.seen ps)) (sym c.new.ensures.items) refl;
      kept = started_kept c.args.root c.in_ok-copy.field-0 c.args.workers c.in_ok-worker_states.worker_states.items (parcel_views g.W.Work.seen c.new.result.items)
          c.in_ok-worker_states.ensures c.in_ok-copy.ensures (ap (parcel_views g.W.Work.seen) c.new.ensures.items);
    }
