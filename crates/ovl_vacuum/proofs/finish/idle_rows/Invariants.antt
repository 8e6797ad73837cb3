use Rattle.ovl_vacuum.proofs.RowLemmas.{AreLeft, ToldTo}
use Rattle.ovl_vacuum.proofs.finish.idle_rows.Given as goal

abbrev pub invariant-loop-number : goal.invariant-loop-number
invariant-loop-number l = record {
  left : AreLeft l.stack l.parcels l.place l.number;
  told : ToldTo l.stack l.number l.idle.items;
}
