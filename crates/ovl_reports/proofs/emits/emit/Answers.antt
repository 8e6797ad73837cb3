use Rattle.ovl_reports.proofs.EmitLemmas.{more_gone, same_gone}
use Rattle.ovl_reports.proofs.emits.emit.Goals as goal
use Rattle.ovl_reports.proofs.emits.emit.Goals.{in-Ok, in-Err+else-ne}

pub loop-preserved : goal.loop-preserved
loop-preserved g c = elim c.match-write.branch [
  | in-Ok w ↦ more_gone c.args.bytes.now _ _ _ c.loop.written w.in-Ok.count c.match-write.written w.written-is c.loop.invariant w.in-Ok.ensures.bound w.in-Ok.ensures.bytes
  | in-Err+else-ne w ↦ same_gone c.args.bytes.now _ _ _ c.loop.written c.match-write.written w.written-is c.loop.invariant w.in-Err.ensures.bytes
]
