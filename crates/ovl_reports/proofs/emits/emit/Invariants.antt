use Rattle.ovl_reports.proofs.EmitLemmas.{HaveGone}
use Rattle.ovl_reports.proofs.emits.emit.Given as goal

-- the first `written` bytes have gone out
abbrev pub invariant-loop : goal.invariant-loop
invariant-loop g l = HaveGone l.bytes (g.W.Write.contents l.initial.writer) (g.W.Write.contents l.writer) l.written
