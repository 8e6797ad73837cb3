use Rattle.ovl_vacuum.proofs.RowLemmas.{PassedTo}
use Rattle.ovl_vacuum.proofs.finish.gone_rows.Given as goal

abbrev pub invariant-loop-number : goal.invariant-loop-number
invariant-loop-number l = PassedTo l.stack l.number l.gone.items

abbrev pub decreases-loop-number : goal.decreases-loop-number
decreases-loop-number l = l.number
