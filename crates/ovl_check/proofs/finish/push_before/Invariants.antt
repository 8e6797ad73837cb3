use Rattle.std.proofs.Common.{◌++◌, length}
use Rattle.std.specs.List.Sorted.{IsPermutation}
use Rattle.ovl_check.proofs.finish.push_before.Given as goal

abbrev pub invariant-loop-finding : goal.invariant-loop-finding
invariant-loop-finding l = IsPermutation (l.initial.findings.items ++ l.initial.waiting.items) (l.findings.items ++ l.waiting.items)

abbrev pub decreases-loop-finding : goal.decreases-loop-finding
decreases-loop-finding l = length l.waiting.items
