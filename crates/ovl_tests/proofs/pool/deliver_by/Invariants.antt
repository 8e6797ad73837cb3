use Rattle.std.proofs.Common.{◌≡◌}
use Rattle.ovl_tests.proofs.pool.deliver_by.Given as goal

abbrev pub invariant-loop-kids : goal.invariant-loop-kids
invariant-loop-kids g l = (l.known.parts ≡ 1) × (l.delivered.parts ≡ 1)
