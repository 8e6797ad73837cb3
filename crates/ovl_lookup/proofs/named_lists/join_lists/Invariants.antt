use Rattle.std.proofs.Common.{◌+◌, length}
use Rattle.ovl_lookup.proofs.JoinLemmas.{AreJoined}
use Rattle.ovl_lookup.proofs.named_lists.join_lists.Given as goal

abbrev pub invariant-loop-one : goal.invariant-loop-one
invariant-loop-one g l = AreJoined g.T.HasName.told g.T.HasName.joined_of l.upper l.lower l.both.items l.above l.below

abbrev pub decreases-loop-one : goal.decreases-loop-one
decreases-loop-one g l = length l.above + length l.below
