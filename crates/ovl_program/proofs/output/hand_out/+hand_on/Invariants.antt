use Rattle.std.proofs.Common.{length}
use Rattle.ovl_program.proofs.output.hand_out.+hand_on.Given as goal

abbrev pub decreases-hand_on : goal.decreases-hand_on
decreases-hand_on g l = length l.layers.now
