use Rattle.std.proofs.Common.{length}
use Rattle.ovl_manifest.proofs.writing.+room_under.Given as goal

abbrev pub decreases-room_under : goal.decreases-room_under
decreases-room_under l = length l.node.now.below
