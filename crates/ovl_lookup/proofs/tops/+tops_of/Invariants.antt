use Rattle.std.proofs.Common.{length}
use Rattle.ovl_lookup.proofs.tops.+tops_of.Given as goal

abbrev pub decreases-tops_of : goal.decreases-tops_of
decreases-tops_of l = length l.places.now
