use Rattle.std.proofs.Common.{◌≤◌, length}
use Rattle.ovl_layer.proofs.KidListLemmas.{ArePlaced}
use Rattle.ovl_layer.proofs.kid_lists.KidLists.of.Given as goal

abbrev pub invariant-loop-number : goal.invariant-loop-number
invariant-loop-number l = record {
  placed : ArePlaced l.parents l.number l.starts.items l.kids.items;
  some : 1 ≤ l.number;
  within : l.number ≤ length l.parents;
}

abbrev pub decreases-loop-number : goal.decreases-loop-number
decreases-loop-number l = l.number
