use Rattle.ovl_layer.proofs.KidListLemmas.{AreKidEndsTo}
use Rattle.ovl_layer.proofs.kid_lists.ends_of.Given as goal

abbrev pub invariant-loop-number : goal.invariant-loop-number
invariant-loop-number l = AreKidEndsTo l.parents l.number l.ends.items
