use Rattle.std.specs.List.{AllAdjacentBelow}
use Rattle.ovl_blobs.proofs.NamedLemmas.{NameBefore}
use Rattle.ovl_blobs.proofs.by_digest.in_order.Given as goal

abbrev pub invariant-loop-i : goal.invariant-loop-i
invariant-loop-i g l = AllAdjacentBelow (NameBefore g.T.Named.name_of) l.elements l.i
