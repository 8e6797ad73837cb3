use Rattle.std.proofs.Common.{◌≡◌, take}
use Rattle.ovl_lookup.specs.PathRopes.{names_of_parts}
use Rattle.ovl_lookup.proofs.ropes.PathRope.path.Given as goal

abbrev pub invariant-loop-part : goal.invariant-loop-part
invariant-loop-part l = l.path ≡ names_of_parts (take l.part-index l.part-items)
