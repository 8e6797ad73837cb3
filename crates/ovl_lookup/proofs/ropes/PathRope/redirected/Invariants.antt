use Rattle.std.proofs.Common.{◌≡◌, ◌++◌, drop}
use Rattle.ovl_lookup.specs.PathRopes.{names_of_parts}
use Rattle.ovl_lookup.proofs.ropes.PathRope.redirected.Given as goal

-- the names so far, and those of the parts that are left, are all
abbrev pub invariant-loop-part : goal.invariant-loop-part
invariant-loop-part l = l.rope ++ drop l.left (names_of_parts (drop l.part-index l.part-items)) ≡ l.fn.next ++ drop l.fn.walked l.self
