use Rattle.std.proofs.Common.{◌≡◌, ◌++◌, length}
use Rattle.std.specs.Slice.Iter.{iter_rest}
use Rattle.ovl_lookup.specs.PathRopes.{names_of_parts}
use Rattle.ovl_lookup.proofs.rope_ends.RopeEnd.refill.Given as goal

abbrev pub invariant-loop-self : goal.invariant-loop-self
invariant-loop-self l = names_of_parts (iter_rest l.self.parts) ++ l.self.last ≡ names_of_parts (iter_rest l.fn.self.parts) ++ l.fn.self.last

abbrev pub decreases-loop-self : goal.decreases-loop-self
decreases-loop-self l = length (iter_rest l.self.parts)
