use Rattle.std.proofs.Common.{◌≡◌, ◌++◌, length}
use Rattle.std.specs.Slice.Iter.{iter_rest}
use Rattle.ovl_lookup.specs.PathRopes.{names_of_parts}
use Rattle.ovl_lookup.proofs.rope_names.RopeNamesIterator.next.Given as goal

abbrev pub invariant-loop-self : goal.invariant-loop-self
invariant-loop-self l = l.self-inside.first ++ names_of_parts (iter_rest l.self-inside.parts) ≡ l.fn.self

abbrev pub decreases-loop-self : goal.decreases-loop-self
decreases-loop-self l = length (iter_rest l.self-inside.parts)
