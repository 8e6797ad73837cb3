use Rattle.std.proofs.Common.{◌≡◌, ◌++◌, [], length, reverse}
use Rattle.std.specs.Slice.Iter.{iter_rest}
use Rattle.ovl_names.specs.Paths.{path_cmp}
use Rattle.ovl_lookup.specs.PathRopes.{names_of_parts}
use Rattle.ovl_lookup.proofs.ropes.PathRope.compare_with.Given as goal

-- the names that are left are to each other as all of them, and where the last part has none left, none are
abbrev pub invariant-loop-theirs : goal.invariant-loop-theirs
invariant-loop-theirs l = record {
  order : path_cmp (reverse (names_of_parts (iter_rest l.ours.parts) ++ l.ours.last)) (reverse (names_of_parts (iter_rest l.theirs.parts) ++ l.theirs.last)) ≡ path_cmp (reverse (l.self ++ l.below)) (reverse (l.other ++ l.other_below));
  all : l.ours.last ≡ [] → names_of_parts (iter_rest l.ours.parts) ≡ [];
  their_all : l.theirs.last ≡ [] → names_of_parts (iter_rest l.theirs.parts) ≡ [];
}

abbrev pub decreases-loop-theirs : goal.decreases-loop-theirs
decreases-loop-theirs l = length (names_of_parts (iter_rest l.ours.parts) ++ l.ours.last)
