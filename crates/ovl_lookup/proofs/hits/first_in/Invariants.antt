use Rattle.std.proofs.Common.{◌≡◌, drop}
use Rattle.ovl_lookup.specs.Views.{found_below}
use Rattle.ovl_lookup.specs.DirViews.{places_in}
use Rattle.ovl_lookup.proofs.hits.first_in.Given as goal

-- what the places that are left have at the name is what all of them have
abbrev pub invariant-loop-i : goal.invariant-loop-i
invariant-loop-i l = found_below l.stack.layers l.name (drop l.i (places_in l.stack l.places)) ≡ found_below l.stack.layers l.name (places_in l.stack l.places)
