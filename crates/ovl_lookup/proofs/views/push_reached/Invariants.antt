use Rattle.std.proofs.Common.{◌≡◌, ◌++◌, drop}
use Rattle.std.specs.List.{All}
use Rattle.ovl_lookup.specs.Views.{reached}
use Rattle.ovl_lookup.specs.DirViews.{IsPlaceOver, places_in}
use Rattle.ovl_lookup.proofs.views.push_reached.Given as goal

-- the places so far and those of the layers that are left, at the rope so far, are all
abbrev pub invariant-loop-layer : goal.invariant-loop-layer
invariant-loop-layer l = record {
  places : places_in l.stack l.places.items ++ reached (drop l.layer l.stack.layers) l.layer l.rope ≡ places_in l.stack l.initial.places.items ++ reached (drop l.fn.from l.stack.layers) l.fn.from l.fn.path;
  over : All (IsPlaceOver l.stack) l.initial.places.items → All (IsPlaceOver l.stack) l.places.items;
}
