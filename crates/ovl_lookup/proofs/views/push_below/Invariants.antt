use Rattle.std.proofs.Common.{◌≡◌, ◌++◌, drop}
use Rattle.std.specs.List.{All}
use Rattle.ovl_lookup.specs.Views.{reached_below}
use Rattle.ovl_lookup.specs.DirViews.{IsPlaceOver, places_in}
use Rattle.ovl_lookup.proofs.views.push_below.Given as goal

-- the places so far and those below what is left of the view, by the name so far, are all
abbrev pub invariant-loop-place : goal.invariant-loop-place
invariant-loop-place l = record {
  places : places_in l.stack l.below.items ++ reached_below l.stack.layers l.own (drop l.place-index (places_in l.stack l.places)) ≡ places_in l.stack l.initial.below.items ++ reached_below l.stack.layers l.fn.name (places_in l.stack l.places);
  over : All (IsPlaceOver l.stack) l.initial.below.items → All (IsPlaceOver l.stack) l.below.items;
}
