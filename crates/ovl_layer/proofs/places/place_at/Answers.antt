use Rattle.ovl_layer.proofs.PlaceLemmas.{goes_nowhere, goes_on}
use Rattle.ovl_layer.proofs.places.place_at.Goals as goal

pub returns-in_default : goal.returns-in_default
returns-in_default g c = goes_nowhere (g.P.LayerPlace.entries c.loop-name.place) _ _ _ _ c.in-Some.ensures.steps c.loop-name.invariant.same c.in_default.ensures

pub loop-name-preserved : goal.loop-name-preserved
loop-name-preserved g c = record {
  same = goes_on (g.P.LayerPlace.entries c.loop-name.place) _ _ _ _ _ c.in-Some.ensures.steps c.loop-name.invariant.same c.in-Some-child.ensures.0;
  some = c.in-Some-child.ensures.1;
}
