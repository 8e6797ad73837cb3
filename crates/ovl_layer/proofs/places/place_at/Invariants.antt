use Rattle.std.proofs.Common.{◌≡◌, ◌≢◌, []}
use Rattle.ovl_layer.specs.LayerTrees.{entries_under}
use Rattle.ovl_layer.proofs.places.place_at.Given as goal

-- what is at and under the names that are left, seen from the place so far
abbrev pub invariant-loop-name : goal.invariant-loop-name
invariant-loop-name g l = record {
  same : entries_under l.name-iterator (g.P.LayerPlace.entries l.place) ≡ entries_under l.path (g.P.LayerPlace.entries l.fn.root);
  some : g.P.LayerPlace.entries l.place ≢ [];
}
