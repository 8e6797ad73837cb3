use Rattle.std.proofs.Common.{ℕ, ◌<◌, get_or}
use Rattle.ovl_layer.specs.Layers.{Entries, IsLayer}
use Rattle.ovl_lookup.proofs.stacks.keep_layers.Given as goal

abbrev pub invariant-loop-layer : goal.invariant-loop-layer
invariant-loop-layer l = (k : ℕ) (d : Entries) → k < l.layer-index → IsLayer (get_or l.layers k d)
