use Rattle.std.proofs.Common.{◌≡◌, Ok, map, take}
use Rattle.ovl_manifest.specs.Text.{manifest_text}
use Rattle.ovl_manifest.specs.Manifest.{read_layer}
use Rattle.ovl_engine.proofs.rewrites.manifests_of.Given as goal

-- the manifests of the layers so far
abbrev pub invariant-loop-layer : goal.invariant-loop-layer
invariant-loop-layer l =
    (map (λ manifest. manifest.items) l.manifests.items ≡ map (λ layer. manifest_text layer.now) (take l.layer-index l.fn.layers))
    × (map read_layer (map (λ manifest. manifest.items) l.manifests.items) ≡ map (λ layer. Ok layer.now) (take l.layer-index l.fn.layers))
