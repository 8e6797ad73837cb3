use Rattle.std.proofs.Common.{rules, ◌≡◌, ◌∙◌, map, refl, sym}
use Rattle.std.proofs.lemmas.Simd.{map-map}
use Rattle.ovl_manifest.specs.Text.{manifest_text}
use Rattle.ovl_engine.proofs.rewrites.rewritten.Goals as goal

pub returns-clause-answer : goal.returns-clause-answer
returns-clause-answer g c =
    let texts : map (λ manifest. manifest.items) c.in_ok-manifests.field-0.items ≡ map (λ layer. manifest_text layer.now) c.args.layers.now = search rules in
    record { told = refl; written = texts ∙ sym (map-map manifest_text (λ layer. layer.now) c.args.layers.now); clean = refl }
