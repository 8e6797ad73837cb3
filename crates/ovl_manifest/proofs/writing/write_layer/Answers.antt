use Rattle.std.proofs.Common.{◌++◌, ◌∙◌, List, ℕ, ap}
use Rattle.std.specs.Prelude.{codes}
use Rattle.serde_json.specs.Written.{compact_text}
use Rattle.ovl_manifest.specs.Manifest.{read_layer}
use Rattle.ovl_manifest.specs.Text.{layer_value}
use Rattle.ovl_manifest.proofs.CompactLemmas.{text-back}
use Rattle.ovl_manifest.proofs.Utf8Lemmas.{manifest-utf8}
use Rattle.ovl_manifest.proofs.writing.write_layer.Goals as goal

pub returns-clause-text : goal.returns-clause-text
returns-clause-text c =
    c.in_ok-push.ensures.items
    ∙ ap (λ (t : List ℕ). t ++ codes "\n") (c.in_ok-push_layer.ensures ∙ ap (λ (t : List ℕ). t ++ compact_text (layer_value c.args.layer.now)) c.in_ok-text.ensures.items)

pub returns-clause-back : goal.returns-clause-back
returns-clause-back c =
    let layer = c.args.layer.now in
    ap read_layer (returns-clause-text c)
    ∙ text-back layer c.root-root.ensures.layer (manifest-utf8 layer c.root-root.ensures.layer)
