use Rattle.std.proofs.Common.{◌≡◌, ◌∙◌, ◌++◌, List, ℕ, ap, false, decimal}
use Rattle.std.specs.Prelude.{codes}
use Rattle.serde_json.specs.Written.{items_text}
use Rattle.ovl_manifest.specs.Text.{entry_items}
use Rattle.ovl_manifest.specs.Versions.{version_number, written}
use Rattle.ovl_manifest.proofs.CompactLemmas.{layer_text}
use Rattle.ovl_manifest.proofs.compact_layers.read_manifest.Goals as goal

pub returns-clause-text : goal.returns-clause-text
returns-clause-text c =
    let sheet = c.in_ok-sheet.sheet in
    let rest : List ℕ = c.take-3.new.self in
    let number : c.in_ok-number.number ≡ version_number written = c.if-number.false ∙ c.number.ensures in
    let ended = c.in_ok-number.ensures.text ∙ (λ j. decimal (number j) ++ c.in_ok-take-3.ensures j) in
    c.in_ok-take.ensures
    ∙ (ap (λ (t : List ℕ). codes "{\"entries\":[" ++ t)
    (c.in_ok-sheet.ensures.text ∙ ap (λ (t : List ℕ). items_text false (entry_items sheet) ++ t) (c.in_ok-take-2.ensures ∙ ap (λ (t : List ℕ). codes ",\"overlay-layer\":" ++ t) ended))
    ∙ layer_text sheet rest)
