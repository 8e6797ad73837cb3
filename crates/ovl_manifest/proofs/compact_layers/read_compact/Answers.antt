use Rattle.std.proofs.Common.{◌≡◌, ◌∙◌, ◌++◌, [], List, ℕ, Option, Some, None, Ok, ap, sym, subst, append-nil, refl}
use Rattle.std.specs.Prelude.{codes, MatchOption}
use Rattle.std.specs.Str.{IsUtf8}
use Rattle.serde_json.specs.Written.{compact_text}
use Rattle.ovl_layer.specs.Layers.{Entries, IsLayer}
use Rattle.ovl_manifest.specs.Manifest.{read_layer}
use Rattle.ovl_manifest.specs.Text.{layer_value}
use Rattle.ovl_manifest.proofs.CompactLemmas.{text-alone, text-back}
use Rattle.ovl_manifest.proofs.compact_layers.read_compact.Goals as goal

-- what follows a layer's text is a newline or nothing
module _ (layer : Entries) (is : IsLayer layer) where
  abbrev own : List ℕ
  own = compact_text (layer_value layer)

  whole : (taken : Option (Unit {0})) (text rest ended : List ℕ) → IsUtf8 text → text ≡ own ++ rest → MatchOption taken (ended ≡ rest) (λ _. rest ≡ codes "\n" ++ ended) → ended ≡ [] → read_layer text ≡ Ok layer
  whole None text rest ended utf8 is_text same none =
      let alone : text ≡ own = is_text ∙ (ap (λ (t : List ℕ). own ++ t) (sym same ∙ none) ∙ append-nil own) in
      ap read_layer alone ∙ text-alone layer is (subst IsUtf8 alone utf8)
  whole (Some found) text rest ended utf8 is_text newline none =
      let behind : text ≡ own ++ codes "\n" = is_text ∙ ap (λ (t : List ℕ). own ++ t) (newline ∙ ap (λ (t : List ℕ). codes "\n" ++ t) none) in
      ap read_layer behind ∙ text-back layer is (subst IsUtf8 behind utf8)

pub returns-then-is_empty : goal.returns-then-is_empty
returns-then-is_empty c =
    let read = c.in_ok-sheet.ensures in
    whole c.in_ok-sheet.sheet read.layer c.take-newline.result c.args.text.now c.read_manifest.new.rest c.take-newline.new.self c.requires (sym c.of-rest.ensures ∙ read.text) c.take-newline.ensures (c.if-is_empty.ensures refl)
