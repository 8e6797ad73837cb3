use Rattle.std.proofs.Common.{◌≡◌, ◌∙◌, ◌++◌, ◌∷◌, ℕ, List, Some, refl, sym, ap, append_assoc}
use Rattle.hex.specs.Hex.{encode_lower}
use Rattle.json.specs.Print.{quoted}
use Rattle.serde_json.specs.Data.{string}
use Rattle.ovl_manifest.specs.Fields.{attribute_after}
use Rattle.ovl_manifest.proofs.CompactLemmas.{attribute-behind}
use Rattle.ovl_manifest.proofs.compact_entries.read_attribute.Goals as goal

pub returns-in-Ok-true : goal.returns-in-Ok-true
returns-in-Ok-true c =
    let name : List ℕ = c.as_str-name.result.now in
    let digits : List ℕ = c.in_ok-digits.digits.now in
    let rest : List ℕ = c.take_string.new.self in
    let is : attribute_after c.args.attrs.now name (string digits) ≡ Some c.put_digits.new.attrs = rw c.in-Ok-true.field-0-test at c.in-Ok-true.ensures in
    let put = attribute-behind c.args.attrs.now c.put_digits.new.attrs name digits (c.if-not-are_before.ensures refl) is in
    record {
      attr = (name, put.0);
      first = c.in_ok-text.ensures ∙ ap (λ (own : List ℕ). quoted own ++ c.take_text.new.self) (sym c.as_str-name.ensures.value)
          ∙ (ap (λ (t : List ℕ). quoted name ++ t) (c.in_ok-take.ensures ∙ ap (λ (t : List ℕ). 58 ∷ t) (c.in_ok-digits.ensures ∙ ap (λ (own : List ℕ). quoted own ++ rest) (sym put.1)))
          ∙ sym (append_assoc (quoted name) (58 ∷ quoted (encode_lower put.0)) rest));
      behind = put.2;
    }
