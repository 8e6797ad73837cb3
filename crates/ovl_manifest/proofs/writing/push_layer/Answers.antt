use Rattle.std.proofs.Common.{rules, ◌≡◌, ◌++◌, [], ◌∙◌, ℕ, List, false, sym, ap, append-nil, append_assoc}
use Rattle.std.specs.Prelude.{codes, decimal, OnOk}
use Rattle.std.proofs.lemmas.Result.{on_ok_weaker}
use Rattle.serde_json.specs.Written.{compact_text}
use Rattle.ovl_manifest.specs.Compact.{entries_text}
use Rattle.ovl_layer.specs.Layers.{Entries}
use Rattle.ovl_manifest.specs.Text.{layer_value}
use Rattle.ovl_manifest.specs.Versions.{version_number, written}
use Rattle.ovl_manifest.proofs.CompactLemmas.{Grows, onto, items-entries, layer_text}
use Rattle.ovl_manifest.proofs.writing.push_layer.Goals as goal

pub returns : goal.returns
returns c =
    let layer : Entries = c.args.layer.now in
    let text : List ℕ = c.args.text.now.items in
    let entries : List ℕ = entries_text false layer in
    let number : List ℕ = decimal (version_number written) in
    let begin : Grows text (codes "{\"entries\":[") c.extend_from_slice.new.self.items =
    record { is = c.in_ok-extend_from_slice.ensures.items ∙ ap (λ (t : List ℕ). text ++ t) c.as_bytes.ensures.value } in
    let listed : Grows c.extend_from_slice.new.self.items entries c.push_entries.new.text.items = record { is = search rules } in
    let short : c.as_slice.result.now ≡ codes "],\"overlay-layer\":" ++ (number ++ codes "}") =
    c.as_slice.ensures
    ∙ (c.put-2.ensures
    ∙ ap (λ (t : List ℕ). codes "],\"overlay-layer\":" ++ t) (c.put_number.ensures.text
    ∙ (ap (λ (n : ℕ). decimal n ++ c.put.new.self) c.number.ensures
    ∙ ap (λ (t : List ℕ). number ++ t) (c.put.ensures ∙ ap (λ (t : List ℕ). codes "}" ++ t) c.new-short.ensures)))) in
    let pushed : OnOk c.extend_from_slice-2.result (c.extend_from_slice-2.new.self.items ≡ c.push_entries.new.text.items ++ c.as_slice.result.now) = search rules in
    on_ok_weaker c.extend_from_slice-2.result (λ e.
    let end : Grows c.push_entries.new.text.items (codes "],\"overlay-layer\":" ++ (number ++ codes "}")) c.extend_from_slice-2.new.self.items =
    record { is = e ∙ ap (λ (t : List ℕ). c.push_entries.new.text.items ++ t) short } in
    let closed : entries ++ (codes "],\"overlay-layer\":" ++ (number ++ codes "}")) ≡ (entries ++ codes "]") ++ (codes ",\"overlay-layer\":" ++ (number ++ codes "}")) =
    sym (append_assoc entries (codes "]") (codes ",\"overlay-layer\":" ++ (number ++ codes "}"))) in
    (onto begin (onto listed end)).is
    ∙ ap (λ (t : List ℕ). text ++ t) (ap (λ (t : List ℕ). codes "{\"entries\":[" ++ t) (closed ∙ ap (λ (t : List ℕ). t ++ (codes ",\"overlay-layer\":" ++ (number ++ codes "}"))) (sym (items-entries false layer)))
    ∙ (layer_text layer [] ∙ append-nil (compact_text (layer_value layer))))) pushed
