use Rattle.std.proofs.Common.{◌≡◌, ◌∙◌, List, ℕ, Bool, true, false, Some, refl, sym, ap, Bor}
use Rattle.std.specs.Prelude.{not}
use Rattle.std.specs.Cmp.Lexicographic.{bytes_decides}
use Rattle.std.specs.Option.{option_map}
use Rattle.json.specs.Print.{quoted}
use Rattle.serde_json.specs.Data.{string}
use Rattle.serde_json.specs.View.{view}
use Rattle.serde_json.specs.Written.{compact_text, has_float}
use Rattle.ovl_manifest.proofs.CompactLemmas.{string-of}
use Rattle.ovl_manifest.proofs.compact_texts.string_written.Goals as goal

no_difference : (equal : Bool) → not equal ≡ false → equal ≡ true
no_difference true e = refl
no_difference false e = let bad : true ≡ false = e in cc

pub returns-in-Ok-from_str : goal.returns-in-Ok-from_str
returns-in-Ok-from_str c =
    let text : List ℕ = c.in_ok-text.text.now in
    let told : option_map (λ (own : Bor (List ℕ)). own.now) c.as_str.result ≡ Some text = ap (option_map (λ (own : Bor (List ℕ)). own.now)) c.in_ok-text.was in
    let is : view c.in-Ok.value ≡ string text = string-of (view c.in-Ok.value) text (sym c.as_str.ensures ∙ told) in
    let written : c.in-Ok-to_vec.written.items ≡ quoted text = c.in-Ok-to_vec.ensures.text (ap has_float is) ∙ ap compact_text is in
    let equal : c.as_slice.result.now ≡ c.as_bytes.result.now = (bytes_decides c.as_slice.result.now c.as_bytes.result.now).0 (no_difference _ (sym c.if-ne.ensures)) in
    let same : c.args.own.now ≡ c.in-Ok-to_vec.written.items = sym c.as_bytes.ensures.value ∙ (sym equal ∙ c.as_slice.ensures.value) in
    same ∙ (written ∙ ap quoted (sym c.in-Ok-from_str.ensures.ok))
