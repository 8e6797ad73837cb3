use Rattle.std.proofs.Common.{◌≡◌, ◌<◌, ◌∙◌, ◌++◌, ◌∷◌, [], List, ℕ, lit<, string_bytes, length, ap, sym, append_assoc, arith}
use Rattle.std.proofs.lemmas.Bool.Decides.{nat_tests}
use Rattle.ovl_names.specs.Names.{slash}
use Rattle.ovl_names.specs.Paths.{text_names}
use Rattle.ovl_names.proofs.PathTexts.{empty_from_length, text_names-across}
use Rattle.ovl_names.proofs.paths.append.Goals.{then-not-is_empty+in_ok-push, else-not-is_empty}
use Rattle.ovl_names.proofs.paths.append.Goals as goal

pub returns-clause-names : goal.returns-clause-names
returns-clause-names c =
    let old : List ℕ = string_bytes c.args.text.now in
    let names : List ℕ = c.args.names.now in
    let more : 0 < length names = grind (arith, nat_tests) in
    elim c.if-not-is_empty.branch [
      | then-not-is_empty+in_ok-push w ↦
          let apart : string_bytes c.if-not-is_empty.text ≡ old ++ slash ∷ [] = ap string_bytes w.text-is ∙ (w.in_ok-push.ensures.bytes ∙ (λ j. c.in_ok-reserve.ensures.bytes j ++ (w.in_ok-push.ensures.ascii (lit< tt)) j)) in
          let some : 0 < length old = grind (arith, nat_tests) in
          ap text_names (c.in_ok-push_str.ensures.bytes ∙ (ap (λ front. front ++ names) apart ∙ append_assoc old (slash ∷ []) names)) ∙ text_names-across old names some more
      | else-not-is_empty w ↦
          let none : old ≡ [] = empty_from_length old (grind (arith, nat_tests)) in
          let same : string_bytes c.if-not-is_empty.text ≡ old = ap string_bytes w.text-is ∙ c.in_ok-reserve.ensures.bytes in
          ap text_names (c.in_ok-push_str.ensures.bytes ∙ ap (λ front. front ++ names) (same ∙ none)) ∙ ap (λ (front : List ℕ). text_names front ++ text_names names) (sym none)
    ]
