use Rattle.std.proofs.Common.{◌≡◌, ◌≢◌, ◌<◌, ◌++◌, List, ℕ, Some, None, length, sym, ap, ◌∙◌, arith}
use Rattle.std.specs.List.{starts_with}
use Rattle.std.proofs.lemmas.Bool.Decides.{nat_tests, Decides-eqb}
use Rattle.std.proofs.lemmas.Slice.Eq.{strip_prefix_is}
use Rattle.ovl_names.specs.Names.{name_eq}
use Rattle.ovl_names.proofs.PathTexts.{text_starts-end, text_starts-at, text_starts-not, text_starts-names, starts_with-rest}
use Rattle.ovl_names.proofs.path_names.Names.starts_with.Goals as goal

pub returns-then-is_empty-2 : goal.returns-then-is_empty-2
returns-then-is_empty-2 c =
    let text : List ℕ = c.self.inside.text.now in
    let front : List ℕ = c.front.inside.text.now in
    let rest : List ℕ = c.in-Some.rest.now in
    let apart : text ≡ front ++ rest = sym c.as_bytes.ensures.value ∙ (strip_prefix_is Decides-eqb c.as_bytes.result.now c.as_bytes-2.result.now (Some c.in-Some.rest) c.in-Some.ensures.cases ∙ ap (λ own. own ++ rest) c.as_bytes-2.ensures.value) in
    let some : 0 < length front = grind (arith, nat_tests) in
    let none : length rest ≡ 0 = grind (arith, nat_tests) in
    c.if-is_empty-2.true ∙ (sym (text_starts-end rest none) ∙ (sym (starts_with-rest text front rest apart some) ∙ (λ j. starts_with name_eq (c.self.view_is j) (c.front.view_is j))))

pub returns-else-is_empty-2 : goal.returns-else-is_empty-2
returns-else-is_empty-2 c =
    let text : List ℕ = c.self.inside.text.now in
    let front : List ℕ = c.front.inside.text.now in
    let rest : List ℕ = c.in-Some.rest.now in
    let apart : text ≡ front ++ rest = sym c.as_bytes.ensures.value ∙ (strip_prefix_is Decides-eqb c.as_bytes.result.now c.as_bytes-2.result.now (Some c.in-Some.rest) c.in-Some.ensures.cases ∙ ap (λ own. own ++ rest) c.as_bytes-2.ensures.value) in
    let some : 0 < length front = grind (arith, nat_tests) in
    let more : 0 < length rest = grind (arith, nat_tests) in
    sym (text_starts-at rest more) ∙ (sym (starts_with-rest text front rest apart some) ∙ (λ j. starts_with name_eq (c.self.view_is j) (c.front.view_is j)))

pub returns-in-None : goal.returns-in-None
returns-in-None c =
    let text : List ℕ = c.self.inside.text.now in
    let front : List ℕ = c.front.inside.text.now in
    let some : 0 < length front = grind (arith, nat_tests) in
    let lacks : (rest : List ℕ) → text ≢ front ++ rest = λ rest e. strip_prefix_is Decides-eqb c.as_bytes.result.now c.as_bytes-2.result.now None c.in-None.ensures.cases rest (c.as_bytes.ensures.value ∙ (e ∙ ap (λ own. own ++ rest) (sym c.as_bytes-2.ensures.value))) in
    sym (text_starts-not text front lacks) ∙ (sym (text_starts-names text front some) ∙ (λ j. starts_with name_eq (c.self.view_is j) (c.front.view_is j)))
