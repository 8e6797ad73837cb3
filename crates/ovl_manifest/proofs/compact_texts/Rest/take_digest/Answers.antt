use Rattle.std.proofs.Common.{◌∙◌, ◌++◌, ◌∷◌, [], ℕ, List, sym, ap, append_assoc}
use Rattle.ovl_manifest.proofs.CompactLemmas.{digest-quoted}
use Rattle.ovl_manifest.proofs.compact_texts.Rest.take_digest.Goals as goal

pub returns-in-Ok : goal.returns-in-Ok
returns-in-Ok c =
    let digits : List ℕ = c.in_ok-digits.digits.now in
    c.in_ok-take.ensures
    ∙ (ap (λ (t : List ℕ). 34 ∷ t) (c.in_ok-digits.ensures.text ∙ ap (λ (t : List ℕ). digits ++ t) c.in_ok-take-2.ensures)
    ∙ sym (ap (λ (t : List ℕ). t ++ c.take-2.new.self) (digest-quoted digits c.in-Ok.digest c.in-Ok.ensures) ∙ ap (λ (t : List ℕ). 34 ∷ t) (append_assoc digits (34 ∷ []) c.take-2.new.self)))
