-- Merges that lead from a stack to another, one after the other.
use Rattle.std.proofs.Common.{◌≡◌, ℕ, zero, suc, ◌+◌, ◌-◌, ◌<◌, Result, Ok, Err, List, [], ◌∷◌, IfOk, inl, length, drop, refl, sym, ap, ◌∙◌, subst, arith, length-drop}
use Rattle.ovl_names.specs.Paths.{PathNames}
use Rattle.ovl_lookup.specs.Stacks.{StackView}
use Rattle.ovl_lookup.specs.Merged.{look}
use Rattle.ovl_board.specs.declared.pieces.Piece.{Piece}
use Rattle.ovl_check.specs.declared.findings.Finding.{Finding}
use Rattle.ovl_blobs.specs.Blobs.{BlobView}
use Rattle.ovl_check.specs.Findings.{findings}
use Rattle.ovl_commands.specs.declared.requests.Answer.{Answer}
use Rattle.ovl_commands.specs.declared.requests.Command.TheVariants.{Merge}
use Rattle.ovl_engine.specs.declared.faults.EngineFault.{EngineFault}
use Rattle.ovl_engine.specs.Outcomes.{IsFailedWalk, IsFailure, IsRun, MayRefuseLayers}
use Rattle.ovl_engine.specs.Prepared.{MayRefuseWork}
use Rattle.ovl_engine.specs.MergesDown.{IsRunDown, KeepsTreeByTwo, KeepsTreeDown, MergeLeads, MergesLead}
use Rattle.ovl_engine.proofs.KeptLemmas.{keeps_down, renewed_from}
use Rattle.ovl_engine.proofs.OutcomeLemmas.{unwalked, walk-part}

-- ---- how far merges lead

drop-next : {X : Type 0} (n : ℕ) (xs : List X) → drop 1 (drop n xs) ≡ drop (suc n) xs
drop-next zero xs = refl
drop-next (suc n) [] = refl
drop-next (suc n) (x ∷ xs) = drop-next n xs

drop-two : {X : Type 0} (xs : List X) → drop 2 xs ≡ drop 1 (drop 1 xs)
drop-two xs = sym (drop-next 1 xs)

module _ (blobs : List BlobView) (stack : StackView) where
  -- each takes one layer away
  pub led-count : (n : ℕ) (last : StackView) → n < length stack.layers → MergesLead n blobs stack last → length last.layers + n ≡ length stack.layers
  led-count zero last some lead = omega (arith, ap (λ (s : StackView). length s.layers) lead)
  led-count (suc n) last some lead =
      omega (
        arith,
        led-count n lead.0 (omega (arith, some)) lead.1.0,
        ap (λ (s : StackView). length s.layers) lead.1.1.1.same,
        length-drop 2 lead.0.layers,
        some,
      )

  -- one more leads on
  pub led-more : (n : ℕ) (next last : StackView) → MergesLead n blobs stack next → MergeLeads blobs next last → MergesLead (n + 1) blobs stack last
  led-more n next last lead one =
      let more : suc n ≡ n + 1 = omega arith in
      subst (λ (m : ℕ). MergesLead m blobs stack last) more (next, (lead, one))

  -- those under the topmost are the given ones
  led-rest : (n : ℕ) (last : StackView) → MergesLead n blobs stack last → drop 1 last.layers ≡ drop (suc n) stack.layers
  led-rest zero last lead = ap (λ (s : StackView). drop 1 s.layers) lead
  led-rest (suc n) last lead =
      ap (λ (s : StackView). drop 1 s.layers) lead.1.1.1.same
      ∙ (drop-two lead.0.layers
      ∙ (ap (drop 1) (led-rest n lead.0 lead.1.0) ∙ drop-next (suc n) stack.layers))

  led-data : (n : ℕ) (last : StackView) → MergesLead n blobs stack last → last.data_only ≡ stack.data_only
  led-data zero last lead = ap (λ (s : StackView). s.data_only) lead
  led-data (suc n) last lead = ap (λ (s : StackView). s.data_only) lead.1.1.1.same ∙ led-data n lead.0 lead.1.0

  -- the two layers of the last merge in place of all that were merged keep the tree
  pub kept-down : (left n : ℕ) (last : StackView) (answer : Answer) → 0 < left → n + left + 1 ≡ length stack.layers → MergesLead n blobs stack last
      → ((path : PathNames) → look last path ≡ look stack path) → KeepsTreeByTwo last answer → KeepsTreeDown left stack answer
  kept-down left n last answer some number lead same kept =
      keeps_down left answer (kept.top ∷ kept.lower ∷ []) stack kept.read some (omega (arith, number))
      (λ path. ap (λ (s : StackView). look s path) is ∙ (kept.same path ∙ same path))
    where
      rest : drop (length stack.layers + 1 - left) stack.layers ≡ drop 2 last.layers
      rest =
          let many : length stack.layers + 1 - left ≡ suc (suc n) = omega (arith, number) in
          ap (λ (d : ℕ). drop d stack.layers) many
          ∙ (sym (drop-next (suc n) stack.layers)
          ∙ (ap (drop 1) (sym (led-rest n last lead)) ∙ sym (drop-two last.layers)))

      is : renewed_from (length stack.layers + 1 - left) (kept.top ∷ kept.lower ∷ []) stack ≡ record last { layers = kept.top ∷ kept.lower ∷ drop 2 last.layers }
      is = λ j. record { layers = kept.top ∷ kept.lower ∷ rest j; data_only = sym (led-data n last lead) j }

-- ---- what comes of them

pub if-ok : (result : Result Answer EngineFault) (P : Type 0) → P → IfOk result (λ answer. P)
if-ok (Ok answer) P is = is
if-ok (Err fault) P is = tt

module _ (may_refuse : Piece → Type 0) where
  -- a merge of the last stack is what they come to
  pub run-down : (left : ℕ) (blobs : List BlobView) (stack last : StackView) (n : ℕ) (result : Result Answer EngineFault) → MergesLead n blobs stack last → left < length last.layers
      → IfOk result (λ answer. length last.layers ≡ left + 1)
      → IsRun Merge last (findings blobs last) (MayRefuseWork Merge last may_refuse) result
      → IsRunDown left blobs stack (λ one. MayRefuseWork Merge one may_refuse) result
  run-down left blobs stack last n result lead more answered run = record {
    before = n;
    last = last;
    lead = lead;
    more = more;
    answered = answered;
    run = run;
  }

  -- where the layers of a stack aren't all checked no merge is made of it
  pub unchecked : (stack : StackView) (found : List Finding) (fault : EngineFault) → IsFailedWalk (MayRefuseLayers stack may_refuse) fault
      → IsFailure Merge stack found (MayRefuseWork Merge stack may_refuse) fault
  unchecked stack found fault is =
      unwalked (MayRefuseWork Merge stack may_refuse) Merge stack found fault
      (walk-part (MayRefuseLayers stack may_refuse) (MayRefuseWork Merge stack may_refuse) (λ refused. inl (refl, refused)) fault is)
