-- Parts that are handed out one after another.
use Rattle.std.proofs.Common.{◌≡◌, ℕ, ◌+◌, ◌<◌, zero, suc, List, [], ◌∷◌, ◌++◌, map, length, take, Option, Result, Ok, Err, MatchResult, ◌∙◌, inl, inr, refl, sym, subst, arith}
use Rattle.std.proofs.lemmas.List.{nil_from_length}
use Rattle.std.proofs.KnownBytes.{Keeps-refl}
use Rattle.std.specs.Prelude.{◌⊎◌}
use Rattle.std.specs.Io.KnownBytes.{Appends, Keeps}
use Rattle.ovl_program.specs.declared.output.hand_out.OutFault.{OutFault}
use Rattle.ovl_program.specs.HandedOut.{AreKept, AreWhole, IsCutAt}

pub all_stay : (known : List (Option (List ℕ))) → AreKept known known
unfolding AreKept
all_stay [] = tt
all_stay (x ∷ xs) = (Keeps-refl x, all_stay xs)

-- the last part is whole
pub whole_last : (before after : Option (List ℕ)) (part : List ℕ) → Appends before after part → AreWhole (before ∷ []) (after ∷ []) (part ∷ [])
unfolding AreWhole
whole_last before after part gone = (gone, tt)

-- the first part is whole, and so are the others
pub whole_first : (before after : Option (List ℕ)) (part : List ℕ) (befores afters : List (Option (List ℕ))) (parts : List (List ℕ))
    → Appends before after part → AreWhole befores afters parts → AreWhole (before ∷ befores) (after ∷ afters) (part ∷ parts)
unfolding AreWhole
whole_first before after part befores afters parts gone rest = (gone, rest)

-- the first part is cut, and nothing is written after it
pub cut_first : (index written : ℕ) (before after : Option (List ℕ)) (part : List ℕ) (others : List (Option (List ℕ))) (parts : List (List ℕ))
    → index ≡ 0 → written < length part → Appends before after (take written part) → IsCutAt index written (before ∷ others) (after ∷ others) (part ∷ parts)
unfolding IsCutAt
cut_first index written before after part others parts first fewer gone =
    subst (λ (n : ℕ). IsCutAt n written (before ∷ others) (after ∷ others) (part ∷ parts)) (sym first) (fewer, (gone, all_stay others))

-- the first part is whole, and one of the others is cut
pub cut_later : (index next written : ℕ) (before after : Option (List ℕ)) (part : List ℕ) (befores afters : List (Option (List ℕ))) (parts : List (List ℕ))
    → next ≡ index + 1 → Appends before after part → IsCutAt index written befores afters parts → IsCutAt next written (before ∷ befores) (after ∷ afters) (part ∷ parts)
unfolding IsCutAt
cut_later index next written before after part befores afters parts later gone cut =
    let after_one : next ≡ suc index = omega (arith, later) in
    subst (λ (n : ℕ). IsCutAt n written (before ∷ befores) (after ∷ afters) (part ∷ parts)) (sym after_one) (gone, cut)

-- no layer is left, and the report is written or cut
pub handed_last : {V F : Type 0} (view : F → Option (List ℕ)) (bytes : V → List ℕ) (layers : List V) (files news : List F) (old new : Option (List ℕ)) (report : List ℕ) (result : Result (Unit {0}) OutFault)
    → length layers ≡ 0 → length files ≡ length layers → news ≡ files
    → MatchResult result (λ _. Appends old new report) (λ fault. (fault.part ≡ 0) × ((fault.written < length report) × Appends old new (take fault.written report)))
    → MatchResult result (λ _. AreWhole (map view files ++ old ∷ []) (map view news ++ new ∷ []) (map bytes layers ++ report ∷ []))
    (λ fault. IsCutAt fault.part fault.written (map view files ++ old ∷ []) (map view news ++ new ∷ []) (map bytes layers ++ report ∷ []))
handed_last view bytes layers files news old new report result none each same gone =
    let no_layers : layers ≡ [] = nil_from_length layers none in
    let no_files : files ≡ [] = nil_from_length files (each ∙ none) in
    let no_news : news ≡ [] = same ∙ no_files in
    rw (no_layers, no_files, no_news) (by result gone)
  where
    by : (result : Result (Unit {0}) OutFault) → MatchResult result (λ _. Appends old new report) (λ fault. (fault.part ≡ 0) × ((fault.written < length report) × Appends old new (take fault.written report)))
        → MatchResult result (λ _. AreWhole (old ∷ []) (new ∷ []) (report ∷ [])) (λ fault. IsCutAt fault.part fault.written (old ∷ []) (new ∷ []) (report ∷ []))
    by (Ok done) gone = whole_last old new report gone
    by (Err fault) gone = cut_first fault.part fault.written old new report [] [] gone.0 gone.1.0 gone.1.1

-- ---- the last part

kept_last : (befores afters : List (Option (List ℕ))) (before after : Option (List ℕ)) → length befores ≡ length afters
    → AreKept (befores ++ before ∷ []) (afters ++ after ∷ []) → Keeps before after
unfolding AreKept
kept_last [] [] before after same kept = kept.0
kept_last (x ∷ befores) (y ∷ afters) before after same kept = kept_last befores afters before after (omega (arith, same)) kept.1
kept_last [] (y ∷ afters) before after same kept = absurd (omega (arith, same))
kept_last (x ∷ befores) [] before after same kept = absurd (omega (arith, same))

-- where all parts are whole the last one is
pub whole_at_last : (befores afters : List (Option (List ℕ))) (parts : List (List ℕ)) (before after : Option (List ℕ)) (part : List ℕ)
    → length befores ≡ length parts → length afters ≡ length parts
    → AreWhole (befores ++ before ∷ []) (afters ++ after ∷ []) (parts ++ part ∷ []) → Appends before after part
unfolding AreWhole
whole_at_last [] [] [] before after part old new whole = whole.0
whole_at_last (x ∷ befores) (y ∷ afters) (z ∷ parts) before after part old new whole =
    whole_at_last befores afters parts before after part (omega (arith, old)) (omega (arith, new)) whole.1
whole_at_last (x ∷ befores) afters [] before after part old new whole = absurd (omega (arith, old))
whole_at_last [] (y ∷ afters) [] before after part old new whole = absurd (omega (arith, new))
whole_at_last [] afters (z ∷ parts) before after part old new whole = absurd (omega (arith, old))
whole_at_last (x ∷ befores) [] (z ∷ parts) before after part old new whole = absurd (omega (arith, new))

-- where a part is cut it is the last one, or nothing of the last one is written
abbrev IsCutBy : ℕ → ℕ → List (List ℕ) → Option (List ℕ) → Option (List ℕ) → List ℕ → Type 0
IsCutBy index written parts before after part =
    ((index ≡ length parts) × ((written < length part) × Appends before after (take written part)))
    ⊎ ((index < length parts) × Keeps before after)

pub cut_by : (index written : ℕ) (befores afters : List (Option (List ℕ))) (parts : List (List ℕ)) (before after : Option (List ℕ)) (part : List ℕ)
    → length befores ≡ length parts → length afters ≡ length parts
    → IsCutAt index written (befores ++ before ∷ []) (afters ++ after ∷ []) (parts ++ part ∷ []) → IsCutBy index written parts before after part
unfolding IsCutAt
cut_by zero written [] [] [] before after part old new cut = inl (refl, (cut.0, cut.1.0))
cut_by (suc zero) written [] [] [] before after part old new cut = elim cut.1 [ ]
cut_by (suc (suc index)) written [] [] [] before after part old new cut = elim cut.1 [ ]
cut_by zero written (x ∷ befores) (y ∷ afters) (z ∷ parts) before after part old new cut =
    inr (omega arith, kept_last befores afters before after (omega (arith, old, new)) cut.1.1)
cut_by (suc index) written (x ∷ befores) (y ∷ afters) (z ∷ parts) before after part old new cut =
    further (cut_by index written befores afters parts before after part (omega (arith, old)) (omega (arith, new)) cut.1)
  where
    further : IsCutBy index written parts before after part → IsCutBy (suc index) written (z ∷ parts) before after part
    further (inl last) = inl (omega (arith, last.0), last.1)
    further (inr kept) = inr (omega (arith, kept.0), kept.1)
cut_by index written (x ∷ befores) afters [] before after part old new cut = absurd (omega (arith, old))
cut_by index written [] (y ∷ afters) [] before after part old new cut = absurd (omega (arith, new))
cut_by index written [] afters (z ∷ parts) before after part old new cut = absurd (omega (arith, old))
cut_by index written (x ∷ befores) [] (z ∷ parts) before after part old new cut = absurd (omega (arith, new))
