-- What isn't a directory in a directory, listed entry by entry.
use Rattle.std.proofs.Common.{◌≡◌, ℕ, ◌+◌, ◌-◌, ◌<◌, ◌≤◌, Bool, false, true, cond, List, [], ◌∷◌, ◌++◌, length, drop, refl, sym, ap, ◌∙◌, arith, append-nil, append_assoc, length-append}
use Rattle.std.specs.List.{flat_map}
use Rattle.std.proofs.lemmas.List.{drop-append-le, drop_all}
use Rattle.std.proofs.lemmas.List.Concat.{flat_map-append}
use Rattle.std.proofs.lemmas.List.Elements.{All-push}
use Rattle.ovl_lookup.specs.Merged.{is_shown_directory}
use Rattle.ovl_reports.specs.Directories.{NamedLook}
use Rattle.ovl_reports.specs.Listings.{TellsLeaves, name_line}

abbrev IsLeaf : NamedLook → Type 0
IsLeaf entry = is_shown_directory entry.1 ≡ false

module _ (first : ℕ) (above : List ℕ) (entries : List NamedLook) (told : ℕ) (lines : List ℕ) where
  abbrev line : NamedLook → List ℕ
  line entry = name_line above entry

  pub leaves-more : (left : List NamedLook) (number : ℕ) (longer : List ℕ) → TellsLeaves first above entries left told number lines longer
      → (entry : NamedLook) (others : List NamedLook) → left ≡ entry ∷ others → is_shown_directory entry.1 ≡ false
      → (wanted : Bool) → (wanted ≡ true → first ≤ number) → (wanted ≡ false → number < first)
      → (longest : List ℕ) → longest ≡ longer ++ cond wanted (name_line above entry) []
      → TellsLeaves first above entries others told (number + 1) lines longest
  leaves-more left number longer h entry others some leaf wanted is_wanted unwanted longest more = record {
    leaves = h.leaves ++ entry ∷ [];
    all = h.all ∙ (ap (λ l. h.leaves ++ l) some ∙ sym (append_assoc h.leaves (entry ∷ []) others));
    are = All-push IsLeaf h.leaves entry h.are leaf;
    counted = omega (arith, h.counted, length-append h.leaves (entry ∷ []));
    written = by wanted refl;
  }
    where
      by : (b : Bool) → wanted ≡ b → longest ≡ lines ++ flat_map line (drop (first - told) (h.leaves ++ entry ∷ []))
      by true e =
          let begun : first - told ≤ length h.leaves = omega (arith, is_wanted e, h.counted) in
          let before = flat_map line (drop (first - told) h.leaves) in
          more
          ∙ ((λ j. h.written j ++ cond (e j) (line entry) [])
          ∙ (append_assoc lines before (line entry)
          ∙ (ap (λ l. lines ++ (before ++ l)) (sym (append-nil (line entry)))
          ∙ (ap (λ l. lines ++ l) (sym (flat_map-append line (drop (first - told) h.leaves) (entry ∷ [])))
          ∙ ap (λ l. lines ++ flat_map line l) (sym (drop-append-le (first - told) h.leaves (entry ∷ []) begun))))))
      by false e =
          let none : drop (first - told) h.leaves ≡ [] = drop_all (first - told) h.leaves (omega (arith, unwanted e, h.counted)) in
          let still : drop (first - told) (h.leaves ++ entry ∷ []) ≡ [] = drop_all (first - told) (h.leaves ++ entry ∷ []) (omega (arith, unwanted e, h.counted, length-append h.leaves (entry ∷ []))) in
          more
          ∙ ((λ j. longer ++ cond (e j) (line entry) [])
          ∙ (append-nil longer
          ∙ (h.written
          ∙ (ap (λ l. lines ++ flat_map line l) none ∙ sym (ap (λ l. lines ++ flat_map line l) still)))))
