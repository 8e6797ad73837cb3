-- Elements whose names ascend: those of one first byte are a range, in which a name is sought.
use Rattle.std.proofs.Common.{◌≡◌, ℕ, suc, ◌+◌, ◌-◌, ◌≤◌, ◌<◌, inl, inr, Bool, true, false, cond, Option, Some, None, Ok, Err, List, [], ◌∷◌, length, get_or, take, drop, filter, refl, sym, ap, ◌∙◌, subst, arith, add-one, length-drop, length-take-le}
use Rattle.std.specs.Prelude.{AllPairs, slice_get, slice_index}
use Rattle.std.specs.List.{find, AllAdjacentBelow}
use Rattle.std.specs.List.Sorted.{IsBinarySearchResult, IsNonDecreasingBy}
use Rattle.std.specs.Ordering.{nat_cmp, is_eq, is_lt, ordering_index, ordering_reverse, ordering_then, MatchOrdering}
use Rattle.std.specs.Str.{bytes_eq}
use Rattle.std.specs.Cmp.Lexicographic.{nat_list_cmp_total, bytes_decides}
use Rattle.std.specs.declared.cmp.Ordering.{Ordering}
use Rattle.std.specs.declared.cmp.Ordering.TheVariants.{Less, Equal, Greater}
use Rattle.std.proofs.lemmas.Bool.{cases_lt, ltb-true, ltb-false, false_from_ne_true}
use Rattle.std.proofs.lemmas.Cmp.{ranked, tied_itself}
use Rattle.std.proofs.lemmas.List.{get_or-drop, get_or-take}
use Rattle.std.proofs.lemmas.List.Sorted.{searchable_from_sorted}
use Rattle.std.proofs.lemmas.Map.Text.{is_eq-slice_cmp}
use Rattle.ovl_names.proofs.Ascending.{ascends-next, is_lt-Less}
use Rattle.ovl_board.proofs.LawsOfMembers.{In, Every, Rises, AllPairs-Rises, Rises-from_adjacent, get_or-In, place}
use Rattle.ovl_blobs.specs.Blobs.{digest_cmp}
use Rattle.ovl_blobs.specs.ByDigest.{by_name, names_ascend, element_named, IsStart}
use Rattle.ovl_blobs.proofs.Ascent.{Rises-ascends, ascends-Rises, less_never}
use Rattle.ovl_blobs.proofs.ListFacts.{filter-after, filter-before, find-filter}

-- names of different order are different
differ : (a b : List ℕ) (o : Ordering) → digest_cmp a b ≡ o → (o ≡ Equal → ⊥) → bytes_eq a b ≡ false
differ a b o is other = by (bytes_eq a b) refl
  where
    by : (v : Bool) → bytes_eq a b ≡ v → v ≡ false
    by true e = absurd (other (sym is ∙ (ap (digest_cmp a) (sym ((bytes_decides a b).0 e)) ∙ tied_itself nat_list_cmp_total a)))
    by false e = refl

-- the first byte of a name is at most that of a later one
less-first : (one other : List ℕ) → digest_cmp one other ≡ Less → slice_index one 0 ≤ slice_index other 0
less-first [] other less = omega arith
less-first (x ∷ one) [] less = absurd (cc)
less-first (x ∷ one) (y ∷ other) less = by (nat_cmp x y) (ranked x y (nat_cmp x y) refl) less
  where
    by : (order : Ordering) → MatchOrdering order (x < y) (x ≡ y) (y < x) → ordering_then order (digest_cmp one other) ≡ Less → x ≤ y
    by Less below h = omega (arith, below)
    by Equal same h = omega (arith, same)
    by Greater above h = absurd (cc)

-- what is between two places of a list
abbrev pub part : {X : Type 0} → List X → ℕ → ℕ → List X
part xs start end = take (end - start) (drop start xs)

module _ {X : Type 0} (name : X → List ℕ) where
  -- ---- order

  abbrev pub NameBefore : X → X → Type 0
  NameBefore one other = by_name name one other ≡ Less

  pub in_order : (xs : List X) → AllAdjacentBelow NameBefore xs (length xs) → names_ascend name xs ≡ true
  in_order xs adjacent = ascends-Rises (by_name name) xs (Rises-from_adjacent NameBefore (λ x y z. nat_list_cmp_total.trans (name x) (name y) (name z)) xs adjacent)

  pub in_order-pairs : (xs : List X) → names_ascend name xs ≡ true → AllPairs NameBefore xs
  in_order-pairs xs up = AllPairs-Rises NameBefore xs (Rises-ascends (by_name name) xs up)

  pub firsts-rise : (xs : List X) → names_ascend name xs ≡ true → IsNonDecreasingBy (λ x. slice_index (name x) 0) xs
  firsts-rise xs up i j d upto inside = elim (cases_lt i j) [
    | inl lt ↦ less-first (name (get_or xs i d)) (name (get_or xs j d)) (in_order-pairs xs up i j d lt inside)
    | inr ge ↦ (let same : i ≡ j = omega arith in subst (λ (k : ℕ). slice_index (name (get_or xs i d)) 0 ≤ slice_index (name (get_or xs k d)) 0) same (omega arith))
  ]

  -- ---- the element of a name

  pub find-In : (xs : List X) (own : List ℕ) (x : X) → Rises NameBefore xs → In x xs → name x ≡ own → element_named name xs own ≡ Some x
  find-In [] own x up h is = absurd h
  find-In (first ∷ xs) own x up (inl e) is =
      ap (λ b. cond b (Some first) (element_named name xs own)) ((bytes_decides (name first) own).1 (ap name (sym e) ∙ is)) ∙ ap Some (sym e)
  find-In (first ∷ xs) own x up (inr h) is = by (find-In xs own x up.1 h is) (bytes_eq (name first) own) refl
    where
      by : element_named name xs own ≡ Some x → (b : Bool) → bytes_eq (name first) own ≡ b → cond b (Some first) (element_named name xs own) ≡ Some x
      by later true e =
          let same : name first ≡ name x = (bytes_decides (name first) own).0 e ∙ sym is in
          absurd (less_never nat_list_cmp_total (name x) (subst (λ n. digest_cmp n (name x) ≡ Less) same (up.0 x h)))
      by later false e = later

  pub find-there : (xs : List X) (own : List ℕ) (x : X) → element_named name xs own ≡ Some x → In x xs
  find-there [] own x is = let bad : None ≡ Some x = is in cc
  find-there (first ∷ xs) own x is = by (find-there xs own x) (bytes_eq (name first) own) is
    where
      by : (element_named name xs own ≡ Some x → In x xs) → (b : Bool) → cond b (Some first) (element_named name xs own) ≡ Some x → In x (first ∷ xs)
      by later true is = inl (sym (ap (λ (o : Option X). elim o as (λ _. X) [ Some y ↦ y | None ↦ first ]) is))
      by later false is = inr (later is)

  find-none : (xs : List X) (own : List ℕ) → Every (λ x. bytes_eq (name x) own ≡ false) xs → element_named name xs own ≡ None
  find-none [] own each = refl
  find-none (first ∷ xs) own each =
      ap (λ b. cond b (Some first) (element_named name xs own)) (each first (inl refl)) ∙ find-none xs own (λ x h. each x (inr h))

  -- ---- what a search by name found

  searchable : (xs : List X) (own : List ℕ) → names_ascend name xs ≡ true → IsNonDecreasingBy (λ x. ordering_index (digest_cmp (name x) own)) xs
  searchable xs own up = searchable_from_sorted nat_list_cmp_total name xs own (λ k d low inside.
      rw add-one (ap is_lt (nat_list_cmp_total.antisymm (name (get_or xs (suc k) d)) (name (get_or xs k d)) ∙ ap ordering_reverse (is_lt-Less (by_name name (get_or xs k d) (get_or xs (suc k) d)) (ascends-next (by_name name) xs k d up (omega arith))))))

  pub named-there : (xs : List X) (spot : ℕ) (own : List ℕ) (d : X) → IsBinarySearchResult (λ x. digest_cmp (name x) own) xs (Ok spot) → name (get_or xs spot d) ≡ own
  named-there xs spot own d answer = (bytes_decides (name (get_or xs spot d)) own).0 (sym (is_eq-slice_cmp (name (get_or xs spot d)) own) ∙ ap is_eq (answer d))

  pub named-nowhere : (xs : List X) (spot : ℕ) (own : List ℕ) → names_ascend name xs ≡ true → IsBinarySearchResult (λ x. digest_cmp (name x) own) xs (Err spot) → Every (λ x. bytes_eq (name x) own ≡ false) xs
  named-nowhere xs spot own up answer x h =
      let parts = answer (searchable xs own up) in
      let at = place x xs h in
      subst (λ (y : X). bytes_eq (name y) own ≡ false) (at.2 x)
      (elim (cases_lt at.0 spot) [
        | inr after ↦ differ (name (get_or xs at.0 x)) own Greater (parts.1 at.0 x after at.1) (λ e. cc)
        | inl before ↦ differ (name (get_or xs at.0 x)) own Less (parts.0 at.0 x (omega (arith, at.1)) before) (λ e. cc)
      ])

  pub found : (xs : List X) (spot : ℕ) (own : List ℕ) (x : X) → names_ascend name xs ≡ true → spot < length xs → IsBinarySearchResult (λ x. digest_cmp (name x) own) xs (Ok spot) → x ≡ get_or xs spot x → Some x ≡ element_named name xs own
  found xs spot own x up inside answer is =
      sym (find-In xs own x (Rises-ascends (by_name name) xs up) (subst (λ (y : X). In y xs) (sym is) (get_or-In xs spot x inside)) (ap name is ∙ named-there xs spot own x answer))

  pub missing : (xs : List X) (spot : ℕ) (own : List ℕ) → names_ascend name xs ≡ true → IsBinarySearchResult (λ x. digest_cmp (name x) own) xs (Err spot) → None ≡ element_named name xs own
  missing xs spot own up answer = sym (find-none xs own (named-nowhere xs spot own up answer))

  -- ---- the part of one first byte

  module _ (xs : List X) (byte start end : ℕ) (low : IsStart name xs byte start) (high : IsStart name xs (byte + 1) end) where
    crossed : X → end < start → ⊥
    crossed x before =
        let under = ltb-true (slice_index (name (get_or xs end x)) 0) byte (low.1.0 end x (omega arith) before) in
        let over = ltb-false (slice_index (name (get_or xs end x)) 0) (byte + 1) (high.1.1 end x (omega arith) (omega (arith, before, low.0))) in
        omega (arith, under, over)

    in_turn : (ys : List X) → ys ≡ xs → start ≤ end
    in_turn [] same = omega (arith, low.0, ap length same)
    in_turn (x ∷ ys) same = elim (cases_lt end start) [
      | inl before ↦ absurd (crossed x before)
      | inr after ↦ after
    ]

    pub part-bounds : (start ≤ end) × (end ≤ length xs)
    part-bounds = (in_turn xs refl, high.0)

    -- what passes a test that elements of other first bytes fail
    module _ (test : X → Bool) (own : (k : ℕ) (d : X) → k < length xs → (slice_index (name (get_or xs k d)) 0 ≡ byte → ⊥) → test (get_or xs k d) ≡ false) where
      pub part-filter : filter test (part xs start end) ≡ filter test xs
      part-filter =
          let bounds = part-bounds in
          filter-before test (drop start xs) (end - start) (λ k d late inside.
          let there : start + k < length xs = omega (arith, inside, length-drop start xs) in
          let over = ltb-false (slice_index (name (get_or xs (start + k) d)) 0) (byte + 1) (high.1.1 (start + k) d (omega (arith, late)) there) in
          ap test (get_or-drop start xs k d)
          ∙ own (start + k) d there (λ same. omega (arith, over, same)))
          ∙ filter-after test xs start (λ k d early inside.
          let under = ltb-true (slice_index (name (get_or xs k d)) 0) byte (low.1.0 k d (omega arith) early) in
          own k d inside (λ same. omega (arith, under, same)))

      part-find : find test (part xs start end) ≡ find test xs
      part-find = find-filter test (part xs start end) ∙ (ap (λ (ys : List X). slice_get ys 0) part-filter ∙ sym (find-filter test xs))

    -- a name is found there, if it is found at all
    pub part-named : (own : List ℕ) → byte ≡ slice_index own 0 → element_named name (part xs start end) own ≡ element_named name xs own
    part-named own is = part-find (λ x. bytes_eq (name x) own) (λ k d inside differs.
        let x = get_or xs k d in
        false_from_ne_true (bytes_eq (name x) own) (λ t. differs (ap (λ (n : List ℕ). slice_index n 0) ((bytes_decides (name x) own).0 t) ∙ sym is)))

    -- its names ascend too
    pub part-ascends : names_ascend name xs ≡ true → names_ascend name (part xs start end) ≡ true
    part-ascends up = in_order (part xs start end) (λ k d inside.
        let bounds = part-bounds in
        let long : length (part xs start end) ≡ end - start = length-take-le (end - start) (drop start xs) (omega (arith, bounds.0, bounds.1, length-drop start xs)) in
        let at : get_or (part xs start end) k d ≡ get_or xs (start + k) d = get_or-take (end - start) (drop start xs) k d (omega (arith, inside, long)) ∙ get_or-drop start xs k d in
        let next : get_or (part xs start end) (k + 1) d ≡ get_or xs (start + (k + 1)) d = get_or-take (end - start) (drop start xs) (k + 1) d (omega (arith, inside, long)) ∙ get_or-drop start xs (k + 1) d in
        subst (λ x. NameBefore x (get_or (part xs start end) (k + 1) d)) (sym at)
        (subst (λ y. NameBefore (get_or xs (start + k) d) y) (sym next)
        (in_order-pairs xs up (start + k) (start + (k + 1)) d (omega arith) (omega (arith, inside, long, bounds.0, bounds.1)))))

    -- what a search in it finds, and what it doesn't find
    module _ (up : names_ascend name xs ≡ true) (own : List ℕ) (is : byte ≡ slice_index own 0) (spot : ℕ) where
      pub part-found : (x : X) → spot < length (part xs start end) → IsBinarySearchResult (λ x. digest_cmp (name x) own) (part xs start end) (Ok spot) → x ≡ get_or (part xs start end) spot x → Some x ≡ element_named name xs own
      part-found x inside answer same = found (part xs start end) spot own x (part-ascends up) inside answer same ∙ part-named own is

      pub part-missing : IsBinarySearchResult (λ x. digest_cmp (name x) own) (part xs start end) (Err spot) → None ≡ element_named name xs own
      part-missing answer = missing (part xs start end) spot own (part-ascends up) answer ∙ part-named own is
