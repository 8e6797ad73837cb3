-- The last element of a list that passes a test, and what it has.
use Rattle.std.proofs.Common.{◌≡◌, ◌∙◌, Bool, true, false, cond, Option, Some, None, List, [], ◌∷◌, ◌++◌, All, inl, inr, refl, ap, reverse}
use Rattle.std.specs.Prelude.{IsSome}
use Rattle.std.specs.List.{find}
use Rattle.std.specs.Option.{option_map, option_or}
use Rattle.std.proofs.lemmas.List.{reverse-append}
use Rattle.std.proofs.lemmas.List.Folds.{find-append}
use Rattle.std.proofs.lemmas.List.Sorted.{All-permutation, IsPermutation-reverse}
use Rattle.ovl_board.proofs.LawsOfMembers.{Every, Every-All}

module _ {X Y : Type 0} (test : X → Bool) (has : X → Y) where
  abbrev pub last_has : List X → Option Y
  last_has xs = option_map has (find test (reverse xs))

  has-or : (one other : Option X) → option_map has (option_or one other) ≡ option_or (option_map has one) (option_map has other)
  has-or None other = refl
  has-or (Some x) other = refl

  -- of a list after another
  pub last-across : (xs ys : List X) → last_has (xs ++ ys) ≡ option_or (last_has ys) (last_has xs)
  last-across xs ys =
      ap (λ zs. option_map has (find test zs)) (reverse-append xs ys)
      ∙ (ap (option_map has) (find-append test (reverse ys) (reverse xs)) ∙ has-or (find test (reverse ys)) (find test (reverse xs)))

  -- of one more
  pub last-more : (xs : List X) (x : X) → last_has (xs ++ x ∷ []) ≡ cond (test x) (Some (has x)) (last_has xs)
  last-more xs x = last-across xs (x ∷ []) ∙ by (test x)
    where
      by : (b : Bool) → option_or (option_map has (cond b (Some x) None)) (last_has xs) ≡ cond b (Some (has x)) (last_has xs)
      by true = refl
      by false = refl

  of_found : (P : Type 0) (xs : List X) → Every (λ x. test x ≡ true → P) xs → IsSome (option_map has (find test xs)) → P
  of_found P [] each found = cc
  of_found P (x ∷ xs) each found = by (test x) refl found (of_found P xs (λ y h. each y (inr h)))
    where
      by : (b : Bool) → test x ≡ b → IsSome (option_map has (cond b (Some x) (find test xs))) → (IsSome (option_map has (find test xs)) → P) → P
      by true passes found rest = each x (inl refl) passes
      by false fails found rest = rest found

  -- where one is there, what each that passes says holds
  pub of_last : (P : Type 0) (xs : List X) → All (λ x. test x ≡ true → P) xs → IsSome (last_has xs) → P
  of_last P xs each found =
      of_found P (reverse xs) (Every-All (λ x. test x ≡ true → P) (reverse xs) (All-permutation (λ x. test x ≡ true → P) xs (reverse xs) (IsPermutation-reverse xs) each)) found
