-- Digits, seen through the mask of the lanes that hold one.
use Rattle.std.proofs.Common.{◌≡◌, ◌∙◌, ℕ, ◌+◌, ◌*◌, ◌%◌, ◌^◌, Bool, true, false, cond, eqb, leb, List, [], ◌∷◌, map, length, drop, replicate, refl, sym, ap, ap₂, arith, eq-eqb}
use Rattle.std.specs.Prelude.{◌&&◌, ◌||◌}
use Rattle.std.specs.List.{list_all}
use Rattle.std.proofs.lemmas.Bool.{ne_eqb}
use Rattle.std.proofs.lemmas.List.{length-map}
use Rattle.std.proofs.lemmas.List.Folds.{list_all-append}
use Rattle.std.proofs.lemmas.Simd.{zip2_splat, zip2_splat_left, zip2_of_maps, mask_l-mod, chunk-drop}
use native.Mathlib.Nat.{two-pow-succ}
use lib.Bits.{bit_or, bit_and}
use lib.Lanes.{chunk, mask_l, top, zip2}
use Rattle.ovl_inode.specs.Hexadecimal.{is_lower_digit}

abbrev pub at_most : ℕ → ℕ → ℕ
at_most a b = cond (leb a b) 255 0

abbrev in_lane : ℕ → ℕ
in_lane x = bit_or (bit_and (at_most 48 x) (at_most x 57)) (bit_and (at_most 97 x) (at_most x 102))

digit-top : (x : ℕ) → top 7 (in_lane x) ≡ is_lower_digit x
digit-top x = by (leb 48 x) (leb x 57) (leb 97 x) (leb x 102)
  where
    by : (a b c d : Bool) → top 7 (bit_or (bit_and (cond a 255 0) (cond b 255 0)) (bit_and (cond c 255 0) (cond d 255 0))) ≡ ((a && b) || (c && d))
    by true true true true = refl
    by true true true false = refl
    by true true false true = refl
    by true true false false = refl
    by true false true true = refl
    by true false true false = refl
    by true false false true = refl
    by true false false false = refl
    by false true true true = refl
    by false true true false = refl
    by false true false true = refl
    by false true false false = refl
    by false false true true = refl
    by false false true false = refl
    by false false false true = refl
    by false false false false = refl

digit-tops : (v : List ℕ) → map (top 7) (map in_lane v) ≡ map is_lower_digit v
digit-tops [] = refl
digit-tops (x ∷ xs) = ap₂ (λ (a : Bool) (b : List Bool). a ∷ b) (digit-top x) (digit-tops xs)

-- the mask of the lanes that hold a digit
pub digits-mask : (v : List ℕ) → length v ≡ 16
    → mask_l (map (top 7) (zip2 bit_or (zip2 bit_and (zip2 at_most (replicate 16 48) v) (zip2 at_most v (replicate 16 57))) (zip2 bit_and (zip2 at_most (replicate 16 97) v) (zip2 at_most v (replicate 16 102))))) % 2 ^ 64
    ≡ mask_l (map is_lower_digit v)
digits-mask v long =
    let numbers = zip2_of_maps bit_and (λ x. at_most 48 x) (λ x. at_most x 57) v (zip2_splat_left at_most 48 16 v long) (zip2_splat at_most v 16 57 long) in
    let letters = zip2_of_maps bit_and (λ x. at_most 97 x) (λ x. at_most x 102) v (zip2_splat_left at_most 97 16 v long) (zip2_splat at_most v 16 102 long) in
    let all = zip2_of_maps bit_or (λ x. bit_and (at_most 48 x) (at_most x 57)) (λ x. bit_and (at_most 97 x) (at_most x 102)) v numbers letters in
    ap (λ (l : List Bool). mask_l l % 2 ^ 64) (ap (map (top 7)) all ∙ digit-tops v) ∙ mask_l-mod (map is_lower_digit v) 64 (omega (arith, length-map v is_lower_digit))

full : (test : ℕ → Bool) (xs : List ℕ) → list_all test xs ≡ true → 1 + mask_l (map test xs) ≡ 2 ^ length xs
full test [] e = refl
full test (x ∷ xs) e = by (test x) (list_all test xs) (mask_l (map test xs)) (full test xs) e ∙ sym (two-pow-succ (length xs))
  where
    by : (b r : Bool) (m : ℕ) → (r ≡ true → 1 + m ≡ 2 ^ length xs) → (b && r) ≡ true → 1 + (cond b 1 0 + 2 * m) ≡ 2 ^ length xs + 2 ^ length xs
    by true r m rest e = omega (arith, rest e)
    by false r m rest e = let bad : false ≡ true = e in cc

not_full : (test : ℕ → Bool) (xs : List ℕ) → list_all test xs ≡ false → 1 + mask_l (map test xs) ≡ 2 ^ length xs → ⊥
not_full test [] e same = let bad : true ≡ false = e in cc
not_full test (x ∷ xs) e same = by (test x) (list_all test xs) (mask_l (map test xs)) (not_full test xs) e (same ∙ two-pow-succ (length xs))
  where
    by : (b r : Bool) (m : ℕ) → (r ≡ false → 1 + m ≡ 2 ^ length xs → ⊥) → (b && r) ≡ false → 1 + (cond b 1 0 + 2 * m) ≡ 2 ^ length xs + 2 ^ length xs → ⊥
    by true r m rest e same = rest e (omega (arith, same))
    by false r m rest e same = omega (arith, same)

-- sixteen digits fill the mask
pub block-full : (v : List ℕ) (mask : ℕ) → length v ≡ 16 → mask ≡ mask_l (map is_lower_digit v) → eqb mask 65535 ≡ list_all is_lower_digit v
block-full v mask long is = by (list_all is_lower_digit v) refl
  where
    long_power : 2 ^ length v ≡ 65536
    long_power = ap (λ (n : ℕ). 2 ^ n) long

    by : (b : Bool) → list_all is_lower_digit v ≡ b → eqb mask 65535 ≡ b
    by true e = eq-eqb mask 65535 (omega (arith, is, full is_lower_digit v e, long_power))
    by false e = ne_eqb mask 65535 (λ (same : mask ≡ 65535). not_full is_lower_digit v e (omega (arith, is, same, long_power)))

-- a block more
pub block-more : (text : List ℕ) (are block : Bool) (i : ℕ) → block ≡ list_all is_lower_digit (chunk i 16 text)
    → list_all is_lower_digit text ≡ (are && list_all is_lower_digit (drop i text)) → list_all is_lower_digit text ≡ ((block && are) && list_all is_lower_digit (drop (i + 16) text))
block-more text are block i is before =
    before
    ∙ (ap (λ (l : List ℕ). are && list_all is_lower_digit l) (chunk-drop i 16 text)
    ∙ (ap (λ (b : Bool). are && b) (list_all-append is_lower_digit (chunk i 16 text) (drop (i + 16) text) ∙ ap (λ (b : Bool). b && list_all is_lower_digit (drop (i + 16) text)) (sym is))
    ∙ by are block (list_all is_lower_digit (drop (i + 16) text))))
  where
    by : (a b c : Bool) → (a && (b && c)) ≡ ((b && a) && c)
    by true true c = refl
    by true false c = refl
    by false true c = refl
    by false false c = refl

pub and-turned : (a b : Bool) → (a && b) ≡ (b && a)
and-turned true true = refl
and-turned true false = refl
and-turned false true = refl
and-turned false false = refl
