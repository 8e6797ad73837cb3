-- What lanes make of digits is what the digits spell.
use Rattle.std.proofs.Common.{◌≡◌, ◌∙◌, ℕ, zero, suc, ◌+◌, ◌-◌, ◌*◌, ◌%◌, ◌<◌, Bool, true, false, cond, leb, List, [], ◌∷◌, ◌++◌, map, length, replicate, Option, Some, None, Ok, refl, sym, ap, ap₂, subst, arith, append-nil, append_assoc, ltb-true, eqb-true}
use Rattle.std.specs.Prelude.{◌&&◌, ◌||◌, not, nat_lt, nat_eq}
use Rattle.std.specs.List.{list_all}
use Rattle.std.proofs.lemmas.Bool.Decides.{nat_tests}
use Rattle.std.proofs.lemmas.List.{length-append, drop_all}
use Rattle.std.proofs.lemmas.Simd.{zip2_splat, chunk-drop, length-chunk, pick_l_whole}
use lib.Lanes.{chunk, top, zip2, sel_l}
use Rattle.hex.specs.Hex.{decode_pairs, decode_sized, hex_digit_value, pair_value}
use Rattle.hex.proofs.Pairs.{cons_byte, decode_pairs-ok_pair, decode_sized-pairs}
use Rattle.ovl_names.proofs.Ascending.{both}
use Rattle.ovl_inode.specs.Hexadecimal.{is_lower_digit}
use Rattle.ovl_inode.specs.DigitLanes.{lane_value, pair_byte, spell, block_bytes}
use Rattle.ovl_inode.proofs.DigitLaneLemmas.{at_most}

abbrev less : ℕ → ℕ → ℕ
less a b = (a + (256 - b)) % 256

value-top : (b : Bool) (x y : ℕ) → cond (top 7 (cond b 255 0)) x y ≡ cond b x y
value-top true x y = refl
value-top false x y = refl

-- lanes picked where they are at most 57
picked : (v : List ℕ) → sel_l (map (top 7) (map (λ x. at_most x 57) v)) (map (λ x. less x 48) v) (map (λ x. less x 87) v) ≡ map lane_value v
picked [] = refl
picked (x ∷ xs) = ap₂ (λ (a : ℕ) (b : List ℕ). a ∷ b) (value-top (leb x 57) (less x 48) (less x 87)) (picked xs)

pub values-picked : (v : List ℕ) → length v ≡ 16
    → sel_l (map (top 7) (zip2 at_most v (replicate 16 57))) (zip2 less v (replicate 16 48)) (zip2 less v (replicate 16 87)) ≡ map lane_value v
values-picked v long =
    ap (λ (l : List ℕ). sel_l (map (top 7) l) (zip2 less v (replicate 16 48)) (zip2 less v (replicate 16 87))) (zip2_splat at_most v 16 57 long)
    ∙ (ap₂ (λ (a b : List ℕ). sel_l (map (top 7) (map (λ x. at_most x 57) v)) a b) (zip2_splat less v 16 48 long) (zip2_splat less v 16 87 long)
    ∙ picked v)

-- a test of all numbers below another
abbrev pub below : ℕ → (ℕ → Bool) → Bool
below zero test = true
below (suc n) test = test n && below n test

pub below-at : (n : ℕ) (test : ℕ → Bool) → below n test ≡ true → (k : ℕ) → k < n → test k ≡ true
below-at zero test all k inside = absurd (omega (arith, inside))
below-at (suc n) test all k inside = by (nat_eq k n) refl (below-at n test parts.1 k)
  where
    parts : (test n ≡ true) × (below n test ≡ true)
    parts = both {a = test n} {b = below n test} all

    by : (b : Bool) → nat_eq k n ≡ b → (k < n → test k ≡ true) → test k ≡ true
    by true e earlier = subst (λ m. test m ≡ true) (sym (eqb-true k n e)) parts.0
    by false e earlier = earlier (grind (arith, nat_tests))

abbrev is_value : ℕ → Option ℕ → Bool
is_value own None = false
is_value own (Some value) = nat_lt own 16 && nat_eq value own

digit-value : (c : ℕ) → is_lower_digit c ≡ true → (hex_digit_value c ≡ Some (lane_value c)) × (lane_value c < 16)
digit-value c lower = by (hex_digit_value c) refl told
  where
    small : c < 103
    small = grind (arith, nat_tests)

    test : (not (is_lower_digit c) || is_value (lane_value c) (hex_digit_value c)) ≡ true
    test = below-at 103 (λ d. not (is_lower_digit d) || is_value (lane_value d) (hex_digit_value d)) refl c small

    told : is_value (lane_value c) (hex_digit_value c) ≡ true
    told = rw lower at test

    by : (own : Option ℕ) → hex_digit_value c ≡ own → is_value (lane_value c) own ≡ true → (hex_digit_value c ≡ Some (lane_value c)) × (lane_value c < 16)
    by None e is = let bad : false ≡ true = is in cc
    by (Some value) e is =
        let parts = both {a = nat_lt (lane_value c) 16} {b = nat_eq value (lane_value c)} is in
        (e ∙ ap Some (eqb-true value (lane_value c) parts.1), ltb-true (lane_value c) 16 parts.0)

pair_value-digits : (high low i u v : ℕ) → hex_digit_value high ≡ Some u → hex_digit_value low ≡ Some v → pair_value high low i ≡ Ok (u * 16 + v)
pair_value-digits high low i u v h l = rw (h, l) refl

unwrapped : (u v : ℕ) → u < 16 → v < 16 → u * 16 + v ≡ ((u * 16) % 256 + v) % 256
unwrapped u v low high = omega (arith, low, high)

-- digits in pairs spell their bytes
decode-spell : (text : List ℕ) (i n : ℕ) → length text ≡ 2 * n → list_all is_lower_digit text ≡ true → decode_pairs i text ≡ Ok (spell text)
unfolding decode_pairs
decode-spell [] i n even lower = refl
decode-spell (a ∷ []) i n even lower = absurd (omega (arith, even))
decode-spell (a ∷ b ∷ rest) i n even lower =
    let one = both {a = is_lower_digit a} {b = list_all is_lower_digit (b ∷ rest)} lower in
    let two = both {a = is_lower_digit b} {b = list_all is_lower_digit rest} one.1 in
    let high = digit-value a one.0 in
    let low = digit-value b two.0 in
    let pair : pair_value a b i ≡ Ok (pair_byte a b) = pair_value-digits a b i (lane_value a) (lane_value b) high.0 low.0 ∙ ap Ok (unwrapped (lane_value a) (lane_value b) high.1 low.1) in
    decode_pairs-ok_pair i a b (pair_byte a b) rest pair ∙ ap (cons_byte (pair_byte a b)) (decode-spell rest (i + 2) (n - 1) (omega (arith, even)) two.1)

spell-append : (xs ys : List ℕ) (n : ℕ) → length xs ≡ 2 * n → spell (xs ++ ys) ≡ spell xs ++ spell ys
spell-append [] ys n even = refl
spell-append (a ∷ []) ys n even = absurd (omega (arith, even))
spell-append (a ∷ b ∷ rest) ys n even = ap (λ (l : List ℕ). pair_byte a b ∷ l) (spell-append rest ys (n - 1) (omega (arith, even)))

block-spell : (text : List ℕ) → length text ≡ 32 → block_bytes text ≡ spell text
block-spell text long = ap spell (pick_l_whole 0 text 32 long)

-- 64 digits are four blocks
four : (d : List ℕ) → length d ≡ 64 → d ≡ (chunk 0 16 d ++ chunk 16 16 d) ++ (chunk 32 16 d ++ chunk 48 16 d)
four d long =
    chunk-drop 0 16 d
    ∙ (ap (λ (l : List ℕ). chunk 0 16 d ++ l) (chunk-drop 16 16 d
    ∙ ap (λ (l : List ℕ). chunk 16 16 d ++ l) (chunk-drop 32 16 d
    ∙ ap (λ (l : List ℕ). chunk 32 16 d ++ l) (chunk-drop 48 16 d
    ∙ (ap (λ (l : List ℕ). chunk 48 16 d ++ l) (drop_all 64 d (omega (arith, long))) ∙ append-nil (chunk 48 16 d)))))
    ∙ sym (append_assoc (chunk 0 16 d) (chunk 16 16 d) (chunk 32 16 d ++ chunk 48 16 d)))

-- what two blocks make of 64 digits
pub decoded-blocks : (d : List ℕ) → length d ≡ 64 → list_all is_lower_digit d ≡ true
    → decode_sized d 32 ≡ Ok (block_bytes (chunk 0 16 d ++ chunk 16 16 d) ++ block_bytes (chunk 32 16 d ++ chunk 48 16 d))
decoded-blocks d long lower =
    let front = chunk 0 16 d ++ chunk 16 16 d in
    let back = chunk 32 16 d ++ chunk 48 16 d in
    let front_long : length front ≡ 32 = omega (arith, length-append (chunk 0 16 d) (chunk 16 16 d), length-chunk 0 16 d (omega (arith, long)), length-chunk 16 16 d (omega (arith, long))) in
    let back_long : length back ≡ 32 = omega (arith, length-append (chunk 32 16 d) (chunk 48 16 d), length-chunk 32 16 d (omega (arith, long)), length-chunk 48 16 d (omega (arith, long))) in
    decode_sized-pairs d 32 (omega (arith, long)) (omega (arith, long))
    ∙ (decode-spell d 0 32 (omega (arith, long)) lower
    ∙ ap Ok (ap spell (four d long) ∙ (spell-append front back 16 (omega (arith, front_long)) ∙ ap₂ (λ (a b : List ℕ). a ++ b) (sym (block-spell front front_long)) (sym (block-spell back back_long)))))
