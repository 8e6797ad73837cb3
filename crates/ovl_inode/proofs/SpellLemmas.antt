-- What lanes make of bytes is their digits.
use Rattle.std.proofs.Common.{◌≡◌, ◌∙◌, ℕ, zero, suc, ◌+◌, ◌%◌, ◌/◌, ◌^◌, ◌<◌, Bool, true, false, cond, leb, List, [], ◌∷◌, ◌++◌, map, length, replicate, slice_index, refl, sym, ap, ap₂, subst, arith, bit_and, eqb-true, ltb-true}
use Rattle.std.specs.Prelude.{◌&&◌, nat_eq, nat_lt}
use Rattle.std.specs.List.{range_with_len}
use Rattle.std.specs.Str.{IsUtf8}
use Rattle.std.specs.Simd.Lanes.{pick_l}
use Rattle.std.proofs.lemmas.Bool.Decides.{nat_tests}
use Rattle.std.proofs.lemmas.List.{get_or_past}
use Rattle.std.proofs.lemmas.Simd.{zip2_splat, pick_l_whole}
use Rattle.std.proofs.lemmas.Str.{IsUtf8-from_ascii}
use lib.Lanes.{top, zip2, sel_l}
use lib.ListN.{get_or}
use Rattle.hex.specs.Hex.{encode_lower, encode_with, lower_digits}
use Rattle.hex.proofs.HexLemmas.{IsAscii-encode_with}
use Rattle.ovl_names.proofs.Ascending.{both}
use Rattle.ovl_inode.specs.DigitLanes.{lane_digit}
use Rattle.ovl_inode.proofs.DigitLaneLemmas.{at_most}
use Rattle.ovl_inode.proofs.PairLemmas.{below-at}

abbrev sum_in_lane : ℕ → ℕ → ℕ
sum_in_lane a b = (a + b) % 256

digit-top : (b : Bool) (x : ℕ) → sum_in_lane x (cond (top 7 (cond b 255 0)) 48 87) ≡ (x + cond b 48 87) % 256
digit-top true x = refl
digit-top false x = refl

-- what is added to each lane, by the lanes that are at most 9
added : (v : List ℕ) (n : ℕ) → length v ≡ n
    → zip2 sum_in_lane v (sel_l (map (top 7) (map (λ x. at_most x 9) v)) (replicate n 48) (replicate n 87)) ≡ map lane_digit v
added [] n long = refl
added (x ∷ xs) zero long = absurd (omega (arith, long))
added (x ∷ xs) (suc n) long = ap₂ (λ (a : ℕ) (b : List ℕ). a ∷ b) (digit-top (leb x 9) x) (added xs n (omega (arith, long)))

pub digits-added : (v : List ℕ) → length v ≡ 32
    → zip2 sum_in_lane v (sel_l (map (top 7) (zip2 at_most v (replicate 32 9))) (replicate 32 48) (replicate 32 87)) ≡ map lane_digit v
digits-added v long =
    ap (λ (l : List ℕ). zip2 sum_in_lane v (sel_l (map (top 7) l) (replicate 32 48) (replicate 32 87))) (zip2_splat at_most v 32 9 long)
    ∙ added v 32 long

-- the digits of bytes, as lanes make them
abbrev spread : List ℕ → List ℕ
spread [] = []
spread (byte ∷ rest) = lane_digit (byte / 16) ∷ lane_digit (bit_and byte 15) ∷ spread rest

abbrev highs : List ℕ → List ℕ
highs bytes = map lane_digit (map (λ x. x / 16) bytes)

abbrev lows : List ℕ → List ℕ
lows bytes = map lane_digit (map (λ x. bit_and x 15) bytes)

abbrev paired : List ℕ
paired = 0 ∷ 32 ∷ 1 ∷ 33 ∷ 2 ∷ 34 ∷ 3 ∷ 35 ∷ 4 ∷ 36 ∷ 5 ∷ 37 ∷ 6 ∷ 38 ∷ 7 ∷ 39 ∷ 8 ∷ 40 ∷ 9 ∷ 41 ∷ 10 ∷ 42 ∷ 11 ∷ 43 ∷ 12 ∷ 44 ∷ 13 ∷ 45 ∷ 14 ∷ 46 ∷ 15 ∷ 47 ∷ 16 ∷ 48 ∷ 17 ∷ 49 ∷ 18 ∷ 50 ∷ 19 ∷ 51 ∷ 20 ∷ 52 ∷ 21 ∷ 53 ∷ 22 ∷ 54 ∷ 23 ∷ 55 ∷ 24 ∷ 56 ∷ 25 ∷ 57 ∷ 26 ∷ 58 ∷ 27 ∷ 59 ∷ 28 ∷ 60 ∷ 29 ∷ 61 ∷ 30 ∷ 62 ∷ 31 ∷ 63 ∷ []

-- 32 bytes, taken at their places
spread-places : (bytes : List ℕ) → pick_l 0 (highs (pick_l 0 bytes (range_with_len 0 32)) ++ lows (pick_l 0 bytes (range_with_len 0 32))) paired ≡ spread (pick_l 0 bytes (range_with_len 0 32))
spread-places bytes = refl

spread-picked : (bytes : List ℕ) → length bytes ≡ 32 → pick_l 0 (highs bytes ++ lows bytes) paired ≡ spread bytes
spread-picked bytes long = subst (λ (l : List ℕ). pick_l 0 (highs l ++ lows l) paired ≡ spread l) (pick_l_whole 0 bytes 32 long) (spread-places bytes)

-- both digits of a byte are those of the table
abbrev are_of_table : ℕ → Bool
are_of_table byte = nat_eq (lane_digit (byte / 16)) (slice_index lower_digits (byte / 16)) && nat_eq (lane_digit (bit_and byte 15)) (slice_index lower_digits (byte % 16))

spread-encoded : (bytes : List ℕ) → ((k : ℕ) → get_or bytes k 0 < 256) → spread bytes ≡ encode_lower bytes
unfolding encode_with
spread-encoded [] fits = refl
spread-encoded (byte ∷ rest) fits =
    let same = both {a = nat_eq (lane_digit (byte / 16)) (slice_index lower_digits (byte / 16))} {b = nat_eq (lane_digit (bit_and byte 15)) (slice_index lower_digits (byte % 16))} (below-at 256 are_of_table refl byte (fits 0)) in
    ap₂ (λ (a : ℕ) (l : List ℕ). a ∷ l) (eqb-true (lane_digit (byte / 16)) (slice_index lower_digits (byte / 16)) same.0)
    (ap₂ (λ (a : ℕ) (l : List ℕ). a ∷ l) (eqb-true (lane_digit (bit_and byte 15)) (slice_index lower_digits (byte % 16)) same.1) (spread-encoded rest (λ k. fits (suc k))))

pub digits-paired : (bytes high low : List ℕ) → length bytes ≡ 32 → ((k : ℕ) → get_or bytes k 0 < 256)
    → high ≡ map lane_digit (zip2 (λ x s. x / 2 ^ s) bytes (replicate 32 4)) → low ≡ map lane_digit (zip2 bit_and bytes (replicate 32 15))
    → pick_l 0 (high ++ low) (0 ∷ 32 ∷ 1 ∷ 33 ∷ 2 ∷ 34 ∷ 3 ∷ 35 ∷ 4 ∷ 36 ∷ 5 ∷ 37 ∷ 6 ∷ 38 ∷ 7 ∷ 39 ∷ 8 ∷ 40 ∷ 9 ∷ 41 ∷ 10 ∷ 42 ∷ 11 ∷ 43 ∷ 12 ∷ 44 ∷ 13 ∷ 45 ∷ 14 ∷ 46 ∷ 15 ∷ 47 ∷ 16 ∷ 48 ∷ 17 ∷ 49 ∷ 18 ∷ 50 ∷ 19 ∷ 51 ∷ 20 ∷ 52 ∷ 21 ∷ 53 ∷ 22 ∷ 54 ∷ 23 ∷ 55 ∷ 24 ∷ 56 ∷ 25 ∷ 57 ∷ 26 ∷ 58 ∷ 27 ∷ 59 ∷ 28 ∷ 60 ∷ 29 ∷ 61 ∷ 30 ∷ 62 ∷ 31 ∷ 63 ∷ []) ≡ encode_lower bytes
digits-paired bytes high low long fits is_high is_low =
    let upper : high ≡ highs bytes = is_high ∙ ap (map lane_digit) (zip2_splat (λ x s. x / 2 ^ s) bytes 32 4 long) in
    let lower : low ≡ lows bytes = is_low ∙ ap (map lane_digit) (zip2_splat bit_and bytes 32 15 long) in
    ap₂ (λ (a b : List ℕ). pick_l 0 (a ++ b) paired) upper lower ∙ (spread-picked bytes long ∙ spread-encoded bytes fits)

digit-ascii : (i : ℕ) → nat_lt (slice_index lower_digits i) 128 ≡ true
digit-ascii i = by (nat_lt i 16) refl
  where
    by : (b : Bool) → nat_lt i 16 ≡ b → nat_lt (slice_index lower_digits i) 128 ≡ true
    by true e = below-at 16 (λ k. nat_lt (slice_index lower_digits k) 128) refl i (ltb-true i 16 e)
    by false e = ap (λ k. nat_lt k 128) (get_or_past lower_digits i 0 (grind (arith, nat_tests)))

-- digits are a text
pub digits-text : (bytes digits : List ℕ) → digits ≡ encode_lower bytes → IsUtf8 digits
digits-text bytes digits is = subst IsUtf8 (sym is) (IsUtf8-from_ascii (encode_lower bytes) (IsAscii-encode_with lower_digits bytes (λ i. ltb-true (slice_index lower_digits i) 128 (digit-ascii i))))
