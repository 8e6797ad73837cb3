-- Plain bytes, seen through the mask of those at which a string stops.
use Rattle.std.proofs.Common.{◌≡◌, ◌∙◌, ℕ, zero, suc, ◌+◌, ◌*◌, ◌%◌, ◌^◌, ◌≤◌, ◌<◌, Bool, true, false, cond, eqb, ltb, List, [], ◌∷◌, ◌++◌, map, length, take, get_or, replicate, refl, sym, ap, ap₂, arith}
use Rattle.std.specs.Prelude.{◌||◌, not, nat_lt}
use Rattle.std.proofs.lemmas.Bool.Decides.{nat_tests}
use Rattle.std.proofs.lemmas.List.{length-map, take_more}
use Rattle.std.proofs.lemmas.List.Concat.{flat_map-append}
use Rattle.std.specs.List.{prefix_len}
use Rattle.std.proofs.lemmas.Simd.{zip2_splat, zip2_of_maps, mask_l-mod, length-chunk, trailing_mask_l, run_in_chunk_stops, run_in_chunk_fails, run_in_chunk_le, none_from_empty_mask}
use lib.Bits.{bit_or}
use lib.Count.{count_trailing_zeros}
use lib.Lanes.{chunk, mask_l, top, zip2}
use Rattle.json.specs.Print.{escape_byte, escape}
use Rattle.json.specs.Run.{is_stop}
use Rattle.json.proofs.Printed.Strings.{escape_byte_plain}

abbrev pub hit : ℕ → ℕ → ℕ
hit a b = cond (eqb a b) 255 0

abbrev pub below : ℕ → ℕ → ℕ
below a b = cond (ltb a b) 255 0

stop-top : (x : ℕ) → top 7 (bit_or (bit_or (hit x 34) (hit x 92)) (below x 32)) ≡ is_stop x
stop-top x = by (eqb x 34) (eqb x 92) (ltb x 32)
  where
    by : (a b c : Bool) → top 7 (bit_or (bit_or (cond a 255 0) (cond b 255 0)) (cond c 255 0)) ≡ (a || b || c)
    by true true true = refl
    by true true false = refl
    by true false true = refl
    by true false false = refl
    by false true true = refl
    by false true false = refl
    by false false true = refl
    by false false false = refl

stop-tops : (v : List ℕ) → map (top 7) (map (λ x. bit_or (bit_or (hit x 34) (hit x 92)) (below x 32)) v) ≡ map is_stop v
stop-tops [] = refl
stop-tops (x ∷ xs) = ap₂ (λ (a : Bool) (b : List Bool). a ∷ b) (stop-top x) (stop-tops xs)

-- the mask of the lanes at which a string stops
pub stops-mask : (v : List ℕ) → length v ≡ 16
    → mask_l (map (top 7) (zip2 bit_or (zip2 bit_or (zip2 hit v (replicate 16 34)) (zip2 hit v (replicate 16 92))) (zip2 below v (replicate 16 32)))) % 2 ^ 64 ≡ mask_l (map is_stop v)
stops-mask v long =
    let quotes = zip2_of_maps bit_or (λ x. hit x 34) (λ x. hit x 92) v (zip2_splat hit v 16 34 long) (zip2_splat hit v 16 92 long) in
    let all = zip2_of_maps bit_or (λ x. bit_or (hit x 34) (hit x 92)) (λ x. below x 32) v quotes (zip2_splat below v 16 32 long) in
    ap (λ (l : List Bool). mask_l l % 2 ^ 64) (ap (map (top 7)) all ∙ stop-tops v) ∙ mask_l-mod (map is_stop v) 64 (omega (arith, length-map v is_stop))

-- ---- runs of bytes at which a string doesn't stop

-- none of the first n is a stop
abbrev pub IsPlain : List ℕ → ℕ → Type 0
IsPlain bytes n = (k : ℕ) → k < n → is_stop (get_or bytes k 0) ≡ false

plain-on : (bytes : List ℕ) (i n : ℕ) → IsPlain bytes i → ((k : ℕ) → i ≤ k → k < i + n → is_stop (get_or bytes k 0) ≡ false) → IsPlain bytes (i + n)
plain-on bytes i n before here = λ k inside. by k inside (nat_lt k i) refl
  where
    by : (k : ℕ) → k < i + n → (b : Bool) → nat_lt k i ≡ b → is_stop (get_or bytes k 0) ≡ false
    by k inside true e = before k (grind (arith, nat_tests))
    by k inside false e = here k (grind (arith, nat_tests)) inside

-- a block in which a string doesn't stop
pub plain-block : (bytes : List ℕ) (i n : ℕ) → i + n ≤ length bytes → IsPlain bytes i → mask_l (map is_stop (chunk i n bytes)) ≡ 0 → IsPlain bytes (i + n)
plain-block bytes i n inside plain empty = plain-on bytes i n plain (none_from_empty_mask is_stop bytes i n 0 inside empty)

-- a block in which a string stops is plain only before its end
some-stops : (v : List ℕ) → 0 < mask_l (map is_stop v) → prefix_len (λ x. not (is_stop x)) v < length v
some-stops [] some = absurd (omega arith)
some-stops (x ∷ xs) some = by (is_stop x) some (some-stops xs)
  where
    plain : ℕ
    plain = prefix_len (λ x. not (is_stop x)) xs

    by : (b : Bool) → 0 < cond b 1 0 + 2 * mask_l (map is_stop xs) → (0 < mask_l (map is_stop xs) → plain < length xs) → cond (not b) (1 + plain) 0 < suc (length xs)
    by true some more = omega arith
    by false some more = omega (arith, more (omega arith))

-- the part of a block before the place at which one stops
module _ (bytes : List ℕ) (i n : ℕ) (inside : i + n ≤ length bytes) (short : n ≤ 64) (some : 0 < mask_l (map is_stop (chunk i n bytes))) where
  abbrev own : ℕ
  own = count_trailing_zeros 64 (mask_l (map is_stop (chunk i n bytes)))

  counted : own ≡ prefix_len (λ x. not (is_stop x)) (chunk i n bytes)
  counted = trailing_mask_l is_stop 64 (chunk i n bytes) (omega (arith, length-chunk i n bytes inside)) some

  pub stops-within : i + own ≤ length bytes
  stops-within = omega (arith, inside, run_in_chunk_le is_stop bytes i n own 0 inside counted)

  pub stops-there : is_stop (get_or bytes (i + own) 0) ≡ true
  stops-there = run_in_chunk_stops is_stop bytes i n own 0 inside counted (omega (arith, counted, some-stops (chunk i n bytes) some, length-chunk i n bytes inside))

  pub plain-stops : IsPlain bytes i → IsPlain bytes (i + own)
  plain-stops plain = plain-on bytes i own plain (run_in_chunk_fails is_stop bytes i n own 0 inside counted)

-- ---- what needs no escape

no-stop : (x : ℕ) → is_stop x ≡ false → (x ≡ 34 → ⊥) × (x ≡ 92 → ⊥) × (32 ≤ x)
no-stop x is = (λ e. grind (arith, nat_tests), λ e. grind (arith, nat_tests), grind (arith, nat_tests))

pub stop-not : (x : ℕ) → (x ≡ 34 → ⊥) → (x ≡ 92 → ⊥) → 32 ≤ x → is_stop x ≡ false
stop-not x quote backslash control = grind (arith, nat_tests)

pub escape-plain : (bytes : List ℕ) (n : ℕ) → n ≤ length bytes → IsPlain bytes n → escape (take n bytes) ≡ take n bytes
escape-plain bytes zero inside plain = refl
escape-plain bytes (suc n) inside plain =
    let byte = get_or bytes n 0 in
    let last = no-stop byte (plain n (omega arith)) in
    let one : suc n ≡ n + 1 = omega arith in
    let more : take (suc n) bytes ≡ take n bytes ++ byte ∷ [] = ap (λ (m : ℕ). take m bytes) one ∙ take_more bytes n 0 (omega arith) in
    ap escape more
    ∙ (flat_map-append escape_byte (take n bytes) (byte ∷ [])
    ∙ (ap₂ (λ (one other : List ℕ). one ++ (other ++ [])) (escape-plain bytes n (omega arith) (λ k h. plain k (omega (arith, h)))) (escape_byte_plain byte last.0 last.1 last.2) ∙ sym more))
