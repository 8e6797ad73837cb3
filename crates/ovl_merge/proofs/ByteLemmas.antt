-- The numbers of a text are bytes.
use Rattle.std.proofs.Common.{◌≡◌, ℕ, ◌+◌, ◌<◌, inl, inr, Bool, true, false, cond, List, [], ◌∷◌, refl, sym, ap, ◌∙◌, arith}
use Rattle.std.specs.Prelude.{◌/◌, ◌%◌, ◌&&◌, nat_lt}
use Rattle.std.specs.Str.{IsUtf8}
use Rattle.std.proofs.lemmas.List.Folds.{list_all-append}
use Rattle.std.proofs.lemmas.Bool.{lt-ltb, ltb-true}
use Rattle.ovl_names.proofs.Ascending.{both}
use Rattle.ovl_inode.specs.Bytes.{are_bytes}
use lib.Utf8.{scalar, scalars, encode, encodes, scalar_cases}

is_byte : (n : ℕ) → n < 256 → nat_lt n 256 ≡ true
is_byte n small = lt-ltb n 256 small

scalar_below : (c : ℕ) → scalar c ≡ true → c < 1114112
scalar_below c is = elim (scalar_cases c is) [ inl low ↦ omega (arith, low) | inr high ↦ high.1 ]

bytes-encode : (c : ℕ) → scalar c ≡ true → are_bytes (encode c) ≡ true
unfolding encode
bytes-encode c is = by (nat_lt c 128) refl (nat_lt c 2048) refl (nat_lt c 65536) refl
  where
    next : (n : ℕ) → nat_lt (128 + n % 64) 256 ≡ true
    next n = is_byte (128 + n % 64) (omega arith)

    by : (one : Bool) → nat_lt c 128 ≡ one → (two : Bool) → nat_lt c 2048 ≡ two → (three : Bool) → nat_lt c 65536 ≡ three
        → are_bytes (cond one (c ∷ []) (cond two ((192 + c / 64) ∷ (128 + c % 64) ∷ []) (cond three ((224 + c / 4096) ∷ (128 + (c / 64) % 64) ∷ (128 + c % 64) ∷ []) ((240 + c / 262144) ∷ (128 + (c / 4096) % 64) ∷ (128 + (c / 64) % 64) ∷ (128 + c % 64) ∷ [])))) ≡ true
    by true e two f three g = let small : c < 128 = ltb-true c 128 e in (λ j. is_byte c (omega (arith, small)) j && true)
    by false e true f three g = let small : c < 2048 = ltb-true c 2048 f in (λ j. is_byte (192 + c / 64) (omega (arith, small)) j && (next c j && true))
    by false e false f true g = let small : c < 65536 = ltb-true c 65536 g in (λ j. is_byte (224 + c / 4096) (omega (arith, small)) j && (next (c / 64) j && (next c j && true)))
    by false e false f false g = let small : c < 1114112 = scalar_below c is in (λ j. is_byte (240 + c / 262144) (omega (arith, small)) j && (next (c / 4096) j && (next (c / 64) j && (next c j && true))))

bytes-encodes : (cs : List ℕ) → scalars cs ≡ true → are_bytes (encodes cs) ≡ true
bytes-encodes [] are = refl
bytes-encodes (c ∷ cs) are =
    let parts = both {a = scalar c} {b = scalars cs} are in
    list_all-append (λ number. nat_lt number 256) (encode c) (encodes cs) ∙ (λ j. bytes-encode c parts.0 j && bytes-encodes cs parts.1 j)

-- the bytes of a text
pub utf8-bytes : (text : List ℕ) → IsUtf8 text → are_bytes text ≡ true
utf8-bytes text is = ap are_bytes (sym is.1.1) ∙ bytes-encodes is.0 is.1.0
