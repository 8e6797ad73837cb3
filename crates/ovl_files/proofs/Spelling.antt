-- The digits of a digest spell it.
use Rattle.std.proofs.Common.{◌≡◌, ◌∙◌, ◌/◌, ◌%◌, ◌<◌, ℕ, zero, suc, Bool, true, None, List, [], ◌∷◌, ap, arith, get_or, length, ltb-true, eqb-true, eq-eqb, refl}
use Rattle.std.specs.Prelude.{◌==◌, if◌then◌else◌, nat_lt}
use Rattle.std.specs.List.{list_all}
use Rattle.std.specs.Result.{result_ok}
use Rattle.hex.specs.Hex.{lower_digits, encode_with, encode_lower, decode_of, IsBytes}
use Rattle.hex.proofs.HexLemmas.{decode_of-encode_lower, length-encode_with}
use Rattle.ovl_names.proofs.Ascending.{both}
use Rattle.ovl_inode.specs.Bytes.{are_bytes, is_digest}
use Rattle.ovl_inode.specs.Hexadecimal.{is_lower_digit, bytes_of_digits}
use Rattle.ovl_files.specs.BlobFolders.{IsSpelt}

all_at : (test : ℕ → Bool) (xs : List ℕ) (k : ℕ) → list_all test xs ≡ true → k < length xs → test (get_or xs k 0) ≡ true
all_at test [] k all inside = absurd (omega (arith, inside))
all_at test (x ∷ xs) zero all inside = (both {a = test x} {b = list_all test xs} all).0
all_at test (x ∷ xs) (suc k) all inside = all_at test xs k (both {a = test x} {b = list_all test xs} all).1 (omega (arith, inside))

digits-lower : (bytes : List ℕ) → are_bytes bytes ≡ true → list_all is_lower_digit (encode_lower bytes) ≡ true
unfolding encode_with
digits-lower [] are = refl
digits-lower (byte ∷ bytes) are =
    let parts = both {a = nat_lt byte 256} {b = are_bytes bytes} are in
    let fits : byte < 256 = ltb-true byte 256 parts.0 in
    let high : byte / 16 < 16 = omega (arith, fits) in
    let low : byte % 16 < 16 = omega arith in
    rw (all_at is_lower_digit lower_digits (byte / 16) refl high, all_at is_lower_digit lower_digits (byte % 16) refl low) (digits-lower bytes parts.1)

IsBytes-from : (bytes : List ℕ) → are_bytes bytes ≡ true → IsBytes bytes
IsBytes-from [] are = λ i. omega arith
IsBytes-from (byte ∷ bytes) are = by (IsBytes-from bytes parts.1)
  where
    parts : (nat_lt byte 256 ≡ true) × (are_bytes bytes ≡ true)
    parts = both {a = nat_lt byte 256} {b = are_bytes bytes} are

    by : IsBytes bytes → IsBytes (byte ∷ bytes)
    by rest zero = ltb-true byte 256 parts.0
    by rest (suc i) = rest i

pub digest_spelt : (digest : List ℕ) → is_digest digest ≡ true → IsSpelt digest
digest_spelt digest is =
    let parts = both {a = length digest == 32} {b = are_bytes digest} is in
    let count : length (encode_lower digest) ≡ 64 = omega (arith, length-encode_with lower_digits digest, eqb-true (length digest) 32 parts.0) in
    ap (λ b. if b then bytes_of_digits (encode_lower digest) else None) (eq-eqb (length (encode_lower digest)) 64 count)
    ∙ (ap (λ b. if b then result_ok (decode_of (encode_lower digest)) else None) (digits-lower digest parts.1)
    ∙ ap result_ok (decode_of-encode_lower digest (IsBytes-from digest parts.1)))
