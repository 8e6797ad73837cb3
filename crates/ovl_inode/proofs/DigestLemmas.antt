-- Digests, targets and the kinds of sound inodes.
use Rattle.std.proofs.Common.{◌≡◌, ℕ, ◌<◌, ◌≤◌, List, Bool, true, false, refl, sym, ◌∙◌, length, arith, Ok, lt-ltb, le-leb, eq-eqb, Some}
use Rattle.std.specs.Prelude.{◌&&◌, not, ◌==◌}
use lib.ListN.{get_or}
use Rattle.std.specs.Str.{is_utf8}
use Rattle.std.specs.List.{list_all, list_any}
use Rattle.hex.specs.Hex.{decode_sized}
use Rattle.hex.proofs.HexLemmas.{decode_of-ok, decode_sized-twice}
use Rattle.ovl_inode.specs.Bytes.{is_digest}
use Rattle.ovl_inode.specs.Hexadecimal.{is_lower_digit, digest_of_text}
use Rattle.ovl_inode.proofs.AttributeLemmas.{are_bytes-below}
use Rattle.ovl_inode.specs.Sound.{is_target}

pub is_digest-of_bytes : (bytes : List ℕ) → length bytes ≡ 32 → ((i : ℕ) → get_or bytes i 0 < 256) → is_digest bytes ≡ true
is_digest-of_bytes bytes count range = rw (eq-eqb (length bytes) 32 count) (are_bytes-below bytes range)

-- what 64 digits spell is a digest
pub is_digest-decoded : (text bytes : List ℕ) → length text ≡ 64 → decode_sized text 32 ≡ Ok bytes → is_digest bytes ≡ true
is_digest-decoded text bytes long decoded =
    let facts = decode_of-ok text bytes (sym (decode_sized-twice text 32 long) ∙ decoded) in
    let count : length bytes ≡ 32 = omega (arith, facts.2, long) in
    is_digest-of_bytes bytes count facts.3

pub digest_of_text-decoded : (text bytes : List ℕ) → length text ≡ 64 → list_all is_lower_digit text ≡ true → decode_sized text 32 ≡ Ok bytes → digest_of_text text ≡ Some bytes
digest_of_text-decoded text bytes long lower decoded =
    rw (eq-eqb (length text) 64 long) (rw lower (rw (sym (decode_sized-twice text 32 long) ∙ decoded) refl))

-- a text of a target's length is one where it has no NUL
pub is_target-plain : (text : List ℕ) → 0 < length text → length text ≤ 4095 → is_utf8 text ≡ true → is_target text ≡ not (list_any (λ byte. byte == 0) text)
is_target-plain text some short utf8 = rw (lt-ltb 0 (length text) some) (rw (le-leb (length text) 4095 short) (rw utf8 (by (not (list_any (λ byte. byte == 0) text)))))
  where
    by : (b : Bool) → (b && true) ≡ b
    by true = refl
    by false = refl
