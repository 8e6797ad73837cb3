-- Bytes as lower-case hexadecimal digits, two a byte, and digests read of them.
use Rattle.std.specs.Prelude.{ℕ, Bool, ◌&&◌, ◌||◌, ◌==◌, not, if◌then◌else◌, Option, Some, None, List, length, nat_le}
use Rattle.std.specs.List.{list_all}
use Rattle.std.specs.Result.{result_ok}
use Rattle.hex.specs.Hex.{decode_of}
use Rattle.ovl_inode.specs.declared.digests.Digest.{Digest}
use Rattle.ovl_inode.specs.declared.digests.DigestFault.{DigestFault}
use Rattle.ovl_inode.specs.declared.digests.DigestFault.TheVariants.{Length, Digit}

-- `0` to `9` and `a` to `f`
abbrev pub is_lower_digit : ℕ → Bool
is_lower_digit c = (nat_le 48 c && nat_le c 57) || (nat_le 97 c && nat_le c 102)

-- the bytes that lower-case digits spell, two digits a byte
abbrev pub bytes_of_digits : List ℕ → Option (List ℕ)
bytes_of_digits text = if list_all is_lower_digit text then result_ok (decode_of text) else None

-- the least fault of a text that is no digest
abbrev pub digest_fault : List ℕ → Option DigestFault
digest_fault text =
    if not (length text == 64) then Some Length
    else if not (list_all is_lower_digit text) then Some Digit
    else None

-- the digest that a text of 64 digits spells
abbrev pub digest_of_text : List ℕ → Option Digest
digest_of_text text =
    if length text == 64 then bytes_of_digits text else None
