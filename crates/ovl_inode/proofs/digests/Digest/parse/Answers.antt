use Rattle.std.proofs.Common.{◌≡◌, ◌∙◌, true, sym, length}
use Rattle.std.specs.List.{list_all}
use Rattle.ovl_inode.specs.Hexadecimal.{is_lower_digit}
use Rattle.ovl_inode.proofs.DigestLemmas.{is_digest-decoded, digest_of_text-decoded}
use Rattle.ovl_inode.proofs.digests.Digest.parse.Goals as goal

pub invariant_of-result : goal.invariant_of-result
invariant_of-result c =
    let digits = c.as_bytes-digits.result.now in
    let long : length digits ≡ 64 = c.if-digits-ne64.false in
    is_digest-decoded digits c.bytes_of_digits-bytes.result long c.bytes_of_digits-bytes.ensures

pub returns : goal.returns
returns c =
    let digits = c.as_bytes-digits.result.now in
    let long : length digits ≡ 64 = c.if-digits-ne64.false in
    let lower : list_all is_lower_digit digits ≡ true = sym c.are_lower_digits.ensures ∙ c.if-not-are_lower_digits.false in
    rw c.as_bytes-digits.ensures.value at (digest_of_text-decoded digits c.bytes_of_digits-bytes.result long lower c.bytes_of_digits-bytes.ensures)
