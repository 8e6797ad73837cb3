use Rattle.ovl_inode.proofs.DigestLemmas.{is_digest-of_bytes}
use Rattle.ovl_inode.proofs.digests.DigestFromRefArrayU832.from.Goals as goal

pub invariant_of-result : goal.invariant_of-result
invariant_of-result c = rw c.copy_from_slice.ensures.after (is_digest-of_bytes c.args.bytes.now c.told-bytes c.fits-bytes)
