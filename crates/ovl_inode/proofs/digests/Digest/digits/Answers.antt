use Rattle.ovl_inode.proofs.SpellLemmas.{digits-text}
use Rattle.ovl_inode.proofs.digests.Digest.digits.Goals as goal

pub invariant_of-result : goal.invariant_of-result
invariant_of-result c = digits-text c.self.inside.bytes c.digits_of_bytes-bytes.result c.digits_of_bytes-bytes.ensures
