use Rattle.std.proofs.Common.{◌≡◌, ℕ, ◌<◌, true, get_or}
use Rattle.ovl_inode.specs.Bytes.{is_digest}
use Rattle.ovl_blobs.specs.declared.blobs.Blob.{Blob}
use Rattle.ovl_blobs.proofs.blobs.keep_digests.Given as goal

abbrev pub invariant-loop-blob : goal.invariant-loop-blob
invariant-loop-blob l = (k : ℕ) (d : Blob) → k < l.blob-index → is_digest (get_or l.blobs k d).name ≡ true
