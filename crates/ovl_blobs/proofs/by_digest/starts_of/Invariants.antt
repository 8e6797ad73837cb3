use Rattle.std.proofs.Common.{◌≡◌, ℕ, ◌<◌, length, slice_index}
use Rattle.ovl_blobs.specs.ByDigest.{IsStart}
use Rattle.ovl_blobs.proofs.by_digest.starts_of.Given as goal

abbrev pub invariant-loop-byte : goal.invariant-loop-byte
invariant-loop-byte g l =
    ((k : ℕ) → k < l.byte → IsStart g.T.Named.name_of l.elements k (slice_index l.starts k)) × (length l.starts ≡ 257)
