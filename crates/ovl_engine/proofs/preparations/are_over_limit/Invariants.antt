use Rattle.std.proofs.Common.{◌≡◌, ◌+◌, take, length}
use Rattle.std.specs.List.{sum_by}
use Rattle.ovl_blobs.specs.Blobs.{blob_limit}
use Rattle.ovl_engine.proofs.preparations.are_over_limit.Given as goal

-- what is left of the limit beside the blobs so far
abbrev pub invariant-loop-blob : goal.invariant-loop-blob
invariant-loop-blob l = sum_by (λ blob. length blob.bytes.items) (take l.blob-index l.fn.blobs) + l.left ≡ blob_limit
