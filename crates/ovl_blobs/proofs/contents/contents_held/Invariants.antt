use Rattle.std.proofs.Common.{◌≡◌, take}
use Rattle.ovl_blobs.specs.Blobs.{blob_views}
use Rattle.ovl_blobs.specs.Contents.{contents_of}
use Rattle.ovl_blobs.proofs.contents.contents_held.Given as goal

-- what is reported of the blobs so far
abbrev pub invariant-loop-blob : goal.invariant-loop-blob
invariant-loop-blob l = l.contents.items ≡ contents_of (blob_views (take l.blob-index l.fn.blobs))
