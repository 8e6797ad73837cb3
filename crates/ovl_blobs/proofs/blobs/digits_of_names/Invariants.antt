use Rattle.std.proofs.Common.{◌≡◌, take}
use Rattle.ovl_blobs.specs.Blobs.{digits_of_names, blob_views}
use Rattle.ovl_blobs.proofs.blobs.digits_of_names.Given as goal

abbrev pub invariant-loop-blob : goal.invariant-loop-blob
invariant-loop-blob l = l.digits.keys ≡ digits_of_names (blob_views (take l.blob-index l.blobs))
