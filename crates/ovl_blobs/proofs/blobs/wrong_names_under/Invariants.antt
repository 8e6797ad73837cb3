use Rattle.std.proofs.Common.{◌≡◌, take}
use Rattle.ovl_blobs.specs.Blobs.{wrong_names_under, blob_views}
use Rattle.ovl_blobs.proofs.blobs.wrong_names_under.Given as goal

abbrev pub invariant-loop-blob : goal.invariant-loop-blob
invariant-loop-blob l = l.names.items ≡ wrong_names_under l.digits (blob_views (take l.blob-index l.blobs))
