use Rattle.std.proofs.Common.{◌≡◌, ◌-◌, ◌^◌, ℕ, List, min, sum_by, take}
use Rattle.std.specs.BTreeMap.{IsOrdered, get}
use Rattle.ovl_blobs.specs.Blobs.{digest_cmp}
use Rattle.ovl_files.specs.Listings.{length_of}
use Rattle.ovl_files.proofs.blob_folder.listing_of.Given as goal

-- the listing of the files so far
abbrev pub invariant-loop-file : goal.invariant-loop-file
invariant-loop-file l =
    ((name : List ℕ) → get digest_cmp l.lengths name ≡ length_of (take l.file-index l.fn.listed) name)
    × (IsOrdered digest_cmp l.lengths
    × (l.bytes ≡ min (sum_by (λ file. file.length) (take l.file-index l.fn.listed)) (2 ^ 64 - 1)))
