-- Blobs whose names are the keys of a set.
use Rattle.std.proofs.Common.{◌≡◌, ℕ, true, List, [], ◌∷◌, refl, map}
use Rattle.std.specs.Prelude.{◌&&◌}
use Rattle.std.specs.List.{AllByRecursion, list_all}
use Rattle.std.specs.List.Sorted.{IsStrictlySortedBy}
use Rattle.std.specs.Ordering.{is_lt}
use Rattle.std.specs.declared.cmp.Ordering.TheVariants.{Less}
use Rattle.ovl_blobs.specs.declared.blobs.Blob.{Blob}
use Rattle.ovl_blobs.specs.Blobs.{BlobView, blob_views, digest_cmp, are_in_order}

before_all : (name : List ℕ) (blobs : List Blob) → AllByRecursion (λ other. digest_cmp name other ≡ Less) (map (λ (blob : Blob). blob.name) blobs)
    → list_all (λ (blob : BlobView). is_lt (digest_cmp name blob.name)) (blob_views blobs) ≡ true
before_all name [] all = refl
before_all name (blob ∷ blobs) all = λ j. is_lt (all.0 j) && before_all name blobs all.1 j

-- blobs whose names ascend strictly are in order
pub ascending_blobs : (blobs : List Blob) → IsStrictlySortedBy digest_cmp (map (λ (blob : Blob). blob.name) blobs) → are_in_order (blob_views blobs) ≡ true
unfolding IsStrictlySortedBy
ascending_blobs [] up = refl
ascending_blobs (blob ∷ blobs) up = λ j. before_all blob.name blobs up.0 j && ascending_blobs blobs up.1 j
