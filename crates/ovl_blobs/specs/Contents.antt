-- What is reported of blobs whose bytes aren't held.
use Rattle.std.specs.Prelude.{◌≡◌, true, All, Contains, ℕ, Bool, not, Option, List, length, map}
use Rattle.std.specs.List.{find}
use Rattle.std.specs.Option.{option_map}
use Rattle.std.specs.Str.{bytes_eq}
use Rattle.std.specs.declared.cmp.Ordering.{Ordering}
use Rattle.ovl_names.specs.Order.{ascends}
use Rattle.ovl_blobs.specs.declared.contents.BlobInfo.{BlobInfo}
use Rattle.ovl_blobs.specs.Blobs.{BlobView, is_wrong, digest_cmp, find_blob}

-- what is reported of a blob: its name, its length, and whether its bytes have that SHA-256 digest
abbrev pub content_of : BlobView → BlobInfo
content_of blob = record {
  name = blob.name;
  size = length blob.bytes;
  is_right = not (is_wrong blob);
}

abbrev pub contents_of : List BlobView → List BlobInfo
contents_of blobs = map content_of blobs

-- the names ascend strictly
abbrev pub content_cmp : BlobInfo → BlobInfo → Ordering
content_cmp one other = digest_cmp one.name other.name

abbrev pub contents_ascend : List BlobInfo → Bool
contents_ascend contents = ascends content_cmp contents

-- the content of a name
abbrev pub find_content : List BlobInfo → List ℕ → Option BlobInfo
find_content contents name = find (λ content. bytes_eq content.name name) contents

-- the bytes of a name, among blobs
abbrev pub bytes_named : List BlobView → List ℕ → Option (List ℕ)
bytes_named blobs name = option_map (λ blob. blob.bytes) (find_blob blobs name)

-- these are the contents of blobs, each under one of these names, ascending, and under each name is
-- what may be there
pub record AreTold (may_be : List ℕ → Option (List ℕ) → Type 0) (names : List (List ℕ))
    (told : List BlobInfo) : Type 0 where
  pub blobs : List BlobView
  pub contents : told ≡ contents_of blobs
  pub ascend : contents_ascend told ≡ true
  pub asked : All (λ content. Contains names content.name) told
  pub each : (name : List ℕ) → Contains names name → may_be name (bytes_named blobs name)
