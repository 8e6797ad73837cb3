-- Contents as blobs, under the digests that they have.
use Rattle.std.specs.Prelude.{◌≡◌, ℕ, true, Option, Some, None, List, [], ◌∷◌, if◌then◌else◌, map}
use Rattle.std.specs.Map.{lookup}
use Rattle.std.specs.Str.{bytes_eq}
use Rattle.sha2.specs.Sha256.{sha256}
use Rattle.ovl_blobs.specs.Blobs.{BlobView, are_in_order}

-- the first of the contents that have a SHA-256 digest; FIPS 180-4
abbrev pub first_with : List ℕ → List (List ℕ) → Option (List ℕ)
first_with digest [] = None
first_with digest (bytes ∷ contents) =
    if bytes_eq digest (sha256 bytes) then Some bytes else first_with digest contents

-- the bytes under a name
abbrev pub bytes_under : List ℕ → List (List ℕ × List ℕ) → Option (List ℕ)
bytes_under digest named = lookup (bytes_eq digest) named

abbrev pub name_and_bytes : BlobView → List ℕ × List ℕ
name_and_bytes blob = (blob.name, blob.bytes)

-- each digest that contents have is under its name, with the first contents that have it, and there
-- is no other name
abbrev pub HasFirsts : List (List ℕ) → List (List ℕ × List ℕ) → Type 0
HasFirsts contents named = (digest : List ℕ) → bytes_under digest named ≡ first_with digest contents

-- the blobs of contents: so named, each name once, ascending
pub record AreNamed (contents : List (List ℕ)) (blobs : List BlobView) : Type 0 where
  pub in_order : are_in_order blobs ≡ true
  pub firsts : HasFirsts contents (map name_and_bytes blobs)
