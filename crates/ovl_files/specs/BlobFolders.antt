-- Folders of blobs.
use Rattle.std.specs.Prelude.{◌≡◌, ◌⊎◌, ⊤, ◌∷◌, ◌++◌, ℕ, Option, Some, List}
use Rattle.std.specs.Option.{option_map}
use Rattle.hex.specs.Hex.{encode_lower}
use Rattle.ovl_inode.specs.Hexadecimal.{digest_of_text}
use Rattle.ovl_blobs.specs.declared.contents.BlobInfo.{BlobInfo}
use Rattle.ovl_blobs.specs.Contents.{content_of}

-- the path of the blob of this digest: the folder, a slash (47) and the digest's digits
abbrev pub blob_path : List ℕ → List ℕ → List ℕ
blob_path folder name = folder ++ 47 ∷ encode_lower name

-- the folder itself, or one of its blobs
abbrev pub IsInFolder : List ℕ → List ℕ → Type 0
IsInFolder folder path = (path ≡ folder) ⊎ ((name : List ℕ) × (path ≡ blob_path folder name))

-- the name of some file spells the digest
abbrev pub IsNamedBy : List ℕ → Type 0
IsNamedBy digest = (name : List ℕ) × (digest_of_text name ≡ Some digest)

-- the name under which the blob of this digest is sought spells the digest
abbrev pub IsSpelt : List ℕ → Type 0
IsSpelt digest = digest_of_text (encode_lower digest) ≡ Some digest

-- what is reported of the blob of this digest, where these are the bytes of its file; nothing where it
-- has none
abbrev pub told_of : List ℕ → Option (List ℕ) → Option BlobInfo
told_of name held = option_map (λ bytes. content_of (record { name = name; bytes = bytes })) held

-- this is reported of the blob of this digest, by some bytes of its file, or for lack of one
abbrev pub IsToldOf : List ℕ → Option BlobInfo → Type 0
IsToldOf name told = (held : Option (List ℕ)) × (told ≡ told_of name held)

-- what may be under a name in a folder: of files nothing is known
abbrev pub anything : List ℕ → Option (List ℕ) → Type 0
anything name held = ⊤
