-- What is reported of bytes that were read in parts.
use Rattle.std.specs.Prelude.{◌≡◌, ℕ, List, length}
use Rattle.sha2.specs.Sha256.{sha256}
use Rattle.sha2.specs.Hashers.{Holds256}
use Rattle.ovl_blobs.specs.declared.contents.BlobInfo.{BlobInfo}
use Rattle.ovl_blobs.specs.Contents.{content_of}
use Rattle.ovl_blobs.specs.declared.measuring.Measured.{Measured}
use Rattle.ovl_blobs.specs.declared.measuring.Reading.{Reading}

-- how many these bytes are, and their SHA-256 digest; FIPS 180-4
pub record IsMeasured (bytes : List ℕ) (told : Measured) : Type 0 where
  pub length : told.length ≡ length bytes
  pub digest : told.digest ≡ sha256 bytes

-- these bytes are what was read so far
pub record HasRead (bytes : List ℕ) (reading : Reading) : Type 0 where
  pub length : reading.length ≡ length bytes
  pub message : Holds256 reading.hasher bytes

-- this is the content of a blob of this name and these bytes
abbrev pub IsContentOf : List ℕ → List ℕ → BlobInfo → Type 0
IsContentOf name bytes content = content ≡ content_of (record { name = name; bytes = bytes })
