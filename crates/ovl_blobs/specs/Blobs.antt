-- Blobs, those with wrong bytes, and the work of digesting them.
use mathlib.Core.List.{is_set}
use native.Mathlib.Nat.{ℕ_set}
use Rattle.std.specs.Prelude.{◌≡◌, ℕ, Bool, Option, true, All, ◌&&◌, ◌==◌, not, List, [], ◌∷◌, if◌then◌else◌, take, map, filter, length}
use Rattle.std.specs.List.{find, sum_by}
use Rattle.std.specs.Ordering.{nat_cmp}
use Rattle.std.specs.Cmp.Lexicographic.{slice_cmp}
use Rattle.std.specs.declared.cmp.Ordering.{Ordering}
use Rattle.std.specs.Str.{bytes_eq}
use Rattle.hex.specs.Hex.{encode_lower}
use Rattle.sha2.specs.Sha256.{sha256}
use Rattle.ovl_names.specs.Names.{PathName, name_eq}
use Rattle.ovl_names.specs.Order.{ascends}
use Rattle.ovl_names.specs.Paths.{PathNames, is_root}
use Rattle.ovl_inode.specs.Bytes.{is_digest}
use Rattle.ovl_names.specs.NameSets.{put_names}
use Rattle.ovl_board.specs.declared.pieces.Piece.{Piece}
use Rattle.ovl_board.specs.Pieces.{space_root, piece_in}
use Rattle.ovl_blobs.specs.declared.blobs.Blob.{Blob}

-- a blob: its name, which is a digest, and its bytes
pub record BlobView : Type 0 where
  pub name : List ℕ
  pub bytes : List ℕ

abbrev pub blob_view : Blob → BlobView
blob_view blob = record { name = blob.name; bytes = blob.bytes.items }

abbrev pub blob_views : List Blob → List BlobView
blob_views blobs = map blob_view blobs

-- digests are ordered as bytes, and blobs by their names
abbrev pub digest_cmp : List ℕ → List ℕ → Ordering
digest_cmp = slice_cmp nat_cmp

abbrev pub blob_cmp : BlobView → BlobView → Ordering
blob_cmp one other = digest_cmp one.name other.name

-- the names ascend strictly
abbrev pub are_in_order : List BlobView → Bool
are_in_order blobs = ascends blob_cmp blobs

-- each name is a digest
abbrev pub AreNamedByDigests : List Blob → Type 0
AreNamedByDigests blobs = All (λ blob. is_digest blob.name ≡ true) blobs

-- the blob of a name
abbrev pub find_blob : List BlobView → List ℕ → Option BlobView
find_blob blobs name = find (λ blob. bytes_eq blob.name name) blobs

-- the bytes have another SHA-256 digest than the name; FIPS 180-4
abbrev pub is_wrong : BlobView → Bool
is_wrong blob = not (bytes_eq (sha256 blob.bytes) blob.name)

abbrev pub wrong_names : List BlobView → List (List ℕ)
wrong_names blobs = map (λ blob. blob.name) (filter is_wrong blobs)

-- the most bytes that all blobs of a command have, and how many some have
abbrev pub blob_limit : ℕ
blob_limit = 268435456

abbrev pub blob_bytes : List BlobView → ℕ
blob_bytes blobs = sum_by (λ blob. length blob.bytes) blobs

-- the first two hexadecimal digits of a name, and the blobs whose names begin with two digits
abbrev pub first_digits : List ℕ → PathName
first_digits name = encode_lower (take 1 name)

abbrev pub blobs_under : PathName → List BlobView → List BlobView
blobs_under digits blobs = filter (λ blob. name_eq digits (first_digits blob.name)) blobs

abbrev pub wrong_names_under : PathName → List BlobView → List (List ℕ)
wrong_names_under digits blobs = wrong_names (blobs_under digits blobs)

-- the two digits that occur, each once, in order
abbrev pub digits_of_names : List BlobView → List PathName
digits_of_names blobs = put_names [] (map (λ blob. first_digits blob.name) blobs)

-- the pieces: a root, and one for two digits
abbrev pub blob_space : ℕ
blob_space = 128

abbrev pub blob_root : Piece
blob_root = space_root blob_space

abbrev pub digits_piece : PathName → Piece
digits_piece digits = piece_in blob_root digits

-- the kids of the root are the two digits that occur
abbrev pub blob_kids : List BlobView → Piece → List Piece
blob_kids blobs piece =
    if piece.space == blob_space && is_root piece.dir then map digits_piece (digits_of_names blobs)
    else []

-- the output of two digits is the names of their blobs with wrong bytes
abbrev pub out_at : List BlobView → PathNames → List (List ℕ)
out_at blobs (digits ∷ []) = wrong_names_under digits blobs
out_at blobs _ = []

abbrev pub blob_out : List BlobView → Piece → List (List ℕ)
blob_out blobs piece = if piece.space == blob_space then out_at blobs piece.dir else []

-- lists of names are plain data
pub names_set : IsSet (List (List ℕ))
names_set = is_set (is_set ℕ_set)
