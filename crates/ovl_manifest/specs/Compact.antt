-- The text of a layer as it is written, piece by piece, for private clauses.
use Rattle.std.specs.Prelude.{◌≡◌, ℕ, ℤ, Bool, true, Option, Some, None, List, [], ◌∷◌, ◌++◌, codes, decimal}
use Rattle.std.specs.Fmt.{signed_decimal}
use Rattle.hex.specs.Hex.{encode_lower}
use Rattle.json.specs.Print.{quoted}
use Rattle.serde_json.specs.Data.{object}
use Rattle.serde_json.specs.Written.{comma_if, compact_text}
use Rattle.ovl_inode.specs.declared.digests.Digest.{Digest}
use Rattle.ovl_inode.specs.declared.inodes.Inode.{Inode}
use Rattle.ovl_inode.specs.declared.inodes.Kind.{Kind}
use Rattle.ovl_inode.specs.declared.inodes.Kind.TheVariants.{Dir, File, Symlink, Char, Block, Fifo, Socket}
use Rattle.ovl_inode.specs.Attributes.{Attributes}
use Rattle.ovl_inode.specs.Kinds.{kind_word}
use Rattle.ovl_layer.specs.Layers.{Entries}
use Rattle.ovl_manifest.specs.Text.{attribute_members, entry_value}
use Rattle.ovl_manifest.specs.declared.compact_entries.Front.{Front}
use Rattle.ovl_manifest.specs.declared.compact_entries.Word.{Word}
use Rattle.ovl_manifest.specs.declared.compact_entries.Word.TheVariants as word

-- how an entry begins: its blob, if it has one, and its group
abbrev pub group_text : Option Digest → ℕ → List ℕ
group_text None gid = codes "{\"gid\":" ++ decimal gid
group_text (Some blob) gid =
    codes "{\"blob\":" ++ (quoted (encode_lower blob) ++ (codes ",\"gid\":" ++ decimal gid))

-- the members that a kind has between `kind` and `mode`
abbrev pub device_text : Option (ℕ × ℕ) → List ℕ
device_text None = []
device_text (Some numbers) =
    codes ",\"major\":" ++ (decimal numbers.0 ++ (codes ",\"minor\":" ++ decimal numbers.1))

-- how an entry begins that has a blob
abbrev pub blob_text : Option Digest → List ℕ
blob_text None = []
blob_text (Some blob) = codes "{\"blob\":" ++ quoted (encode_lower blob)

-- the members that say a time, and what follows them
abbrev pub time_text : ℤ → ℕ → List ℕ → List ℕ
time_text seconds nsec rest =
    codes ",\"mtime\":" ++ (signed_decimal seconds
    ++ (codes ",\"mtime-nsec\":" ++ (decimal nsec ++ rest)))

-- the members that a kind has between `path` and `uid`
abbrev pub contents_text : Kind → List ℕ
contents_text (File size blob) = codes ",\"size\":" ++ decimal size
contents_text (Symlink target) = codes ",\"target\":" ++ quoted target
contents_text _ = []

-- of these the size of a file, and the target of a symlink
abbrev pub size_text : Kind → List ℕ
size_text (File size blob) = codes ",\"size\":" ++ decimal size
size_text _ = []

abbrev pub target_text : Kind → List ℕ
target_text (Symlink target) = codes ",\"target\":" ++ quoted target
target_text _ = []

abbrev pub blob_of_kind : Kind → Option Digest
blob_of_kind (File size blob) = blob
blob_of_kind _ = None

abbrev pub device_of_kind : Kind → Option (ℕ × ℕ)
device_of_kind (Char major minor) = Some (major, minor)
device_of_kind (Block major minor) = Some (major, minor)
device_of_kind _ = None

-- the text of a word, and the numbers that are after it
abbrev pub word_name : Word → List ℕ
word_name word.Dir = codes "dir"
word_name word.File = codes "file"
word_name word.Symlink = codes "symlink"
word_name (word.Char major minor) = codes "char"
word_name (word.Block major minor) = codes "block"
word_name word.Fifo = codes "fifo"
word_name word.Socket = codes "socket"

abbrev pub device_of_word : Word → Option (ℕ × ℕ)
device_of_word (word.Char major minor) = Some (major, minor)
device_of_word (word.Block major minor) = Some (major, minor)
device_of_word _ = None

-- the same up to the mode, which follows them
abbrev pub word_text : Word → List ℕ → List ℕ
word_text word mode =
    codes ",\"kind\":" ++ (quoted (word_name word)
    ++ (device_text (device_of_word word) ++ (codes ",\"mode\":" ++ mode)))

-- the word of a kind and the numbers of a device, and what follows them
abbrev pub kind_text : Kind → List ℕ → List ℕ
kind_text kind rest =
    codes ",\"kind\":" ++ (quoted (kind_word kind) ++ (device_text (device_of_kind kind) ++ rest))

-- what an entry has between its blob and the text of its path
abbrev pub gid_name : Option Digest → List ℕ
gid_name None = codes "{\"gid\":"
gid_name (Some blob) = codes ",\"gid\":"

abbrev pub front_text : Inode → List ℕ
front_text inode =
    gid_name (blob_of_kind inode.kind) ++ (decimal inode.gid ++ kind_text inode.kind
    (codes ",\"mode\":" ++ (decimal inode.mode ++ (codes ",\"mtime\":"
    ++ (signed_decimal inode.mtime ++ (codes ",\"mtime-nsec\":" ++ (decimal inode.nsec
    ++ codes ",\"path\":")))))))

-- what an entry has before its path, and the path's text and what follows it
abbrev pub before_path : Front → List ℕ → List ℕ
before_path front path =
    group_text front.blob front.gid
    ++ word_text front.word (decimal front.mode
    ++ time_text front.mtime front.nsec (codes ",\"path\":" ++ path))

-- what an entry has after its path and its contents, and what follows it
abbrev pub back_text : ℕ → Attributes → List ℕ → List ℕ
back_text uid attrs rest =
    codes ",\"uid\":" ++ (decimal uid ++ (codes ",\"xattrs\":"
    ++ (compact_text (object (attribute_members attrs)) ++ (codes "}" ++ rest))))

-- the kind has this word and blob
abbrev pub word_of_kind : Kind → Word
word_of_kind Dir = word.Dir
word_of_kind (File size blob) = word.File
word_of_kind (Symlink target) = word.Symlink
word_of_kind (Char major minor) = word.Char major minor
word_of_kind (Block major minor) = word.Block major minor
word_of_kind Fifo = word.Fifo
word_of_kind Socket = word.Socket

pub record IsKindOf (word : Word) (blob : Option Digest) (kind : Kind) : Type 0 where
  pub same_word : word_of_kind kind ≡ word
  pub same_blob : blob_of_kind kind ≡ blob

-- an attribute, and attributes one after another, the first after a comma if others come `before`
abbrev pub attribute_text : List ℕ × List ℕ → List ℕ
attribute_text attr = quoted attr.0 ++ 58 ∷ quoted (encode_lower attr.1)

abbrev pub attributes_text : Bool → Attributes → List ℕ
attributes_text before [] = []
attributes_text before (attr ∷ attrs) =
    comma_if before ++ (attribute_text attr ++ attributes_text true attrs)

-- the text begins with an attribute, which is put after the others
pub record TakesAttribute (text : List ℕ) (attrs : Attributes) (rest : List ℕ)
    (more : Attributes) : Type 0 where
  pub attr : List ℕ × List ℕ
  pub first : text ≡ attribute_text attr ++ rest
  pub behind : more ≡ attrs ++ attr ∷ []

-- the same of entries
abbrev pub entries_text : Bool → Entries → List ℕ
entries_text before [] = []
entries_text before (entry ∷ entries) =
    comma_if before ++ (compact_text (entry_value entry) ++ entries_text true entries)
