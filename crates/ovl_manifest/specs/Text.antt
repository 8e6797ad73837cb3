-- The text of a layer as a manifest: compact JSON whose objects have their members in the order of
-- their names.
use Rattle.std.specs.Prelude.{ℕ, Option, Some, None, List, [], ◌∷◌, ◌++◌, codes}
use Rattle.hex.specs.Hex.{encode_lower}
use Rattle.serde_json.specs.Data.{Data, number, string, array, object, unsigned, Items, no_items, item, Members, no_members, put}
use Rattle.serde_json.specs.Find.{of_integer}
use Rattle.serde_json.specs.Written.{compact_text}
use Rattle.ovl_names.specs.Paths.{path_text}
use Rattle.ovl_inode.specs.declared.digests.Digest.{Digest}
use Rattle.ovl_inode.specs.declared.inodes.Kind.{Kind}
use Rattle.ovl_inode.specs.declared.inodes.Kind.TheVariants.{Dir, File, Symlink, Char, Block, Fifo, Socket}
use Rattle.ovl_inode.specs.Attributes.{Attributes}
use Rattle.ovl_inode.specs.Kinds.{kind_word}
use Rattle.ovl_layer.specs.Layers.{Entry, Entries}
use Rattle.ovl_manifest.specs.Versions.{version_number, written}

-- a whole number, and bytes as lower-case hexadecimal digits
abbrev pub whole : ℕ → Data
whole n = number (unsigned n)

abbrev pub hexadecimal : List ℕ → Data
hexadecimal bytes = string (encode_lower bytes)

-- the members with those that only entries of a kind have
abbrev pub with_blob : Option Digest → Members → Members
with_blob None members = members
with_blob (Some blob) members = put (codes "blob") (hexadecimal blob) members

abbrev pub with_numbers : ℕ → ℕ → Members → Members
with_numbers major minor members =
    put (codes "minor") (whole minor) (put (codes "major") (whole major) members)

abbrev pub with_kind : Kind → Members → Members
with_kind Dir members = members
with_kind (File size blob) members = with_blob blob (put (codes "size") (whole size) members)
with_kind (Symlink target) members = put (codes "target") (string target) members
with_kind (Char major minor) members = with_numbers major minor members
with_kind (Block major minor) members = with_numbers major minor members
with_kind Fifo members = members
with_kind Socket members = members

-- the attributes, each value under its name
abbrev pub attribute_members : Attributes → Members
attribute_members [] = no_members
attribute_members (attr ∷ attrs) = put attr.0 (hexadecimal attr.1) (attribute_members attrs)

-- the members that entries of all kinds have
abbrev pub common_members : Entry → Members
common_members entry =
    let inode = entry.1 in
    put (codes "xattrs") (object (attribute_members inode.attrs))
    (put (codes "uid") (whole inode.uid)
    (put (codes "path") (string (path_text entry.0))
    (put (codes "mtime-nsec") (whole inode.nsec)
    (put (codes "mtime") (number (of_integer inode.mtime))
    (put (codes "mode") (whole inode.mode)
    (put (codes "kind") (string (kind_word inode.kind))
    (put (codes "gid") (whole inode.gid) no_members)))))))

-- the value of an entry, and of a layer, in the version that is written
abbrev pub entry_value : Entry → Data
entry_value entry = object (with_kind entry.1.kind (common_members entry))

abbrev pub entry_items : Entries → Items
entry_items [] = no_items
entry_items (entry ∷ entries) = item (entry_value entry) (entry_items entries)

abbrev pub layer_value : Entries → Data
layer_value layer =
    object (put (codes "overlay-layer") (whole (version_number written))
    (put (codes "entries") (array (entry_items layer)) no_members))

-- the text that is written of a layer: that of its value, and a newline
abbrev pub manifest_text : Entries → List ℕ
manifest_text layer = compact_text (layer_value layer) ++ codes "\n"
