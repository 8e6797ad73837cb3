-- The members of an entry in a manifest, and the values that they state.
use Rattle.std.specs.Prelude.{ℕ, ◌+◌, ◌^◌, ◌-◌, ℤ, Bool, false, ◌&&◌, ◌==◌, Option, Some, None, List, [], ◌∷◌, ◌++◌, if◌then◌else◌, length, codes, nat_le, is_some, is_none, option_and_then}
use Rattle.std.specs.Option.{option_map}
use Rattle.std.specs.List.{list_all}
use Rattle.std.specs.Str.{bytes_eq}
use Rattle.serde_json.specs.Data.{Data, object, Members, no_members, member}
use Rattle.serde_json.specs.Find.{get, as_number, as_u64, as_i64, as_str}
use Rattle.ovl_names.specs.Paths.{PathNames, path_fault, text_parts}
use Rattle.ovl_inode.specs.declared.inodes.Inode.{Inode}
use Rattle.ovl_inode.specs.declared.inodes.Kind.{Kind}
use Rattle.ovl_inode.specs.declared.inodes.Kind.TheVariants.{Dir, File, Symlink, Char, Block, Fifo, Socket}
use Rattle.ovl_inode.specs.Attributes.{Attributes, is_attribute_name, with_attribute}
use Rattle.ovl_inode.specs.Hexadecimal.{bytes_of_digits, digest_of_text}
use Rattle.ovl_inode.specs.Sound.{is_sound_inode, mode_limit, nsec_limit, size_limit}
use Rattle.ovl_manifest.specs.declared.versions.Version.{Version}
use Rattle.ovl_manifest.specs.declared.versions.Version.TheVariants.{One, Two}
use Rattle.ovl_layer.specs.Layers.{Entry}
use Rattle.ovl_manifest.specs.Versions.{depth_of, common_members}

abbrev pub member_count : Members → ℕ
member_count no_members = 0
member_count (member name value members) = 1 + member_count members

-- an object has these members, each of another name, and no more
abbrev pub has_count : ℕ → Data → Bool
has_count count (object members) = member_count members == count
has_count count _ = false

abbrev pub has_exactly : List (List ℕ) → Data → Bool
has_exactly names value =
    has_count (length names) value && list_all (λ name. is_some (get name value)) names

-- a text
abbrev pub text_field : List ℕ → Data → Option (List ℕ)
text_field name value = option_and_then as_str (get name value)

-- a whole number from 0 to a limit
abbrev pub up_to : ℕ → ℕ → Option ℕ
up_to limit n = if nat_le n limit then Some n else None

abbrev pub natural_field : List ℕ → ℕ → Data → Option ℕ
natural_field name limit value =
    option_and_then (up_to limit)
    (option_and_then as_u64 (option_and_then as_number (get name value)))

-- whole seconds of 64 bits with a sign
abbrev pub seconds_field : List ℕ → Data → Option ℤ
seconds_field name value = option_and_then as_i64 (option_and_then as_number (get name value))

-- nanoseconds past a second: 0 in the first version, which has no member for them
abbrev pub nsec_field : Version → Data → Option ℕ
nsec_field One value = Some 0
nsec_field Two value = natural_field (codes "mtime-nsec") nsec_limit value

-- the path that a text spells
abbrev pub path_of_text : Version → List ℕ → Option PathNames
path_of_text version text =
    if is_none (path_fault (depth_of version) text) then Some (text_parts text) else None

abbrev pub path_field : Version → Data → Option PathNames
path_field version value = option_and_then (path_of_text version) (text_field (codes "path") value)

-- the attributes that an object states: for each name, a value in lower-case hexadecimal digits
abbrev pub attribute_after : Attributes → List ℕ → Data → Option Attributes
attribute_after attrs name value =
    option_and_then
    (λ bytes. if is_attribute_name name then Some (with_attribute attrs name bytes) else None)
    (option_and_then bytes_of_digits (as_str value))

abbrev pub attributes_after : Attributes → Members → Option Attributes
attributes_after attrs no_members = Some attrs
attributes_after attrs (member name value members) =
    option_and_then (λ more. attributes_after more members) (attribute_after attrs name value)

abbrev pub attributes_of : Data → Option Attributes
attributes_of (object members) = attributes_after [] members
attributes_of _ = None

abbrev pub attributes_field : Data → Option Attributes
attributes_field value = option_and_then attributes_of (get (codes "xattrs") value)

-- a file's blob: none where the member is absent, else the digest that it spells
abbrev pub blob_of : Data → Option (Option (List ℕ))
blob_of value = option_map (λ digest. Some digest) (option_and_then digest_of_text (as_str value))

abbrev pub blob_field : Data → Option (Option (List ℕ))
blob_field value = elim (get (codes "blob") value) [ None ↦ Some None | Some blob ↦ blob_of blob ]

-- the kind that an object states
abbrev pub file_kind : Data → Option Kind
file_kind value =
    option_and_then
    (λ size. option_map (λ blob. File size blob) (blob_field value))
    (natural_field (codes "size") size_limit value)

abbrev pub numbers_kind : (ℕ → ℕ → Kind) → Data → Option Kind
numbers_kind made value =
    option_and_then
    (λ major.
    option_map (λ minor. made major minor) (natural_field (codes "minor") (2 ^ 32 - 1) value))
    (natural_field (codes "major") (2 ^ 32 - 1) value)

abbrev pub kind_named : Data → List ℕ → Option Kind
kind_named value name =
    if bytes_eq name (codes "dir") then Some Dir
    else if bytes_eq name (codes "file") then file_kind value
    else if bytes_eq name (codes "symlink")
    then option_map (λ target. Symlink target) (text_field (codes "target") value)
    else if bytes_eq name (codes "char") then numbers_kind (λ major minor. Char major minor) value
    else if bytes_eq name (codes "block") then numbers_kind (λ major minor. Block major minor) value
    else if bytes_eq name (codes "fifo") then Some Fifo
    else if bytes_eq name (codes "socket") then Some Socket
    else None

abbrev pub kind_field : Data → Option Kind
kind_field value = option_and_then (kind_named value) (text_field (codes "kind") value)

-- the members that only entries of a kind have, and all that they have
abbrev pub own_members : Kind → List (List ℕ)
own_members Dir = []
own_members (File size None) = codes "size" ∷ []
own_members (File size (Some blob)) = codes "blob" ∷ codes "size" ∷ []
own_members (Symlink target) = codes "target" ∷ []
own_members (Char major minor) = codes "major" ∷ codes "minor" ∷ []
own_members (Block major minor) = codes "major" ∷ codes "minor" ∷ []
own_members Fifo = []
own_members Socket = []

abbrev pub kind_members : Version → Kind → List (List ℕ)
kind_members version kind = own_members kind ++ common_members version

-- the inode that an object states
abbrev pub inode_with : Version → Kind → Attributes → Data → Option Inode
inode_with version kind attrs value =
    option_and_then (λ mode. option_and_then (λ uid. option_and_then (λ gid.
    option_and_then (λ mtime. option_map (λ nsec.
    record {
      kind = kind;
      mode = mode;
      uid = uid;
      gid = gid;
      mtime = mtime;
      nsec = nsec;
      attrs = attrs;
    })
    (nsec_field version value))
    (seconds_field (codes "mtime") value))
    (natural_field (codes "gid") (2 ^ 32 - 1) value))
    (natural_field (codes "uid") (2 ^ 32 - 1) value))
    (natural_field (codes "mode") mode_limit value)

abbrev pub inode_field : Version → Data → Option Inode
inode_field version value =
    option_and_then
    (λ kind.
    option_and_then (λ attrs. inode_with version kind attrs value) (attributes_field value))
    (kind_field value)

-- an entry's object has exactly the members of its kind, and its inode is sound
abbrev pub is_entry : Version → Data → Inode → Bool
is_entry version value inode =
    has_exactly (kind_members version inode.kind) value && is_sound_inode inode

abbrev pub entry_with : Version → Data → PathNames → Inode → Option Entry
entry_with version value path inode =
    if is_entry version value inode then Some (path, inode) else None

-- the entry that a value states
abbrev pub entry_of : Version → Data → Option Entry
entry_of version value =
    option_and_then
    (λ path. option_and_then (entry_with version value path) (inode_field version value))
    (path_field version value)
