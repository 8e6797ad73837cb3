-- A layer as a finite map from paths to inodes: the list of its entries in path order.
use Rattle.std.specs.Prelude.{◌≡◌, ℕ, Bool, true, false, ◌||◌, ◌&&◌, not, Option, Some, None, List, [], ◌∷◌, if◌then◌else◌, length, nat_le}
use Rattle.std.specs.Map.{lookup}
use Rattle.std.specs.List.{list_all, filter_map}
use Rattle.std.specs.declared.cmp.Ordering.{Ordering}
use Rattle.ovl_names.specs.Names.{PathName, name_eq}
use Rattle.ovl_names.specs.Order.{ascends}
use Rattle.ovl_names.specs.Paths.{PathNames, path_eq, path_cmp, path_text, parent_path, is_root, has_names, depth_limit, text_limit}
use Rattle.ovl_inode.specs.declared.inodes.Inode.{Inode}
use Rattle.ovl_inode.specs.Attributes.{has_escaped_name}
use Rattle.ovl_inode.specs.Marks.{is_directory}
use Rattle.ovl_inode.specs.Sound.{is_sound_inode}

-- an entry: its path and its inode
abbrev pub Entry : Type 0
Entry = PathNames × Inode

-- the entries of a layer, in path order
abbrev pub Entries : Type 0
Entries = List Entry

-- entries are ordered by their paths
abbrev pub entry_cmp : Entry → Entry → Ordering
entry_cmp one other = path_cmp one.0 other.0

-- the inode at a path
abbrev pub entry_at : Entries → PathNames → Option Inode
entry_at layer path = lookup (path_eq path) layer

-- a directory is at the path
abbrev pub is_directory_at : Entries → PathNames → Bool
is_directory_at layer path =
    elim (entry_at layer path) [ Some inode ↦ is_directory inode | None ↦ false ]

-- the name of `path` where it lies directly below `directory`
abbrev pub name_below : PathNames → PathNames → Option PathName
name_below [] [] = None
name_below [] (name ∷ []) = Some name
name_below [] (name ∷ other ∷ names) = None
name_below (first ∷ directory) [] = None
name_below (first ∷ directory) (name ∷ names) =
    if name_eq first name then name_below directory names else None

-- the names directly below a path, in order
abbrev pub names_below : Entries → PathNames → List PathName
names_below layer directory = filter_map (λ entry. name_below directory entry.0) layer

-- the most entries of a layer
abbrev pub entry_limit : ℕ
entry_limit = 1048576

-- the path has no more names, and its text no more bytes, than a manifest may state
abbrev pub is_within_limits : PathNames → Bool
is_within_limits path =
    nat_le (length path) depth_limit && nat_le (length (path_text path)) text_limit

-- the entry's directory is in the layer; the root has none
abbrev pub has_parent : Entries → PathNames → Bool
has_parent layer path = is_root path || is_directory_at layer (parent_path path)

-- these entries are a layer: a finite map, closed under parents, of names, sound inodes and limits
pub record IsLayer (layer : Entries) : Type 0 where
  pub in_order : ascends entry_cmp layer ≡ true
  pub rooted : is_directory_at layer [] ≡ true
  pub closed : list_all (λ entry. has_parent layer entry.0) layer ≡ true
  pub named : list_all (λ entry. has_names entry.0) layer ≡ true
  pub sound : list_all (λ entry. is_sound_inode entry.1) layer ≡ true
  pub unescaped : list_all (λ entry. not (has_escaped_name entry.1.attrs)) layer ≡ true
  pub limited : list_all (λ entry. is_within_limits entry.0) layer ≡ true
  pub counted : nat_le (length layer) entry_limit ≡ true
