-- The merged tree of a stack.
use Rattle.std.specs.Prelude.{◌≡◌, ◌≢◌, Bool, true, false, ◌&&◌, not, Option, Some, None, List, [], ◌∷◌, if◌then◌else◌}
use Rattle.std.specs.Map.{lookup}
use Rattle.std.specs.List.{list_any, list_all, find, filter_map}
use Rattle.std.specs.declared.cmp.Ordering.{Ordering}
use Rattle.ovl_names.specs.Order.{ascends}
use Rattle.ovl_names.specs.Names.{PathName, name_eq, name_cmp}
use Rattle.ovl_names.specs.Paths.{PathNames, child_path, path_eq, path_cmp}
use Rattle.ovl_inode.specs.declared.inodes.Inode.{Inode}
use Rattle.ovl_inode.specs.declared.inodes.Kind.{Kind}
use Rattle.ovl_inode.specs.declared.inodes.Kind.TheVariants.{File}
use Rattle.ovl_inode.specs.declared.marks.Mark.{Mark}
use Rattle.ovl_inode.specs.declared.marks.Mark.TheVariants.{Meta}
use Rattle.ovl_inode.specs.declared.marks.Redirect.TheVariants.{To}
use Rattle.ovl_inode.specs.Marks.{mark_of, is_regular, is_directory, is_whiteout, has_metacopy, is_metacopy, is_data}
use Rattle.ovl_inode.specs.Inodes.{visible}
use Rattle.ovl_layer.specs.Layers.{Entries, entry_at}
use Rattle.ovl_lookup.specs.declared.looks.Look.{Look}
use Rattle.ovl_lookup.specs.declared.looks.Look.TheVariants.{Nothing, Shown, Broken}
use Rattle.ovl_lookup.specs.Stacks.{StackView}
use Rattle.ovl_lookup.specs.Trace.{things_found, hits_of}

-- the last of these
abbrev pub last_of : List Inode → Option Inode
last_of [] = None
last_of (inode ∷ []) = Some inode
last_of (inode ∷ other ∷ inodes) = last_of (other ∷ inodes)

-- a full file: a regular file with its contents itself, and no whiteout
abbrev pub is_full_file : Inode → Bool
is_full_file inode = is_data inode && not (is_whiteout inode)

-- the first full file that data-only layers have at a path
abbrev pub full_file_in : List Entries → PathNames → Option Inode
full_file_in data_only path =
    find is_full_file (filter_map (λ layer. entry_at layer path) data_only)

-- where data-only layers have the data of a metacopy file: at its absolute redirect
abbrev pub place_of_data : Mark → Option PathNames
place_of_data (Meta (Some (To place))) = Some place
place_of_data _ = None

-- the full file at that place, where there is one
abbrev pub data_at_place : List Entries → Option PathNames → Option Inode
data_at_place data_only None = None
data_at_place data_only (Some place) = full_file_in data_only place

-- that place by the last of the things found
abbrev pub last_place : List Inode → Option PathNames
last_place found = elim (last_of found) [ Some inode ↦ place_of_data (mark_of inode) | None ↦ None ]

-- the same if they are only metacopy files
abbrev pub place_told : List Inode → Option PathNames
place_told found = if list_all is_metacopy found then last_place found else None

-- the data of the things found: if they are only metacopy files, what data-only layers have
-- where the last one says; else the last hit, where that is a regular file without `metacopy`;
-- overlayfs.rst, "Metadata only copy up" and "Data-only lower layers"
abbrev pub data_of : List Entries → List Inode → Option Inode
data_of data_only found =
    if list_all is_metacopy found then data_at_place data_only (last_place found)
    else elim (last_of (hits_of found))
    [ Some inode ↦ (if is_data inode then Some inode else None) | None ↦ None ]

-- a kind with its own size and no blob
abbrev pub without_blob : Kind → Kind
without_blob (File size blob) = File size None
without_blob kind = kind

-- what is shown of the things found: the visible inode of the first, a metacopy file with its data
-- (overlayfs.rst, "Metadata only copy up"), or broken with its own size and no blob; that the size
-- is that of the data, and what is broken, are this profile's
abbrev pub shown_of : List Entries → List Inode → Look
shown_of data_only [] = Nothing
shown_of data_only (inode ∷ below) =
    if is_regular inode && has_metacopy inode
    then elim (data_of data_only (inode ∷ below)) [
      | Some contents ↦ Shown (record (visible inode) { kind = contents.kind })
      | None ↦ Broken (record (visible inode) { kind = without_blob inode.kind })
    ]
    else Shown (visible inode)

-- what a stack shows at a path
abbrev pub look : StackView → PathNames → Look
look stack path = shown_of stack.data_only (things_found stack.layers path)

abbrev pub is_nothing : Look → Bool
is_nothing Nothing = true
is_nothing _ = false

-- the stack shows something at a path, or a directory
abbrev pub shows : StackView → PathNames → Bool
shows stack path = not (is_nothing (look stack path))

abbrev pub is_shown_directory : Look → Bool
is_shown_directory (Shown inode) = is_directory inode
is_shown_directory _ = false

abbrev pub shows_directory : StackView → PathNames → Bool
shows_directory stack path = is_shown_directory (look stack path)

-- the names in a directory of the merged tree, in order: each name below which something is shown
pub record AreKids (stack : StackView) (path : PathNames) (names : List PathName) : Type 0 where
  pub in_order : ascends name_cmp names ≡ true
  pub same : (name : PathName) → list_any (name_eq name) names ≡ shows stack (child_path path name)

-- what is at a path of a list of looks
abbrev pub look_cmp : PathNames × Look → PathNames × Look → Ordering
look_cmp one other = path_cmp one.0 other.0

abbrev pub look_at : List (PathNames × Look) → PathNames → Look
look_at looks path = elim (lookup (path_eq path) looks) [ Some found ↦ found | None ↦ Nothing ]

-- the merged tree as a list: each path at which something is shown once, in path order, with what
-- is shown there
pub record IsMerged (stack : StackView) (looks : List (PathNames × Look)) : Type 0 where
  pub in_order : ascends look_cmp looks ≡ true
  pub same : (path : PathNames) → look_at looks path ≡ look stack path
  pub shown : (path : PathNames) → lookup (path_eq path) looks ≢ Some Nothing
