-- What a new layer has at each path, given directory by directory.
use Rattle.std.specs.Prelude.{◌≡◌, ◌≤◌, ℕ, Bool, true, false, ◌==◌, not, Option, Some, None, List, [], length, map}
use Rattle.std.specs.Option.{option_map}
use Rattle.std.specs.List.{count_by, list_any, filter_map}
use Rattle.std.specs.Map.{lookup}
use Rattle.ovl_names.specs.Names.{PathName, name_eq, name_cmp}
use Rattle.ovl_names.specs.Order.{ascends}
use Rattle.ovl_names.specs.Paths.{PathNames, child_path}
use Rattle.ovl_inode.specs.declared.inodes.Inode.{Inode}
use Rattle.ovl_inode.specs.Marks.{is_directory}
use Rattle.ovl_layer.specs.Layers.{Entries, entry_at}
use Rattle.ovl_board.specs.declared.pieces.Piece.{Piece}
use Rattle.ovl_board.specs.Pieces.{space_root}
use Rattle.ovl_board.specs.Parcels.{IsPlain}
use Rattle.ovl_rewrite.specs.Directories.{NamedInode, directories_among, visited_kids}
use Rattle.ovl_rewrite.specs.Passes.{TreeEntries, InodesParcel, tree_kids, tree_out}

-- a new layer: what it has at each path
abbrev pub NewLayer : Type 0
NewLayer = PathNames → Option Inode

-- the entries have at each path what the new layer has
abbrev pub IsOf : NewLayer → Entries → Type 0
IsOf new entries = (path : PathNames) → entry_at entries path ≡ new path

-- it has a directory at a path
abbrev pub is_directory_found : Option Inode → Bool
is_directory_found found = elim found [ Some inode ↦ is_directory inode | None ↦ false ]

abbrev pub has_directory : NewLayer → PathNames → Bool
has_directory new path = is_directory_found (new path)

-- the entries of a directory: each name that has an entry in it once, in order, with its inode
pub record AreEntriesOf (new : NewLayer) (directory : PathNames)
    (entries : List NamedInode) : Type 0 where
  pub in_order : ascends name_cmp (map (λ entry. entry.0) entries) ≡ true
  pub same : (name : PathName) → lookup (name_eq name) entries ≡ new (child_path directory name)

-- a work's visits give a new layer: a piece puts out the entries of its directory, and its kids are
-- those of them that are directories
pub record TellsLayer (new : NewLayer) (kids : Piece → List Piece)
    (out : Piece → List NamedInode) : Type 0 where
  pub output : (piece : Piece) → AreEntriesOf new piece.dir (out piece)
  pub directories : (piece : Piece) → kids piece ≡ directories_among piece (out piece)

-- its tree by the names that may have an entry in each directory
abbrev pub named_entry : NewLayer → PathNames → PathName → Option NamedInode
named_entry new directory name =
    option_map (λ inode. (name, inode)) (new (child_path directory name))

abbrev pub tree_by : NewLayer → (PathNames → List PathName) → TreeEntries
tree_by new names directory = filter_map (named_entry new directory) (names directory)

-- these names are in order, and each entry of a directory has one of them; what has an entry in it
-- is a directory, and no directory has more than `deepest` names
pub record AreNamesOf (new : NewLayer) (names : PathNames → List PathName)
    (deepest : ℕ) : Type 0 where
  pub in_order : (directory : PathNames) → ascends name_cmp (names directory) ≡ true
  pub named : (directory : PathNames) (name : PathName) (inode : Inode)
      → new (child_path directory name) ≡ Some inode
      → list_any (name_eq name) (names directory) ≡ true
  pub closed : (directory : PathNames) (name : PathName) (inode : Inode)
      → new (child_path directory name) ≡ Some inode → has_directory new directory ≡ true
  pub shallow : (directory : PathNames) → has_directory new directory ≡ true
      → length directory ≤ deepest

-- parcels give a new layer with this root: they are the plain walk over its directories
pub record IsToldBy (new : NewLayer) (root : Inode) (views : List InodesParcel) : Type 0 where
  pub names : PathNames → List PathName
  pub deepest : ℕ
  pub told : AreNamesOf new names deepest
  pub rooted : new [] ≡ Some root
  pub walk : IsPlain (tree_kids (tree_by new names)) (tree_out (tree_by new names)) (space_root 0)
      views

-- parcels are the plain walk over those directories of a new layer that a manifest can hold
abbrev pub IsWalkWithin : (Piece → List Piece) → (Piece → List NamedInode) → List InodesParcel
    → Type 0
IsWalkWithin kids out views = IsPlain (visited_kids kids) out (space_root 0) views

-- parcels give it so
pub record IsToldWithin (new : NewLayer) (root : Inode) (views : List InodesParcel) : Type 0 where
  pub names : PathNames → List PathName
  pub deepest : ℕ
  pub told : AreNamesOf new names deepest
  pub rooted : new [] ≡ Some root
  pub walk : IsWalkWithin (tree_kids (tree_by new names)) (tree_out (tree_by new names)) views

-- a directory was left out at a directory: not each of those in it is a kid
abbrev pub leaves_out : InodesParcel → Bool
leaves_out view =
    not (length view.kids == count_by (λ entry. is_directory entry.1) view.seen)
