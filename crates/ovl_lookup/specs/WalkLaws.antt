-- Laws of walks in one layer: how they go on with one more name, where they end, and what they
-- keep.
use Rattle.std.specs.Prelude.{◌≡◌, Bool, true, false, ◌||◌, Option, Some, None, ◌∷◌, ◌++◌, is_some}
use Rattle.ovl_names.specs.Names.{PathName}
use Rattle.ovl_names.specs.Paths.{PathNames, child_path, is_root, has_names}
use Rattle.ovl_inode.specs.declared.inodes.Inode.{Inode}
use Rattle.ovl_inode.specs.Marks.{mark_of, is_directory, is_metacopy}
use Rattle.ovl_layer.specs.Layers.{Entries, IsLayer, entry_at, is_directory_at}
use Rattle.ovl_lookup.specs.Walk.{walk, walk_beyond, nothing_found}
use Rattle.ovl_lookup.specs.Passes.{entered_path, entered_closed}

-- a walk goes on into a directory by the mark of that: where the layers below have it, and whether
-- they are closed
abbrev pub WalksEnter : Type 0
WalksEnter =
    (layer : Entries) (path : PathNames) (name : PathName) → IsLayer layer → (inode : Inode) →
    entry_at layer (child_path path name) ≡ Some inode → is_directory inode ≡ true →
    walk layer (child_path path name) ≡ record {
      found = Some inode;
      next = entered_path (mark_of inode) (walk layer path).next name;
      closed = entered_closed (mark_of inode) (walk layer path).closed;
    }

-- a walk ends at the first name in a directory that is no directory, by what is there
abbrev pub WalksEnd : Type 0
WalksEnd =
    (layer : Entries) (path : PathNames) (name : PathName) → IsLayer layer → (rest : PathNames) →
    is_directory_at layer path ≡ true → is_directory_at layer (child_path path name) ≡ false →
    walk layer (path ++ name ∷ rest)
    ≡ walk_beyond (entry_at layer (child_path path name)) (walk layer path).next
    (walk layer path).closed name rest

-- past such a name nothing is found: all names are kept after the directory's next path, and what
-- is at it hides the layers below
abbrev pub WalksPass : Type 0
WalksPass =
    (layer : Entries) (path : PathNames) (name other : PathName) → IsLayer layer
    → (rest : PathNames) →
    is_directory_at layer path ≡ true → is_directory_at layer (child_path path name) ≡ false →
    walk layer (path ++ name ∷ other ∷ rest)
    ≡ nothing_found ((walk layer path).next ++ name ∷ other ∷ rest)
    ((walk layer path).closed || is_some (entry_at layer (child_path path name)))

-- a directory, or nothing
abbrev pub is_directory_or_none : Option Inode → Bool
is_directory_or_none None = true
is_directory_or_none (Some inode) = is_directory inode

-- where a walk finds nothing and is open with one more name, it is open without it and finds a
-- directory or nothing, and the name is kept
pub record PassesOver (layer : Entries) (path : PathNames) (name : PathName) : Type 0 where
  pub opened : (walk layer path).closed ≡ false
  pub next : (walk layer (child_path path name)).next ≡ child_path (walk layer path).next name
  pub passed : is_directory_or_none (walk layer path).found ≡ true

abbrev pub WalksPassOver : Type 0
WalksPassOver = (layer : Entries) (path : PathNames) (name : PathName) → IsLayer layer →
    (walk layer (child_path path name)).found ≡ None
    → (walk layer (child_path path name)).closed ≡ false → PassesOver layer path name

-- a file that is no metacopy file closes its walk
abbrev pub FilesClose : Type 0
FilesClose = (layer : Entries) (path : PathNames) (inode : Inode) → IsLayer layer →
    (walk layer path).found ≡ Some inode → is_directory inode ≡ false → is_metacopy inode ≡ false
    → (walk layer path).closed ≡ true

-- where the walk of a path goes on, there are only names, and not the root unless it is the root's
-- walk
abbrev pub WalksKeepNames : Type 0
WalksKeepNames =
    (layer : Entries) (path : PathNames) → has_names path ≡ true
    → has_names (walk layer path).next ≡ true

abbrev pub WalksStayBelowRoot : Type 0
WalksStayBelowRoot =
    (layer : Entries) (path : PathNames) → is_root path ≡ false
    → is_root (walk layer path).next ≡ false
