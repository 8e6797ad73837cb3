-- The directories of the topmost layer as work: a piece is a directory, its kids are the
-- directories in it, and its output is each name in it with whether its entry is idle.
use Rattle.std.specs.Prelude.{◌≡◌, Bool, true, false, Some, None, List, map, filter, Vec}
use Rattle.std.specs.Global.{Global}
use Rattle.std.specs.Coded.{Coded-set, codes}
use Rattle.std.specs.Option.{option_map}
use Rattle.std.specs.Map.{lookup}
use Rattle.ovl_names.specs.Names.{PathName, name_eq, name_cmp}
use Rattle.ovl_names.specs.Order.{ascends}
use Rattle.ovl_names.specs.Paths.{PathNames, child_path}
use Rattle.ovl_layer.specs.Layers.{entry_at, is_directory_at, names_below}
use Rattle.ovl_lookup.specs.Stacks.{StackView}
pub use Rattle.ovl_lookup.specs.Words.{top_layer, lower_layers}
use Rattle.ovl_board.specs.declared.pieces.Piece.{Piece}
use Rattle.ovl_board.specs.Pieces.{space_root, piece_in}
use Rattle.ovl_board.specs.Parcels.{ParcelView, IsPlain}
use Rattle.ovl_vacuum.specs.Vacuum.{is_idle}

-- the entry at a path of the topmost layer is idle
abbrev pub is_idle_at : StackView → PathNames → Bool
is_idle_at stack path =
    elim (entry_at (top_layer stack) path)
    [ Some inode ↦ is_idle (top_layer stack) (lower_layers stack) (path, inode) | None ↦ false ]

-- an entry of a directory: its name, and whether it is idle
abbrev pub IdleName : Type 0
IdleName = PathName × Bool

abbrev pub idle_name : StackView → PathNames → PathName → IdleName
idle_name stack directory name = (name, is_idle_at stack (child_path directory name))

-- the kids of a directory are the directories in it, and its output is each name in it, in order,
-- with whether its entry is idle
abbrev pub vacuum_kids : StackView → Piece → List Piece
vacuum_kids stack piece =
    map (piece_in piece)
    (filter (λ name. is_directory_at (top_layer stack) (child_path piece.dir name))
    (names_below (top_layer stack) piece.dir))

abbrev pub vacuum_out : StackView → Piece → List IdleName
vacuum_out stack piece = map (idle_name stack piece.dir) (names_below (top_layer stack) piece.dir)

-- the names of a directory: each name that has an entry in it once, in order, with whether that
-- entry is idle
pub record AreIdleNames (stack : StackView) (directory : PathNames)
    (names : List IdleName) : Type 0 where
  pub in_order : ascends name_cmp (map (λ entry. entry.0) names) ≡ true
  pub same : (name : PathName) → lookup (name_eq name) names
      ≡ option_map
      (λ inode. is_idle (top_layer stack) (lower_layers stack) (child_path directory name, inode))
      (entry_at (top_layer stack) (child_path directory name))

-- the work's visits state what is idle in the topmost layer: a piece puts out the names of its
-- directory, and its kids are those of them that are directories
pub record TellsIdle (stack : StackView) : Type 0 where
  pub output : (piece : Piece) → AreIdleNames stack piece.dir (vacuum_out stack piece)
  pub directories : (piece : Piece) → vacuum_kids stack piece
      ≡ map (λ entry. piece_in piece entry.0)
      (filter (λ entry. is_directory_at (top_layer stack) (child_path piece.dir entry.0))
      (vacuum_out stack piece))

-- the root of the topmost layer
abbrev pub vacuum_root : Piece
vacuum_root = space_root 0

-- the parcels of the plain walk over the whole topmost layer
abbrev pub IsVacuumWalk : StackView → List (ParcelView (List IdleName)) → Type 0
IsVacuumWalk stack parcels = IsPlain (vacuum_kids stack) (vacuum_out stack) vacuum_root parcels

-- what is seen of the names that a directory puts out
abbrev pub names_seen : Vec IdleName Global → List IdleName
names_seen names = names.items

-- such lists are plain data
pub names_set : IsSet (List IdleName)
names_set = Coded-set (hlevel codes)
