-- The directories of the merged tree as work: a piece is a directory, its kids are the directories
-- in it, and its output is all that is shown in it.
use Rattle.std.specs.Prelude.{ℕ, ◌*◌, List, map, filter, length, Vec}
use Rattle.std.specs.Global.{Global}
use Rattle.std.specs.Coded.{Coded-set, codes}
use Rattle.ovl_names.specs.Names.{PathName}
use Rattle.ovl_names.specs.Paths.{PathNames, child_path, depth_limit}
use Rattle.ovl_lookup.specs.declared.looks.Look.{Look}
use Rattle.ovl_lookup.specs.Stacks.{StackView}
use Rattle.ovl_lookup.specs.Merged.{look, AreKids, is_shown_directory}
use Rattle.ovl_lookup.specs.Passes.{kids_along}
use Rattle.ovl_board.specs.declared.pieces.Piece.{Piece}
use Rattle.ovl_board.specs.Pieces.{space_root, piece_in}
use Rattle.ovl_board.specs.declared.works.Parcel.{Parcel}
use Rattle.ovl_board.specs.Parcels.{ParcelView, IsPlain}

-- an entry of a directory: its name, and what is shown there
abbrev pub NamedLook : Type 0
NamedLook = PathName × Look

-- what a directory of the merged tree shows: each name in it, in order, with what is shown there
abbrev pub named_look : StackView → PathNames → PathName → NamedLook
named_look stack dir name = (name, look stack (child_path dir name))

abbrev pub looks_in : StackView → PathNames → List NamedLook
looks_in stack dir = map (named_look stack dir) (kids_along stack dir)

-- each directory's names are all those that the merged tree has in it
abbrev pub HasAllNames : StackView → Type 0
HasAllNames stack =
    (dir : PathNames) → AreKids stack dir (map (λ entry. entry.0) (looks_in stack dir))

-- those entries of a piece's directory that are directories, as pieces
abbrev pub directories_in : Piece → List NamedLook → List Piece
directories_in piece looks =
    map (λ entry. piece_in piece entry.0) (filter (λ entry. is_shown_directory entry.1) looks)

-- the kids of a directory are the directories in it, and its output is all that it shows
abbrev pub show_kids : StackView → Piece → List Piece
show_kids stack piece = directories_in piece (looks_in stack piece.dir)

abbrev pub show_out : StackView → Piece → List NamedLook
show_out stack piece = looks_in stack piece.dir

-- the most names of a path in the merged tree
abbrev pub show_depth : StackView → ℕ
show_depth stack = depth_limit * length stack.layers

-- a parcel of the merged tree
abbrev pub ShowParcel : Type 0
ShowParcel = Parcel (Vec NamedLook Global)

-- the root of the merged tree
abbrev pub show_root : Piece
show_root = space_root 0

-- the parcels of the plain walk over the whole merged tree
abbrev pub IsShowWalk : StackView → List (ParcelView (List NamedLook)) → Type 0
IsShowWalk stack parcels = IsPlain (show_kids stack) (show_out stack) show_root parcels

-- lists of entries are plain data
pub looks_set : IsSet (List NamedLook)
looks_set = Coded-set (hlevel codes)
