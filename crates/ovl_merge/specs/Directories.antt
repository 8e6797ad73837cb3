-- The directories of the new lower layer as work: a piece is a directory, its kids are the
-- directories in it, and its output is each name in it with its inode.
use Rattle.std.specs.Prelude.{◌*◌, ℕ, Option, Some, None, List, []}
use Rattle.std.specs.List.{filter_map}
use Rattle.std.specs.Option.{option_map}
use Rattle.ovl_names.specs.Names.{PathName}
use Rattle.ovl_names.specs.Paths.{PathNames, child_path, depth_limit}
use Rattle.ovl_lookup.specs.Stacks.{StackView}
use Rattle.ovl_lookup.specs.Passes.{own_names_along, kids_along}
use Rattle.ovl_names.specs.NameSets.{put_names}
use Rattle.ovl_board.specs.declared.pieces.Piece.{Piece}
use Rattle.ovl_rewrite.specs.Directories.{NamedInode, directories_among}
use Rattle.ovl_rewrite.specs.NewLayers.{IsWalkWithin}
use Rattle.ovl_rewrite.specs.Passes.{InodesParcel}
use Rattle.ovl_merge.specs.Places.{Merge, merge_of, two_layers, base}
use Rattle.ovl_merge.specs.MergeDown.{merged_entry}

-- a name of a directory with its inode, if it has one
abbrev pub named_inode : Merge → PathNames → PathName → Option NamedInode
named_inode m directory name =
    option_map (λ inode. (name, inode)) (merged_entry m (child_path directory name))

-- the names that the rest shows in a directory's base
abbrev pub base_names : StackView → Option PathNames → List PathName
base_names rest None = []
base_names rest (Some place) = kids_along rest place

-- the names that may have an entry in a directory, in order: those of the two layers along its
-- walks, and those of its base
abbrev pub candidate_names : Merge → PathNames → List PathName
candidate_names m directory =
    put_names (put_names [] (own_names_along (two_layers m).layers directory))
    (base_names m.rest (base m directory))

-- the entries of a directory, in order
abbrev pub entries_in : Merge → PathNames → List NamedInode
entries_in m directory = filter_map (named_inode m directory) (candidate_names m directory)

-- the kids of a directory are the directories in it, and its output is each name in it, in order,
-- with its inode
abbrev pub merge_kids : StackView → Piece → List Piece
merge_kids stack piece = directories_among piece (entries_in (merge_of stack) piece.dir)

abbrev pub merge_out : StackView → Piece → List NamedInode
merge_out stack piece = entries_in (merge_of stack) piece.dir

-- the most names of a directory of the new lower layer: those that two layers may show together
abbrev pub merge_depth : ℕ
merge_depth = depth_limit * 2

-- the parcels of the plain walk over all that a manifest can hold of the new lower layer
abbrev pub IsMergeWalk : StackView → List InodesParcel → Type 0
IsMergeWalk stack parcels = IsWalkWithin (merge_kids stack) (merge_out stack) parcels
