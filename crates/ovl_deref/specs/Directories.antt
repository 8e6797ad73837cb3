-- The directories of the dereferenced layer as work: a piece is a directory, its kids are the
-- directories in it, and its output is each name in it with its inode.
use Rattle.std.specs.Prelude.{◌*◌, ℕ, Bool, Option, List, if◌then◌else◌, length}
use Rattle.std.specs.List.{filter_map}
use Rattle.std.specs.Option.{option_map}
use Rattle.ovl_names.specs.Names.{PathName}
use Rattle.ovl_names.specs.Paths.{PathNames, child_path, depth_limit}
use Rattle.ovl_inode.specs.declared.inodes.Inode.{Inode}
use Rattle.ovl_layer.specs.Layers.{Entries, names_below}
use Rattle.ovl_lookup.specs.Walk.{mark_at}
use Rattle.ovl_lookup.specs.Stacks.{StackView}
use Rattle.ovl_lookup.specs.Passes.{kids_along}
use Rattle.ovl_lookup.specs.Sound.{is_moved}
use Rattle.ovl_lookup.specs.Words.{top_layer, lower_layers}
use Rattle.ovl_board.specs.declared.pieces.Piece.{Piece}
use Rattle.ovl_rewrite.specs.Directories.{NamedInode, directories_among}
use Rattle.ovl_rewrite.specs.NewLayers.{IsWalkWithin}
use Rattle.ovl_rewrite.specs.Passes.{InodesParcel}
use Rattle.ovl_deref.specs.Deref.{any_prefix, dereferenced_at}

-- the path or a directory above it is moved
abbrev pub is_at_moved : Entries → PathNames → Bool
is_at_moved top path = any_prefix (λ prefix. is_moved (mark_at top prefix)) path

-- what the new topmost layer of a stack has at a path
abbrev pub new_at : StackView → PathNames → Option Inode
new_at stack path = dereferenced_at (top_layer stack) (lower_layers stack) path

-- the names in a directory of it, in order: at and in a moved one those that are shown, else the
-- topmost layer's own
abbrev pub names_in : StackView → PathNames → List PathName
names_in stack directory =
    if is_at_moved (top_layer stack) directory then kids_along stack directory
    else names_below (top_layer stack) directory

-- a name of a directory with its inode, if it has one
abbrev pub named_inode : StackView → PathNames → PathName → Option NamedInode
named_inode stack directory name =
    option_map (λ inode. (name, inode)) (new_at stack (child_path directory name))

-- the entries of a directory, in order
abbrev pub inodes_in : StackView → PathNames → List NamedInode
inodes_in stack directory = filter_map (named_inode stack directory) (names_in stack directory)

-- the kids of a directory are the directories in it, and its output is each name in it, in order,
-- with its inode
abbrev pub deref_kids : StackView → Piece → List Piece
deref_kids stack piece = directories_among piece (inodes_in stack piece.dir)

abbrev pub deref_out : StackView → Piece → List NamedInode
deref_out stack piece = inodes_in stack piece.dir

-- the most names of what the new layer has: those that the merged tree may have
abbrev pub deref_depth : StackView → ℕ
deref_depth stack = depth_limit * length stack.layers

-- the parcels of the plain walk over all that a manifest can hold of the new layer
abbrev pub IsDerefWalk : StackView → List InodesParcel → Type 0
IsDerefWalk stack parcels = IsWalkWithin (deref_kids stack) (deref_out stack) parcels
