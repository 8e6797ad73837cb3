-- The directories of the flattened layer as work: a piece is a directory, its kids are the
-- directories in it, and its output is each name in it with its inode.
use Rattle.std.specs.Prelude.{◌*◌, ℕ, List, length}
use Rattle.ovl_names.specs.Paths.{depth_limit}
use Rattle.ovl_lookup.specs.Stacks.{StackView}
use Rattle.ovl_lookup.specs.ShownInodes.{shown_inodes}
use Rattle.ovl_board.specs.declared.pieces.Piece.{Piece}
use Rattle.ovl_rewrite.specs.Directories.{NamedInode, directories_among}
use Rattle.ovl_rewrite.specs.NewLayers.{IsWalkWithin}
use Rattle.ovl_rewrite.specs.Passes.{InodesParcel}

-- the kids of a directory are the directories in it, and its output is each name in it, in order,
-- with its inode
abbrev pub flatten_kids : StackView → Piece → List Piece
flatten_kids stack piece = directories_among piece (shown_inodes stack piece.dir)

abbrev pub flatten_out : StackView → Piece → List NamedInode
flatten_out stack piece = shown_inodes stack piece.dir

-- the most names of a path in the merged tree
abbrev pub flatten_depth : StackView → ℕ
flatten_depth stack = depth_limit * length stack.layers

-- the parcels of the plain walk over all that a manifest can hold of the flattened layer
abbrev pub IsFlattenWalk : StackView → List InodesParcel → Type 0
IsFlattenWalk stack parcels = IsWalkWithin (flatten_kids stack) (flatten_out stack) parcels
