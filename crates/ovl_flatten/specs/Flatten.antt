-- What a stack shows, as one layer: what that has at each path.
use Rattle.std.specs.Prelude.{◌≡◌, Option}
use Rattle.ovl_names.specs.Paths.{PathNames}
use Rattle.ovl_inode.specs.declared.inodes.Inode.{Inode}
use Rattle.ovl_layer.specs.Layers.{Entries, entry_at}
use Rattle.ovl_lookup.specs.Stacks.{StackView}
use Rattle.ovl_lookup.specs.Merged.{look}
use Rattle.ovl_lookup.specs.ShownInodes.{inode_shown}

-- what the flattened layer has at a path: what the stack shows there
abbrev pub flattened_at : StackView → PathNames → Option Inode
flattened_at stack path = inode_shown (look stack path)

-- the layer has at each path what the flattened layer has
abbrev pub IsFlattened : Entries → StackView → Type 0
IsFlattened layer stack = (path : PathNames) → entry_at layer path ≡ flattened_at stack path
