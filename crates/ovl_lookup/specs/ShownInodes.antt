-- What a stack shows, as inodes.
use Rattle.std.specs.Prelude.{Option, Some, None, List}
use Rattle.std.specs.List.{filter_map}
use Rattle.std.specs.Option.{option_map}
use Rattle.ovl_names.specs.Names.{PathName}
use Rattle.ovl_names.specs.Paths.{PathNames, child_path}
use Rattle.ovl_inode.specs.declared.inodes.Inode.{Inode}
use Rattle.ovl_lookup.specs.declared.looks.Look.{Look}
use Rattle.ovl_lookup.specs.declared.looks.Look.TheVariants.{Nothing, Shown, Broken}
use Rattle.ovl_lookup.specs.Stacks.{StackView}
use Rattle.ovl_lookup.specs.Merged.{look}
use Rattle.ovl_lookup.specs.Passes.{kids_along}

-- the inode that is shown
abbrev pub inode_shown : Look → Option Inode
inode_shown Nothing = None
inode_shown (Shown inode) = Some inode
inode_shown (Broken inode) = Some inode

-- a name with the inode that is shown there, if one is
abbrev pub named_shown : PathName × Look → Option (PathName × Inode)
named_shown entry = option_map (λ inode. (entry.0, inode)) (inode_shown entry.1)

-- a name of a directory with the inode that the stack shows there, if it shows one
abbrev pub shown_inode : StackView → PathNames → PathName → Option (PathName × Inode)
shown_inode stack directory name = named_shown (name, look stack (child_path directory name))

-- the names in a directory of the merged tree, in order, each with the inode that is shown there
abbrev pub shown_inodes : StackView → PathNames → List (PathName × Inode)
shown_inodes stack directory = filter_map (shown_inode stack directory) (kids_along stack directory)
