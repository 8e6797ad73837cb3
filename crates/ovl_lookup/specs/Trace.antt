-- The trace of a path through a stack of layers, the topmost first.
use Rattle.std.specs.Prelude.{List, [], ◌∷◌, if◌then◌else◌}
use Rattle.std.specs.List.{filter_map}
use Rattle.ovl_names.specs.Paths.{PathNames}
use Rattle.ovl_inode.specs.declared.inodes.Inode.{Inode}
use Rattle.ovl_inode.specs.Marks.{is_directory, is_metacopy}
use Rattle.ovl_layer.specs.Layers.{Entries}
use Rattle.ovl_lookup.specs.declared.steps.Step.{Step}
use Rattle.ovl_lookup.specs.Walk.{walk}
use Rattle.ovl_lookup.specs.Stacks.{StackView}

-- the walks of a path, layer by layer, each of the next path of the one above, as long as that is
-- open; overlayfs.rst, "Multiple lower layers"
abbrev pub walks : List Entries → PathNames → List Step
walks [] path = []
walks (layer ∷ layers) path =
    let step = walk layer path in
    step ∷ (if step.closed then [] else walks layers step.next)

-- the things that these walks find, by layer
abbrev pub things_found : List Entries → PathNames → List Inode
things_found layers path = filter_map (λ step. step.found) (walks layers path)

-- the longest prefix of these things that has only directories; overlayfs.rst, "Directories"
abbrev pub leading_directories : List Inode → List Inode
leading_directories [] = []
leading_directories (inode ∷ inodes) =
    if is_directory inode then inode ∷ leading_directories inodes else []

-- the longest prefix of these things that is metacopy files with at most one other non-directory
-- after them; overlayfs.rst, "Metadata only copy up" and "Data-only lower layers"
abbrev pub leading_files : List Inode → List Inode
leading_files [] = []
leading_files (inode ∷ inodes) =
    if is_directory inode then []
    else if is_metacopy inode then inode ∷ leading_files inodes
    else inode ∷ []

-- the hits among the things found: the longest prefix that has only directories, or metacopy files
-- with at most one other non-directory after them
abbrev pub hits_of : List Inode → List Inode
hits_of [] = []
hits_of (inode ∷ inodes) =
    if is_directory inode then leading_directories (inode ∷ inodes)
    else leading_files (inode ∷ inodes)

-- the hits of a path in a stack
abbrev pub trace : StackView → PathNames → List Inode
trace stack path = hits_of (things_found stack.layers path)
