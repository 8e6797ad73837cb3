-- The stacks of worked examples.
use Rattle.std.specs.Prelude.{ℕ, List, [], ◌∷◌, codes}
use Rattle.ovl_inode.specs.declared.inodes.Inode.{Inode}
use Rattle.ovl_inode.specs.declared.inodes.Kind.TheVariants.{Symlink, Char}
use Rattle.ovl_inode.specs.Inodes.{plain_inode}
use Rattle.ovl_layer.specs.Layers.{Entries}
use Rattle.ovl_lookup.specs.Stacks.{StackView}
use Rattle.ovl_lookup.proofs.Notation.{directory, opaque, moved, opaque_moved, file_a, metacopy, metacopy_moved, whiteout, path, layer_of}

abbrev pub stack_of : List Entries → StackView
stack_of layers = record { layers = layers; data_only = [] }

-- only a root
abbrev pub root_alone : StackView
root_alone = stack_of (layer_of [] ∷ [])

-- a whiteout, a char device and a symlink with an attribute of its own, over two files
abbrev pub covered : StackView
covered = stack_of (layer_of (
    (path (codes "/f"), whiteout)
    ∷ (path (codes "/g"), plain_inode (Char 0 1) 0o600 [])
    ∷ (path (codes "/l"), plain_inode (Symlink (codes "a b")) 0o777 ((codes "user.k", 1 ∷ []) ∷ []))
    ∷ [])
    ∷ layer_of ((path (codes "/f"), file_a) ∷ (path (codes "/g"), file_a) ∷ [])
    ∷ [])

-- one file over another, below a root
abbrev pub one_over : Inode → Inode → StackView
one_over root upper = stack_of (
    (([], root) ∷ (path (codes "/f"), upper) ∷ [])
    ∷ layer_of ((path (codes "/f"), file_a) ∷ [])
    ∷ [])

-- a directory over one with a file
abbrev pub directory_over : Inode → StackView
directory_over upper = stack_of (layer_of ((path (codes "/d"), upper) ∷ [])
    ∷ layer_of ((path (codes "/d"), directory) ∷ (path (codes "/d/k"), file_a) ∷ [])
    ∷ [])

-- a moved directory with a renamed one in it, whose old names are covered
abbrev pub below_moved : Entries
below_moved = layer_of ((path (codes "/x"), directory) ∷ (path (codes "/x/r"), directory) ∷ (path (codes "/x/r/k"), file_a) ∷ [])

abbrev pub moved_twice : StackView
moved_twice = stack_of (layer_of (
    (path (codes "/p"), moved (codes "/x"))
    ∷ (path (codes "/p/q"), moved (codes "r"))
    ∷ (path (codes "/p/r"), whiteout)
    ∷ (path (codes "/x"), whiteout)
    ∷ [])
    ∷ below_moved
    ∷ [])

-- the same without the whiteout at the old name
abbrev pub moved_twice_shown : StackView
moved_twice_shown = stack_of (layer_of (
    (path (codes "/p"), moved (codes "/x"))
    ∷ (path (codes "/p/q"), moved (codes "r"))
    ∷ (path (codes "/x"), whiteout)
    ∷ [])
    ∷ below_moved
    ∷ [])

-- an absolute redirect in an opaque directory
abbrev pub top_of_moved_in_opaque : Entries
top_of_moved_in_opaque = layer_of (
    (path (codes "/n"), opaque)
    ∷ (path (codes "/n/d"), moved (codes "/x"))
    ∷ (path (codes "/x"), whiteout)
    ∷ [])

abbrev pub moved_in_opaque : StackView
moved_in_opaque = stack_of (top_of_moved_in_opaque
    ∷ layer_of (
    (path (codes "/n"), directory)
    ∷ (path (codes "/n/z"), file_a)
    ∷ (path (codes "/x"), directory)
    ∷ (path (codes "/x/k"), file_a)
    ∷ [])
    ∷ [])

-- an opaque directory with a redirect
abbrev pub opaque_with_redirect : StackView
opaque_with_redirect = stack_of (layer_of ((path (codes "/d"), opaque_moved (codes "/x")) ∷ [])
    ∷ layer_of (
    (path (codes "/d"), directory)
    ∷ (path (codes "/d/k"), file_a)
    ∷ (path (codes "/x"), directory)
    ∷ (path (codes "/x/k"), file_a)
    ∷ [])
    ∷ [])

-- a metacopy file over another, over this
abbrev pub metacopies_over : Inode → StackView
metacopies_over lowest = stack_of (layer_of ((path (codes "/f"), metacopy 1) ∷ [])
    ∷ layer_of ((path (codes "/f"), metacopy 1) ∷ [])
    ∷ layer_of ((path (codes "/f"), lowest) ∷ [])
    ∷ [])

-- a metacopy file that says where its data is, over only a root, and a file there in a data-only layer
abbrev pub told_below : List ℕ → StackView
told_below place = record {
  layers = layer_of ((path (codes "/f"), metacopy_moved 1 place) ∷ []) ∷ layer_of [] ∷ [];
  data_only = layer_of ((path place, file_a) ∷ []) ∷ [];
}

-- the same where a whiteout hides another file at that place
abbrev pub told_past_whiteout : Inode → StackView
told_past_whiteout other = record {
  layers = layer_of ((path (codes "/f"), metacopy_moved 1 (codes "/z")) ∷ [])
      ∷ layer_of ((path (codes "/z"), whiteout) ∷ [])
      ∷ layer_of ((path (codes "/z"), other) ∷ [])
      ∷ [];
  data_only = layer_of ((path (codes "/z"), file_a) ∷ []) ∷ [];
}

-- these layers under a metacopy file of that kind and only a root, the last of them data-only, or all but the first
abbrev pub told_over : List Entries → List Entries → StackView
told_over more data_only = record {
  layers = layer_of ((path (codes "/f"), metacopy_moved 1 (codes "/z")) ∷ []) ∷ layer_of [] ∷ more;
  data_only = data_only;
}

-- metacopy files and directories with redirects of each form, also in an opaque directory
abbrev pub redirects : Entries
redirects = layer_of (
    (path (codes "/a"), metacopy_moved 1 (codes "/x/k"))
    ∷ (path (codes "/b"), metacopy_moved 1 (codes "r"))
    ∷ (path (codes "/c"), metacopy_moved 1 (codes "a/b"))
    ∷ (path (codes "/e"), moved (codes "a/b"))
    ∷ (path (codes "/n"), opaque)
    ∷ (path (codes "/n/d"), moved (codes "r"))
    ∷ (path (codes "/n/f"), metacopy_moved 1 (codes "/x/k"))
    ∷ (path (codes "/n/g"), metacopy_moved 1 (codes "r"))
    ∷ [])
