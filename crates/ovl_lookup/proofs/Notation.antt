-- A short notation for the layers of worked examples: each with a root of mode 0755 without attributes.
use Rattle.std.specs.Prelude.{ℕ, List, [], ◌∷◌, Some, None, codes}
use Rattle.ovl_inode.specs.declared.inodes.Inode.{Inode}
use Rattle.ovl_inode.specs.declared.inodes.Kind.TheVariants.{Dir, File, Char}
use Rattle.ovl_inode.specs.Attributes.{opaque_name, redirect_name, metacopy_name, whiteout_name}
use Rattle.ovl_inode.specs.Inodes.{plain_inode}
use Rattle.ovl_names.specs.Paths.{PathNames, text_parts}
use Rattle.ovl_layer.specs.Layers.{Entries}

-- the SHA-256 digest of the text `a`
abbrev pub digest_a : List ℕ
digest_a = 0xca ∷ 0x97 ∷ 0x81 ∷ 0x12 ∷ 0xca ∷ 0x1b ∷ 0xbd ∷ 0xca ∷ 0xfa ∷ 0xc2 ∷ 0x31 ∷ 0xb3 ∷ 0x9a ∷ 0x23 ∷ 0xdc ∷ 0x4d ∷ 0xa7 ∷ 0x86 ∷ 0xef ∷ 0xf8 ∷ 0x14 ∷ 0x7c ∷ 0x4e ∷ 0x72 ∷ 0xb9 ∷ 0x80 ∷ 0x77 ∷ 0x85 ∷ 0xaf ∷ 0xee ∷ 0x48 ∷ 0xbb ∷ []

abbrev pub directory : Inode
directory = plain_inode Dir 0o755 []

abbrev pub opaque : Inode
opaque = plain_inode Dir 0o755 ((opaque_name, codes "y") ∷ [])

abbrev pub marked_x : Inode
marked_x = plain_inode Dir 0o755 ((opaque_name, codes "x") ∷ [])

abbrev pub moved : List ℕ → Inode
moved value = plain_inode Dir 0o755 ((redirect_name, value) ∷ [])

abbrev pub opaque_moved : List ℕ → Inode
opaque_moved value = plain_inode Dir 0o755 ((opaque_name, codes "y") ∷ (redirect_name, value) ∷ [])

-- a file of the contents `a`
abbrev pub file_a : Inode
file_a = plain_inode (File 1 (Some digest_a)) 0o644 []

abbrev pub metacopy : ℕ → Inode
metacopy size = plain_inode (File size None) 0o644 ((metacopy_name, []) ∷ [])

abbrev pub metacopy_moved : ℕ → List ℕ → Inode
metacopy_moved size value = plain_inode (File size None) 0o644 ((metacopy_name, []) ∷ (redirect_name, value) ∷ [])

-- a char device 0:0, an empty file with the attribute `whiteout`, and a file of contents with that attribute
abbrev pub whiteout : Inode
whiteout = plain_inode (Char 0 0) 0 []

abbrev pub empty_whiteout : Inode
empty_whiteout = plain_inode (File 0 None) 0o644 ((whiteout_name, []) ∷ [])

abbrev pub full_whiteout : Inode
full_whiteout = plain_inode (File 1 (Some digest_a)) 0o644 ((whiteout_name, []) ∷ [])

-- a path by its text
abbrev pub path : List ℕ → PathNames
path text = text_parts text

-- a layer: a plain root, and these entries in path order
abbrev pub layer_of : Entries → Entries
layer_of entries = ([], directory) ∷ entries
