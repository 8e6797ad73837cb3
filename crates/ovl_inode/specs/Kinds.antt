-- What a kind says: its word, and a file's size and the digest of its contents.
use Rattle.std.specs.Prelude.{ℕ, Option, None, List, codes}
use Rattle.ovl_inode.specs.declared.inodes.Inode.{Inode}
use Rattle.ovl_inode.specs.declared.inodes.Kind.{Kind}
use Rattle.ovl_inode.specs.declared.inodes.Kind.TheVariants.{Dir, File, Symlink, Char, Block, Fifo, Socket}

-- the word of a kind
abbrev pub kind_word : Kind → List ℕ
kind_word Dir = codes "dir"
kind_word (File size blob) = codes "file"
kind_word (Symlink target) = codes "symlink"
kind_word (Char major minor) = codes "char"
kind_word (Block major minor) = codes "block"
kind_word Fifo = codes "fifo"
kind_word Socket = codes "socket"

-- a file's size
abbrev pub size_of : Inode → ℕ
size_of inode = elim inode.kind [ File size blob ↦ size | _ ↦ 0 ]

-- the digest that a file names as its contents
abbrev pub blob_of : Inode → Option (List ℕ)
blob_of inode = elim inode.kind [ File size blob ↦ blob | _ ↦ None ]
