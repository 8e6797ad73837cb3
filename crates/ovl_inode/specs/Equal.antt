-- When two kinds, two lists of attributes and two inodes are the same.
use Rattle.std.specs.Prelude.{Bool, true, false, ◌&&◌, ◌==◌}
use Rattle.std.specs.Option.{option_eq}
use Rattle.std.specs.Ordering.{int_eq}
use Rattle.std.specs.Str.{bytes_eq}
use Rattle.std.specs.Cmp.Lexicographic.{pointwise}
use Rattle.ovl_names.specs.Names.{name_eq}
use Rattle.ovl_inode.specs.declared.inodes.Inode.{Inode}
use Rattle.ovl_inode.specs.declared.inodes.Kind.{Kind}
use Rattle.ovl_inode.specs.declared.inodes.Kind.TheVariants.{Dir, File, Symlink, Char, Block, Fifo, Socket}
use Rattle.ovl_inode.specs.Attributes.{Attributes}

-- the same sort, with the same size and blob, target, or numbers
abbrev pub kind_eq : Kind → Kind → Bool
kind_eq Dir Dir = true
kind_eq (File size blob) (File other_size other_blob) =
    size == other_size && option_eq bytes_eq blob other_blob
kind_eq (Symlink target) (Symlink other) = bytes_eq target other
kind_eq (Char major minor) (Char other_major other_minor) =
    major == other_major && minor == other_minor
kind_eq (Block major minor) (Block other_major other_minor) =
    major == other_major && minor == other_minor
kind_eq Fifo Fifo = true
kind_eq Socket Socket = true
kind_eq _ _ = false

-- the same attributes with the same values
abbrev pub attributes_eq : Attributes → Attributes → Bool
attributes_eq = pointwise (λ one other. name_eq one.0 other.0 && bytes_eq one.1 other.1)

-- the same in every field
abbrev pub inode_eq : Inode → Inode → Bool
inode_eq one other =
    kind_eq one.kind other.kind
    && one.mode == other.mode
    && one.uid == other.uid
    && one.gid == other.gid
    && int_eq one.mtime other.mtime
    && one.nsec == other.nsec
    && attributes_eq one.attrs other.attrs
