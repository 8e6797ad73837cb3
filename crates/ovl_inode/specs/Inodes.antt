-- A plain inode, an inode with other values, and what the merged tree shows of it.
use Rattle.std.specs.Prelude.{ℕ, pos}
use Rattle.ovl_inode.specs.declared.inodes.Inode.{Inode}
use Rattle.ovl_inode.specs.declared.inodes.Kind.{Kind}
use Rattle.ovl_inode.specs.Attributes.{Attributes, visible_attributes}

-- the inode of this kind, mode and attributes; its owner, its group and its time are 0
abbrev pub plain_inode : Kind → ℕ → Attributes → Inode
plain_inode kind mode attrs = record {
  kind = kind;
  mode = mode;
  uid = 0;
  gid = 0;
  mtime = pos 0;
  nsec = 0;
  attrs = attrs;
}

-- the inode with this kind and these attributes, and all else as it is
abbrev pub inode_with : Inode → Kind → Attributes → Inode
inode_with inode kind attrs = record inode { kind = kind; attrs = attrs }

-- the inode without the overlay's own attributes
abbrev pub visible : Inode → Inode
visible inode = record inode { attrs = visible_attributes inode.attrs }
