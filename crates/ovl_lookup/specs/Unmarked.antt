-- Layers without marks, and a layer that is a stack by itself.
use Rattle.std.specs.Prelude.{◌≡◌, false, Some, [], ◌∷◌}
use Rattle.ovl_names.specs.Paths.{PathNames}
use Rattle.ovl_inode.specs.declared.inodes.Inode.{Inode}
use Rattle.ovl_inode.specs.Attributes.{visible_attributes}
use Rattle.ovl_inode.specs.Marks.{is_whiteout}
use Rattle.ovl_layer.specs.Layers.{Entries, entry_at}
use Rattle.ovl_lookup.specs.Stacks.{StackView}

-- the stack of only this layer
abbrev pub alone : Entries → StackView
alone layer = record { layers = layer ∷ []; data_only = [] }

-- no entry has an attribute of the overlay, and none is a whiteout
abbrev pub HasNoMarks : Entries → Type 0
HasNoMarks layer = (path : PathNames) (inode : Inode) → entry_at layer path ≡ Some inode →
    (visible_attributes inode.attrs ≡ inode.attrs) × (is_whiteout inode ≡ false)
