-- A layer while it is built: finished nodes, and the nodes on the way to its last entry.
use Rattle.std.specs.Prelude.{◌≡◌, ◌<◌, ℕ, zero, suc, true, false, length, List, [], ◌∷◌, ◌++◌, map}
use Rattle.ovl_names.specs.Paths.{PathNames, parent_path}
use Rattle.ovl_inode.specs.Attributes.{has_escaped_name}
use Rattle.ovl_inode.specs.Sound.{is_sound_inode}
use Rattle.ovl_inode.specs.declared.inodes.Inode.{Inode}
use Rattle.ovl_layer.specs.Layers.{Entries, IsLayer, is_directory_at, is_within_limits, entry_limit}
use Rattle.ovl_layer.specs.LayerTrees.{NodeView, under, entries_from, entries_of_nodes}
use Rattle.ovl_layer.specs.Entries.{comes_after}
use Rattle.ovl_layer.specs.declared.layer_builders.LayerBuilder.{LayerBuilder}

-- the entries of open nodes, each inside the one before
abbrev pub entries_of_open : List NodeView → Entries
entries_of_open [] = []
entries_of_open (node ∷ deeper) =
    under node.name (entries_from node.inode (node.below ++ entries_of_open deeper))

-- the entries of a builder: the finished nodes of the root, and the open ones after them
abbrev pub builder_entries : LayerBuilder → Entries
builder_entries builder =
    entries_from builder.inode
    (entries_of_nodes builder.children.items ++ entries_of_open builder.open_dirs.items)

-- the inode of the directory on the way to the last entry that has this many names
abbrev pub inode_on_way : Inode → List NodeView → ℕ → Inode
inode_on_way inode open_dirs zero = inode
inode_on_way inode [] (suc depth) = inode
inode_on_way inode (node ∷ open_dirs) (suc depth) = inode_on_way node.inode open_dirs depth

-- a builder is a layer, and its open nodes spell the path of its last entry
pub record IsLayerBuilder (builder : LayerBuilder) : Type 0 where
  pub layer : IsLayer (builder_entries builder)
  pub spelled : map (λ node. node.name) builder.open_dirs.items ≡ builder.last
  pub ends : (front : Entries) × (inode : Inode)
      × (builder_entries builder ≡ front ++ (builder.last, inode) ∷ [])

-- the entry can be after those of the builder
pub record CanTake (builder : LayerBuilder) (path : PathNames) (inode : Inode) : Type 0 where
  pub after : comes_after (builder_entries builder) path ≡ true
  pub parent : is_directory_at (builder_entries builder) (parent_path path) ≡ true
  pub sound : is_sound_inode inode ≡ true
  pub unescaped : has_escaped_name inode.attrs ≡ false
  pub limited : is_within_limits path ≡ true
  pub room : length (builder_entries builder) < entry_limit
