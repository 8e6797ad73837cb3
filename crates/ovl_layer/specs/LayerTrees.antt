-- What a node of a layer's tree is seen as: its name, its inode, and the entries below it.
use Rattle.std.specs.Prelude.{◌≡◌, ◌≢◌, List, [], ◌∷◌, ◌++◌, map, MatchOption}
use Rattle.std.specs.List.{filter_map}
use Rattle.std.specs.declared.cmp.Ordering.{Ordering}
use Rattle.std.specs.Prelude.{Option, Some, None, if◌then◌else◌}
use Rattle.ovl_names.specs.Names.{PathName, name_cmp, name_eq}
use Rattle.ovl_names.specs.Paths.{PathNames}
use Rattle.ovl_inode.specs.declared.inodes.Inode.{Inode}
use Rattle.ovl_layer.specs.Layers.{Entry, Entries}

-- a node, with the paths below it counted from it
pub record NodeView : Type 0 where
  pub name : PathName
  pub inode : Inode
  pub below : Entries

-- nodes are ordered by their names
abbrev pub node_cmp : NodeView → NodeView → Ordering
node_cmp one other = name_cmp one.name other.name

-- the entries with `name` before each path
abbrev pub under : PathName → Entries → Entries
under name entries = map (λ entry. (name ∷ entry.0, entry.1)) entries

-- the entries of a directory, or of a file with nothing below it
abbrev pub entries_from : Inode → Entries → Entries
entries_from inode below = ([], inode) ∷ below

-- the entries of the nodes, one node after another
abbrev pub entries_of_nodes : List NodeView → Entries
entries_of_nodes [] = []
entries_of_nodes (node ∷ nodes) =
    under node.name (entries_from node.inode node.below) ++ entries_of_nodes nodes

-- the entries are those of a directory or file that has these nodes directly below it
abbrev pub HasBelow : Entries → List NodeView → Type 0
HasBelow entries nodes = (inode : Inode) × (entries ≡ entries_from inode (entries_of_nodes nodes))

-- the entry as it is seen from its ancestor `name`, if it lies at or under that
abbrev pub entry_in : PathName → Entry → Option Entry
entry_in name ([], inode) = None
entry_in name (first ∷ names, inode) = if name_eq name first then Some (names, inode) else None

-- the entries at and under `name`, as they are seen from there
abbrev pub entries_in : PathName → Entries → Entries
entries_in name entries = filter_map (entry_in name) entries

-- the same for the names of a path, one after another
abbrev pub entries_under : PathNames → Entries → Entries
entries_under [] entries = entries
entries_under (name ∷ names) entries = entries_under names (entries_in name entries)

-- the place of a path is seen as the entries at and under it; without entries there is none
abbrev pub IsPlaceAt : Entries → PathNames → Option Entries → Type 0
IsPlaceAt layer path place =
    MatchOption place
    (entries_under path layer ≡ [])
    (λ own. (own ≡ entries_under path layer) × (own ≢ []))

-- the entries with `path` before each path
abbrev pub placed : PathNames → Entries → Entries
placed path entries = map (λ entry. (path ++ entry.0, entry.1)) entries

-- a node with one more child at its end
abbrev pub grown : NodeView → NodeView → NodeView
grown node last =
    record node { below = node.below ++ under last.name (entries_from last.inode last.below) }
