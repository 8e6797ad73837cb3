-- The entries of a directory with all that lies under them, their paths counted from it.
use Rattle.std.specs.Prelude.{◌≡◌, ◌<◌, ◌≤◌, ℕ, true, not, max, [], ◌∷◌, length}
use Rattle.std.specs.List.{list_all}
use Rattle.ovl_names.specs.Order.{ascends}
use Rattle.ovl_names.specs.Paths.{depth_limit, text_limit}
use Rattle.ovl_inode.specs.declared.inodes.Inode.{Inode}
use Rattle.ovl_inode.specs.Attributes.{has_escaped_name}
use Rattle.ovl_inode.specs.Sound.{is_sound_inode}
use Rattle.ovl_layer.specs.Layers.{Entries, entry_cmp, is_within_limits, entry_limit, IsLayer}
use Rattle.ovl_layer.specs.LayerTrees.{entries_from}
use Rattle.ovl_layer.specs.TextPaths.{slashed}
use Rattle.ovl_layer.specs.declared.subtree_builders.Extent.{Extent}

-- a root over these entries is a layer, if it is one by itself
abbrev pub AreBelow : Entries → Type 0
AreBelow below = (root : Inode) → IsLayer (entries_from root []) → IsLayer (entries_from root below)

-- what holds of entries that are one after another after the root of a layer, also where their
-- paths are counted from a directory
pub record CanStand (entries : Entries) : Type 0 where
  pub in_order : ascends entry_cmp entries ≡ true
  pub sound : list_all (λ entry. is_sound_inode entry.1) entries ≡ true
  pub unescaped : list_all (λ entry. not (has_escaped_name entry.1.attrs)) entries ≡ true
  pub limited : list_all (λ entry. is_within_limits entry.0) entries ≡ true
  pub counted : length entries < entry_limit

-- the most names of a path of these entries, and the most bytes of the text of one
abbrev pub most_names : Entries → ℕ
most_names [] = 0
most_names (entry ∷ entries) = max (length entry.0) (most_names entries)

abbrev pub most_bytes : Entries → ℕ
most_bytes [] = 0
most_bytes (entry ∷ entries) = max (length (slashed entry.0)) (most_bytes entries)

-- how many entries there are, and their most names and bytes
pub record IsExtent (entries : Entries) (extent : Extent) : Type 0 where
  pub count : extent.count ≡ length entries
  pub names : extent.names ≡ most_names entries
  pub bytes : extent.bytes ≡ most_bytes entries

-- a layer can have as much after its root
pub record Fits (extent : Extent) : Type 0 where
  pub few : extent.count < entry_limit
  pub shallow : extent.names ≤ depth_limit
  pub short : extent.bytes ≤ text_limit
