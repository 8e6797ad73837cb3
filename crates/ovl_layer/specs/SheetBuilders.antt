-- A layer while its entries come in path order: the rows of its sheet so far, and those on the way
-- to the last entry.
use Rattle.std.specs.Prelude.{◌≡◌, ◌<◌, ◌≤◌, ◌-◌, ℕ, suc, true, false, List, [], ◌∷◌, ◌++◌, length, take, slice_get, IsSomeAnd}
use Rattle.std.specs.Ordering.{is_lt}
use Rattle.ovl_names.specs.Names.{PathName, is_name}
use Rattle.ovl_names.specs.Paths.{PathNames, path_cmp, child_path}
use Rattle.ovl_inode.specs.Attributes.{has_escaped_name}
use Rattle.ovl_inode.specs.Sound.{is_sound_inode}
use Rattle.ovl_inode.specs.declared.inodes.Inode.{Inode}
use Rattle.ovl_layer.specs.Layers.{Entries, is_directory_at, is_within_limits, entry_limit}
use Rattle.ovl_layer.specs.Sheets.{path_at, entries_of_rows, AreRows}
use Rattle.ovl_layer.specs.declared.sheets.SheetRow.{SheetRow}
use Rattle.ovl_layer.specs.declared.sheet_builders.SheetBuilder.{SheetBuilder}

-- the entries so far
abbrev pub built_entries : SheetBuilder → Entries
built_entries builder = entries_of_rows builder.rows.items

-- the path of the last of them
abbrev pub last_path : SheetBuilder → PathNames
last_path builder = path_at (built_entries builder) (length (built_entries builder) - 1)

-- these rows make a layer that ends at the path `last`, and these are the numbers of those on the
-- way there
pub record AreBuilt (rows : List SheetRow) (way : List ℕ) (last : PathNames) : Type 0 where
  pub made : AreRows rows
  pub count : length way ≡ suc (length last)
  pub numbers : (depth : ℕ) → depth ≤ length last → IsSomeAnd (slice_get way depth)
      (λ number. (number < length rows) × (path_at (entries_of_rows rows) number ≡ take depth last))
  pub ends : (front : Entries) × (inode : Inode)
      × (entries_of_rows rows ≡ front ++ (last, inode) ∷ [])

abbrev pub IsSheetBuilder : SheetBuilder → Type 0
IsSheetBuilder builder = AreBuilt builder.rows.items builder.way.items (last_path builder)

-- the entry `name` can be after those of the builder, in the directory of the first `depth` names
-- of the last path
pub record CanEnter (builder : SheetBuilder) (depth : ℕ) (name : PathName)
    (inode : Inode) : Type 0 where
  pub within : depth ≤ length (last_path builder)
  pub after : is_lt (path_cmp (last_path builder) (child_path (take depth (last_path builder)) name))
      ≡ true
  pub directory : is_directory_at (built_entries builder) (take depth (last_path builder)) ≡ true
  pub named : is_name name ≡ true
  pub sound : is_sound_inode inode ≡ true
  pub unescaped : has_escaped_name inode.attrs ≡ false
  pub limited : is_within_limits (child_path (take depth (last_path builder)) name) ≡ true
  pub room : length (built_entries builder) < entry_limit
