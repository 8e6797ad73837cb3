-- What the passes that make a sheet keep.
use Rattle.std.specs.Prelude.{◌≡◌, ◌<◌, ◌≤◌, ℕ, suc, true, Option, Some, None, List, [], ◌∷◌, ◌++◌, length, map, drop, slice_get, slice_index}
use Rattle.std.specs.Vec.{vec_capacity}
use Rattle.std.specs.declared.cmp.Ordering.{Ordering}
use Rattle.std.specs.declared.cmp.Ordering.TheVariants.{Less}
use Rattle.ovl_names.specs.Names.{PathName, name_cmp}
use Rattle.ovl_inode.specs.Marks.{mark_of}
use Rattle.ovl_layer.specs.declared.sheets.SheetRow.{SheetRow}
use Rattle.ovl_layer.specs.declared.sheets.Room.{Room}
use Rattle.ovl_layer.specs.Layers.{Entries}
use Rattle.ovl_layer.specs.LayerTrees.{placed}
use Rattle.ovl_layer.specs.Sheets.{last_name, path_at, row_path, afters_from, kid_numbers, are_earlier}

-- how an optional name is to another; none comes before each
abbrev pub name_order : Option PathName → PathName → Ordering
name_order None name = Less
name_order (Some own) name = name_cmp own name

-- the name of a row, if there is one, and of the row of this number
abbrev pub name_of_row : Option SheetRow → Option PathName
name_of_row None = None
name_of_row (Some row) = row.name

abbrev pub row_name : List SheetRow → ℕ → Option PathName
row_name rows number = name_of_row (slice_get rows number)

abbrev pub kid_order : List SheetRow → PathName → ℕ → Ordering
kid_order rows name number = name_order (row_name rows number) name

-- these entries, and after them the others, each where its parent's number and its last name place
-- it
abbrev pub placed_by : Entries → List ℕ → Entries → Entries
placed_by before parents [] = before
placed_by before [] (entry ∷ entries) = before
placed_by before (parent ∷ parents) (entry ∷ entries) =
    placed_by (before ++ (row_path before parent (last_name entry.0), entry.1) ∷ []) parents entries

-- the parents' numbers place the entries under the directory of that number, after this many other
-- entries
abbrev pub PlacesUnder : ℕ → ℕ → List ℕ → Entries → Type 0
PlacesUnder directory number parents entries =
    (before : Entries) → length before ≡ number
    → placed_by before parents entries ≡ before ++ placed (path_at before directory) entries

-- the list has grown by the numbers of the parents of these entries, which lie under the directory
-- of that number
pub record AddsParents (directory : ℕ) (old new : List ℕ) (entries : Entries) : Type 0 where
  pub added : List ℕ
  pub grown : new ≡ old ++ added
  pub count : length added ≡ length entries
  pub earlier : are_earlier (length old) added ≡ true
  pub place : PlacesUnder directory (length old) added entries

-- the rows of entries, the first of which has that number, with the numbers that stand for it in
-- these lists
abbrev pub rows_from : List ℕ → List ℕ → ℕ → Entries → List SheetRow
rows_from parents afters number [] = []
rows_from parents afters number (entry ∷ entries) =
    (record {
      name = last_name entry.0;
      inode = entry.1;
      parent = slice_index parents number;
      after = slice_index afters number;
    })
    ∷ rows_from parents afters (suc number) entries

-- the room of the sheet of these entries: all that it says beside names and inodes, and memory for
-- its rows
pub record IsRoomFor (layer : Entries) (room : Room) : Type 0 where
  pub rows : room.rows.items ≡ []
  pub capacity : length layer ≤ vec_capacity room.rows
  pub root : slice_get room.parents.items 0 ≡ Some 0
  pub count : length room.parents.items ≡ length layer
  pub earlier : are_earlier 1 (drop 1 room.parents.items) ≡ true
  pub place : placed_by [] room.parents.items layer ≡ layer
  pub afters : room.afters.items ≡ afters_from 0 layer
  pub kids : (number : ℕ) → number < length layer
      → slice_get room.kids number ≡ Some (kid_numbers 1 (drop 1 room.parents.items) number)
  pub marks : room.marks ≡ map (λ entry. mark_of entry.1) layer

-- the number of names of each entry's path
abbrev pub depths_of : Entries → List ℕ
depths_of entries = map (λ entry. length entry.0) entries

-- the rows, with these numbers after their subtrees
abbrev pub with_afters : List ℕ → List SheetRow → List SheetRow
with_afters afters [] = []
with_afters [] (row ∷ rows) = row ∷ rows
with_afters (after ∷ afters) (row ∷ rows) = record row { after = after } ∷ with_afters afters rows
