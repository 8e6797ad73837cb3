-- A layer as a flat table: its rows, and what they mean.
use Rattle.std.specs.Prelude.{◌≡◌, ℕ, zero, suc, ◌+◌, ◌<◌, ◌==◌, Bool, true, ◌&&◌, Option, Some, None, List, [], ◌∷◌, ◌++◌, if◌then◌else◌, length, map, drop, nat_lt, is_some, slice_get, IsSomeAnd}
use Rattle.std.specs.List.{list_all}
use Rattle.ovl_names.specs.Names.{PathName}
use Rattle.ovl_names.specs.Paths.{PathNames, child_path, parent_path}
use Rattle.ovl_inode.specs.declared.marks.Mark.{Mark}
use Rattle.ovl_inode.specs.Marks.{mark_of}
use Rattle.ovl_layer.specs.declared.sheets.SheetRow.{SheetRow}
use Rattle.ovl_layer.specs.Layers.{Entry, Entries, IsLayer}

-- the last name of a path; the root has none
abbrev pub last_name : PathNames → Option PathName
last_name [] = None
last_name (name ∷ []) = Some name
last_name (name ∷ other ∷ names) = last_name (other ∷ names)

-- the path of an entry, if there is one, and of the entry of this number
abbrev pub path_of : Option Entry → PathNames
path_of None = []
path_of (Some entry) = entry.0

abbrev pub path_at : Entries → ℕ → PathNames
path_at entries number = path_of (slice_get entries number)

-- the path of a row after these entries: that of its parent, with its name; one without a name is
-- the root
abbrev pub row_path : Entries → ℕ → Option PathName → PathNames
row_path before parent None = []
row_path before parent (Some name) = child_path (path_at before parent) name

-- these entries, and after them those of the rows
abbrev pub entries_with : Entries → List SheetRow → Entries
entries_with before [] = before
entries_with before (row ∷ rows) =
    entries_with (before ++ (row_path before row.parent row.name, row.inode) ∷ []) rows

-- what the rows of a sheet mean: the entries of a layer, in the order of the rows
abbrev pub entries_of_rows : List SheetRow → Entries
entries_of_rows rows = entries_with [] rows

-- how many of the first entries have more names than that
abbrev pub count_deeper : ℕ → Entries → ℕ
count_deeper depth [] = zero
count_deeper depth (entry ∷ entries) =
    if nat_lt depth (length entry.0) then suc (count_deeper depth entries) else zero

-- for each entry the number after its subtree, where the first has this number: in path order the
-- entries under it are those that follow it and have more names
abbrev pub afters_from : ℕ → Entries → List ℕ
afters_from number [] = []
afters_from number (entry ∷ entries) =
    suc (number + count_deeper (length entry.0) entries) ∷ afters_from (suc number) entries

-- the row of that number says what the layer has there
pub record IsRowOf (layer : Entries) (number : ℕ) (row : SheetRow) : Type 0 where
  pub name : IsSomeAnd (slice_get layer number) (λ entry. row.name ≡ last_name entry.0)
  pub inode : IsSomeAnd (slice_get layer number) (λ entry. row.inode ≡ entry.1)
  pub parent : IsSomeAnd (slice_get layer row.parent)
      (λ entry. entry.0 ≡ parent_path (path_at layer number))
  pub after : row.after
      ≡ suc (number + count_deeper (length (path_at layer number)) (drop (suc number) layer))

-- the numbers of those whose parent is `directory`, where these are the parents of the row `number`
-- and those after it
abbrev pub kid_numbers : ℕ → List ℕ → ℕ → List ℕ
kid_numbers number [] directory = []
kid_numbers number (parent ∷ parents) directory =
    if parent == directory
    then number ∷ kid_numbers (suc number) parents directory
    else kid_numbers (suc number) parents directory

-- the parents of the rows after the first, which is the root
abbrev pub parents_of : List SheetRow → List ℕ
parents_of rows = map (λ row. row.parent) (drop 1 rows)

-- each parent comes before its row, where the first is that of the row `number`
abbrev pub are_earlier : ℕ → List ℕ → Bool
are_earlier number [] = true
are_earlier number (parent ∷ parents) = nat_lt parent number && are_earlier (suc number) parents

-- these rows are those of a layer, whatever they say of the numbers after their subtrees
pub record AreRows (rows : List SheetRow) : Type 0 where
  pub layer : IsLayer (entries_of_rows rows)
  pub root : IsSomeAnd (slice_get rows 0) (λ row. (row.name ≡ None) × (row.parent ≡ 0))
  pub named : list_all (λ row. is_some row.name) (drop 1 rows) ≡ true
  pub earlier : are_earlier 1 (parents_of rows) ≡ true

-- these rows are those of a layer, with the numbers of the rows directly below each, and the mark
-- of each
pub record IsSheet (rows : List SheetRow) (below : List (List ℕ))
    (marked : List Mark) : Type 0 where
  pub are : AreRows rows
  pub afters : map (λ row. row.after) rows ≡ afters_from 0 (entries_of_rows rows)
  pub kids : (number : ℕ) → number < length rows
      → slice_get below number ≡ Some (kid_numbers 1 (parents_of rows) number)
  pub marks : marked ≡ map (λ row. mark_of row.inode) rows
