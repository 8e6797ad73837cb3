-- The names of a visit: those in a directory that may have an entry, with the rows that the two
-- layers have by them.
use Rattle.std.specs.Prelude.{◌≡◌, ℕ, Option, None, Some, List, [], if◌then◌else◌, map, is_some, IfSome}
use Rattle.std.specs.List.{All, filter_map}
use Rattle.std.specs.Map.{lookup}
use Rattle.std.specs.Option.{option_and_then, option_or}
use Rattle.ovl_names.specs.Names.{PathName, name_eq}
use Rattle.ovl_names.specs.Paths.{PathNames, child_path}
use Rattle.ovl_layer.specs.Layers.{Entries, names_below}
use Rattle.ovl_lookup.specs.NamedLists.{names_of}
use Rattle.ovl_merge.specs.declared.candidates.Candidate.{Candidate}
use Rattle.ovl_merge.specs.declared.candidates.Side.{Side}
use Rattle.ovl_merge.specs.declared.candidates.Side.TheVariants.{Upper, Lower}
use Rattle.ovl_merge.specs.declared.directories.Directory.{Directory}
use Rattle.ovl_merge.specs.Places.{Merge, base}
use Rattle.ovl_merge.specs.Directories.{base_names, entries_in, named_inode}
use Rattle.ovl_merge.specs.Stands.{IsRowAt}
use Rattle.ovl_merge.specs.Reckoned.{next_lookup_at, upper_next_lookup}

-- the names in a directory's base, where the two layers may hide what is shown there
abbrev pub hidden_names : Merge → Directory → List PathName
hidden_names m directory =
    if is_some (next_lookup_at directory.lower) then [] else base_names m.rest (base m directory.path)

-- ---- names with their rows

-- the numbers of the rows that the two layers have by a name
abbrev pub Rows : Type 0
Rows = Option ℕ × Option ℕ

-- names with the rows of each
abbrev pub Rowed : Type 0
Rowed = List (PathName × Rows)

abbrev pub candidate_told : Candidate → PathName × Rows
candidate_told candidate = (candidate.name.now, (candidate.upper, candidate.lower))

abbrev pub candidates_told : List Candidate → Rowed
candidates_told candidates = map candidate_told candidates

abbrev pub without_row : PathName → PathName × Rows
without_row name = (name, (None, None))

abbrev pub unrowed : List PathName → Rowed
unrowed names = map without_row names

-- a row of one layer, and the row in one of two
abbrev pub rows_on : Side → ℕ → Rows
rows_on Upper row = (Some row, None)
rows_on Lower row = (None, Some row)

abbrev pub row_on : Side → Rows → Option ℕ
row_on Upper rows = rows.0
row_on Lower rows = rows.1

-- the row of a name, if it is among these and has one
abbrev pub row_at : Side → PathName → Rowed → Option ℕ
row_at side name names = option_and_then (row_on side) (lookup (name_eq name) names)

-- those of the first, and where it has none those of the second
abbrev pub joined : Rows → Rows → Rows
joined one other = (option_or one.0 other.0, option_or one.1 other.1)

-- ---- those of a directory

abbrev pub other_side : Side → Side
other_side Upper = Lower
other_side Lower = Upper

-- the names that one layer has in a directory, each with its row
pub record AreRowsOf (side : Side) (layer : Entries) (path : PathNames)
    (names : Rowed) : Type 0 where
  pub below : names_of names ≡ names_below layer path
  pub own : (name : PathName) → IsRowAt layer (child_path path name) (row_at side name names)
  pub other : (name : PathName) → row_at (other_side side) name names ≡ None

-- the rows that the two layers have by a name in a directory
pub record AreRowsBy (m : Merge) (directory : Directory) (name : PathName)
    (rows : Rows) : Type 0 where
  pub upper : IsRowAt m.upper (child_path directory.path name) rows.0
  pub lower : IfSome (upper_next_lookup m directory.path)
      (λ below. IsRowAt m.lower (child_path below name) rows.1)

abbrev pub IsCandidate : Merge → Directory → Candidate → Type 0
IsCandidate m directory candidate =
    AreRowsBy m directory candidate.name.now (candidate.upper, candidate.lower)

-- these names, each with its rows
pub record AreCandidates (m : Merge) (directory : Directory) (names : List PathName)
    (candidates : Rowed) : Type 0 where
  pub all : names_of candidates ≡ names
  pub rows : (name : PathName)
      → AreRowsBy m directory name (row_at Upper name candidates, row_at Lower name candidates)

-- names with all that have an entry there, each with its rows
pub record HaveEntries (m : Merge) (directory : Directory)
    (candidates : List Candidate) : Type 0 where
  pub entries : filter_map (named_inode m directory.path) (names_of (candidates_told candidates))
      ≡ entries_in m directory.path
  pub rows : All (IsCandidate m directory) candidates
