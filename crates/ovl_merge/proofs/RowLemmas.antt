-- The rows in a directory of a layer, one after another.
use Rattle.std.proofs.Common.{◌≡◌, ℕ, ◌<◌, length, Bool, true, false, cond, Option, Some, None, List, [], ◌∷◌, ◌++◌, refl, sym, ap, ◌∙◌, subst}
use Rattle.std.specs.Prelude.{◌||◌}
use Rattle.std.specs.List.{AllByRecursion, cons_option, list_all, list_any}
use Rattle.std.specs.Map.{lookup}
use Rattle.std.specs.Option.{option_and_then}
use Rattle.std.specs.Cmp.Lexicographic.{bytes_decides}
use Rattle.std.proofs.lemmas.List.{map-append}
use Rattle.ovl_names.specs.Names.{PathName, name_eq}
use Rattle.ovl_names.specs.Paths.{PathNames, child_path}
use Rattle.ovl_names.proofs.Ascending.{both}
use Rattle.ovl_layer.specs.Layers.{Entries, has_parent, is_directory_at, name_below, names_below}
use Rattle.ovl_layer.specs.Sheets.{path_at}
use Rattle.ovl_layer.specs.RowsBelow.{NamedRow, LiesBelow}
use Rattle.ovl_lookup.proofs.LawsOfPaths.{length-child, parent_path-child}
use Rattle.ovl_lookup.proofs.LawsOfWalks.{nothing-below}
use Rattle.ovl_lookup.specs.NamedLists.{names_of}
use Rattle.ovl_merge.specs.declared.candidates.Candidate.{Candidate}
use Rattle.ovl_merge.specs.declared.candidates.Side.{Side}
use Rattle.ovl_merge.specs.declared.candidates.Side.TheVariants.{Upper, Lower}
use Rattle.ovl_merge.specs.Stands.{IsRowAt, StandsAt}
use Rattle.ovl_merge.specs.Candidates.{Rows, Rowed, AreRowsOf, candidate_told, candidates_told, other_side, row_at, row_on, rows_on}
use Rattle.ovl_merge.proofs.StandLemmas.{unnamed}

-- a name with the row that a layer has by it in a directory
pub record IsOwnRow (side : Side) (layer : Entries) (path : PathNames) (named : PathName × Rows) : Type 0 where
  pub number : ℕ
  pub rows : named.1 ≡ rows_on side number
  pub inside : number < length layer
  pub there : path_at layer number ≡ child_path path named.0

-- ---- all of them

row-of : (side : Side) (number : ℕ) → row_on side (rows_on side number) ≡ Some number
row-of Upper number = refl
row-of Lower number = refl

other-of : (side : Side) (number : ℕ) → row_on (other_side side) (rows_on side number) ≡ None
other-of Upper number = refl
other-of Lower number = refl

row-missing : (side : Side) (name : PathName) (names : Rowed) → list_any (name_eq name) (names_of names) ≡ false → row_at side name names ≡ None
row-missing side name [] none = refl
row-missing side name (own ∷ names) none = by (row-missing side name names) (name_eq name own.0) none
  where
    by : (list_any (name_eq name) (names_of names) ≡ false → row_at side name names ≡ None) → (b : Bool) → (b || list_any (name_eq name) (names_of names)) ≡ false → option_and_then (row_on side) (cond b (Some own.1) (lookup (name_eq name) names)) ≡ None
    by later true h = let bad : true ≡ false = h in cc
    by later false h = later h

module _ (side : Side) (layer : Entries) (path : PathNames) where
  row-found : (names : Rowed) → AllByRecursion (IsOwnRow side layer path) names → (name : PathName) → list_any (name_eq name) (names_of names) ≡ true → IsRowAt layer (child_path path name) (row_at side name names)
  row-found [] all name has = let bad : false ≡ true = has in cc
  row-found (own ∷ names) all name has = by (row-found names all.1 name) (name_eq name own.0) refl has
    where
      own_row : IsOwnRow side layer path own
      own_row = all.0

      by : (list_any (name_eq name) (names_of names) ≡ true → IsRowAt layer (child_path path name) (row_at side name names)) → (b : Bool) → name_eq name own.0 ≡ b → (b || list_any (name_eq name) (names_of names)) ≡ true → IsRowAt layer (child_path path name) (option_and_then (row_on side) (cond b (Some own.1) (lookup (name_eq name) names)))
      by later true e h =
          let found : row_on side own.1 ≡ Some own_row.number = ap (row_on side) own_row.rows ∙ row-of side own_row.number in
          subst (IsRowAt layer (child_path path name)) (sym found) (own_row.inside, own_row.there ∙ ap (child_path path) (sym ((bytes_decides name own.0).0 e)))
      by later false e h = later h

  row-other : (names : Rowed) → AllByRecursion (IsOwnRow side layer path) names → (name : PathName) → row_at (other_side side) name names ≡ None
  row-other [] all name = refl
  row-other (own ∷ names) all name = by (row-other names all.1 name) (name_eq name own.0)
    where
      own_row : IsOwnRow side layer path own
      own_row = all.0

      by : row_at (other_side side) name names ≡ None → (b : Bool) → option_and_then (row_on (other_side side)) (cond b (Some own.1) (lookup (name_eq name) names)) ≡ None
      by later true = ap (row_on (other_side side)) own_row.rows ∙ other-of side own_row.number
      by later false = later

  pub rows-all : (names : Rowed) → names_of names ≡ names_below layer path → AllByRecursion (IsOwnRow side layer path) names → AreRowsOf side layer path names
  rows-all names below all = record {
    below = below;
    own = λ name. by name (list_any (name_eq name) (names_of names)) refl;
    other = row-other names all;
  }
    where
      by : (name : PathName) (b : Bool) → list_any (name_eq name) (names_of names) ≡ b → IsRowAt layer (child_path path name) (row_at side name names)
      by name true has = row-found names all name has
      by name false none = subst (IsRowAt layer (child_path path name)) (sym (row-missing side name names none)) (unnamed layer path name (ap (list_any (name_eq name)) (sym below) ∙ none))

-- ---- one after another

all-more : {X : Type 0} (P : X → Type 0) (xs : List X) (x : X) → AllByRecursion P xs → P x → AllByRecursion P (xs ++ x ∷ [])
all-more P [] x all holds = (holds, tt)
all-more P (y ∷ xs) x all holds = (all.0, all-more P xs x all.1 holds)

module _ (side : Side) (layer : Entries) (path : PathNames) (rows : List Candidate) (candidate : Candidate) (row : NamedRow) (told : candidate_told candidate ≡ (row.1, rows_on side row.0)) where
  longer : candidates_told (rows ++ candidate ∷ []) ≡ candidates_told rows ++ candidate_told candidate ∷ []
  longer = map-append candidate_told rows (candidate ∷ [])

  pub named-more : names_of (candidates_told (rows ++ candidate ∷ [])) ≡ names_of (candidates_told rows) ++ row.1 ∷ []
  named-more =
      ap names_of longer
      ∙ (map-append (λ own. own.0) (candidates_told rows) (candidate_told candidate ∷ [])
      ∙ ap (λ (own : PathName × Rows). names_of (candidates_told rows) ++ own.0 ∷ []) told)

  pub own-more : AllByRecursion (IsOwnRow side layer path) (candidates_told rows) → LiesBelow layer path row → AllByRecursion (IsOwnRow side layer path) (candidates_told (rows ++ candidate ∷ []))
  own-more all below =
      subst (AllByRecursion (IsOwnRow side layer path)) (sym longer)
      (all-more (IsOwnRow side layer path) (candidates_told rows) (candidate_told candidate) all (record {
        number = row.0;
        rows = ap (λ (own : PathName × Rows). own.1) told;
        inside = below.0;
        there = below.1 ∙ ap (child_path path) (sym (ap (λ (own : PathName × Rows). own.0) told));
      }))

-- ---- where there is no directory

below-path : (directory path : PathNames) (name : PathName) → name_below directory path ≡ Some name → path ≡ child_path directory name
below-path [] [] name is = let bad : None ≡ Some name = is in cc
below-path [] (own ∷ []) name is = let same : own ≡ name = cc in ap (λ (n : PathName). n ∷ []) same
below-path [] (own ∷ other ∷ names) name is = let bad : None ≡ Some name = is in cc
below-path (first ∷ directory) [] name is = let bad : None ≡ Some name = is in cc
below-path (first ∷ directory) (own ∷ names) name is = by (below-path directory names name) (name_eq first own) refl is
  where
    by : (name_below directory names ≡ Some name → names ≡ child_path directory name) → (b : Bool) → name_eq first own ≡ b → cond b (name_below directory names) None ≡ Some name → own ∷ names ≡ child_path (first ∷ directory) name
    by later true e is = (λ j. sym ((bytes_decides first own).0 e) j ∷ later is j)
    by later false e is = let bad : None ≡ Some name = is in cc

names-none : (layer : Entries) (path : PathNames) → is_directory_at layer path ≡ false → (entries : Entries) → list_all (λ entry. has_parent layer entry.0) entries ≡ true → names_below entries path ≡ []
names-none layer path none [] closed = refl
names-none layer path none (entry ∷ entries) closed = by (names-none layer path none entries) (name_below path entry.0) refl
  where
    parts : (has_parent layer entry.0 ≡ true) × (list_all (λ entry. has_parent layer entry.0) entries ≡ true)
    parts = both {a = has_parent layer entry.0} {b = list_all (λ entry. has_parent layer entry.0) entries} closed

    by : (list_all (λ entry. has_parent layer entry.0) entries ≡ true → names_below entries path ≡ []) → (o : Option PathName) → name_below path entry.0 ≡ o → cons_option o (names_below entries path) ≡ []
    by later None e = later parts.1
    by later (Some name) e =
        let bad : false ≡ true =
        sym ((λ j. length-child path name j || is_directory_at layer (parent_path-child path name j)) ∙ none)
        ∙ (ap (has_parent layer) (sym (below-path path entry.0 name e)) ∙ parts.0) in cc

pub rows-none : (side : Side) (layer : Entries) (path : PathNames) (next : Option PathNames) → StandsAt layer path None next → AreRowsOf side layer path []
rows-none side layer path next is = record {
  below = sym (names-none layer path is.arrival.none layer is.layered.closed);
  own = λ name. nothing-below layer path name [] is.layered is.arrival.none;
  other = λ name. refl;
}
