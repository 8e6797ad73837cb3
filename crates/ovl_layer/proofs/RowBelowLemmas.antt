-- The rows directly below a row, by their numbers.
use Rattle.std.proofs.Common.{◌≡◌, ◌∙◌, ◌<◌, ℕ, Some, is_some, List, [], ◌∷◌, ◌++◌, length, get_or, map, drop, refl, sym, ap, subst, append_assoc, arith}
use Rattle.std.specs.Prelude.{slice_get, unwrap_or}
use Rattle.std.specs.List.{AllByRecursion}
use Rattle.std.proofs.lemmas.List.{append-nil}
use Rattle.std.proofs.lemmas.List.Elements.{recursion_from_All}
use Rattle.ovl_names.specs.Names.{PathName}
use Rattle.ovl_names.specs.Paths.{PathNames, child_path}
use Rattle.ovl_inode.specs.declared.marks.Mark.{Mark}
use Rattle.ovl_layer.specs.declared.sheets.SheetRow.{SheetRow}
use Rattle.ovl_layer.specs.Layers.{Entries, names_below}
use Rattle.ovl_layer.specs.Sheets.{last_name, path_at, entries_of_rows, kid_numbers, parents_of, IsSheet}
use Rattle.ovl_layer.specs.RowsBelow.{NamedRow, IsNamedRow, LiesBelow, AreRowsBelow, named_row}
use Rattle.ovl_layer.proofs.SheetLemmas.{last_name-child, own-numbers, kids-inside, kids-paths}

module _ (layer : Entries) (directory : PathNames) where
  -- each has a name
  pub numbers-named : (numbers : List ℕ) (names : List PathName) → AllByRecursion (λ number. number < length layer) numbers → map (path_at layer) numbers ≡ map (child_path directory) names → AllByRecursion (IsNamedRow layer) numbers
  numbers-named [] names inside paths = tt
  numbers-named (number ∷ numbers) [] inside paths = absurd (omega (arith, ap length paths))
  numbers-named (number ∷ numbers) (name ∷ names) inside paths =
      let here : path_at layer number ≡ child_path directory name = ap (λ (ps : List PathNames). get_or ps 0 []) paths in
      ((inside.0, ap is_some (ap last_name here ∙ last_name-child directory name)), numbers-named numbers names inside.1 (ap (drop 1) paths))

  -- and these are their names
  pub numbers-below : (numbers : List ℕ) (names : List PathName) → AllByRecursion (λ number. number < length layer) numbers → map (path_at layer) numbers ≡ map (child_path directory) names
      → (map (λ row. row.1) (map (named_row layer) numbers) ≡ names) × AllByRecursion (LiesBelow layer directory) (map (named_row layer) numbers)
  numbers-below [] [] inside paths = (refl, tt)
  numbers-below [] (name ∷ names) inside paths = absurd (omega (arith, ap length paths))
  numbers-below (number ∷ numbers) [] inside paths = absurd (omega (arith, ap length paths))
  numbers-below (number ∷ numbers) (name ∷ names) inside paths =
      let here : path_at layer number ≡ child_path directory name = ap (λ (ps : List PathNames). get_or ps 0 []) paths in
      let named : unwrap_or (last_name (path_at layer number)) [] ≡ name = ap (λ o. unwrap_or o []) (ap last_name here ∙ last_name-child directory name) in
      let later = numbers-below numbers names inside.1 (ap (drop 1) paths) in (
        (λ j. named j ∷ later.0 j),
        ((inside.0, here ∙ ap (child_path directory) (sym named)), later.1),
      )

-- the numbers that a sheet keeps for a row
pub numbers-kept : (rows : List SheetRow) (below : List (List ℕ)) (marked : List Mark) (layer : Entries) (directory : ℕ) (own : List ℕ) → IsSheet rows below marked → entries_of_rows rows ≡ layer → directory < length layer → slice_get below directory ≡ Some own
    → AllByRecursion (λ number. number < length layer) own × (map (path_at layer) own ≡ map (child_path (path_at layer directory)) (names_below layer (path_at layer directory)))
numbers-kept rows below marked layer directory own is same inside at =
    let within : directory < length (entries_of_rows rows) = omega (arith, inside, ap length same) in
    subst (λ (numbers : List ℕ). AllByRecursion (λ number. number < length layer) numbers × (map (path_at layer) numbers ≡ map (child_path (path_at layer directory)) (names_below layer (path_at layer directory))))
    (sym (own-numbers rows below marked is directory own within at))
    (subst (λ (l : Entries). AllByRecursion (λ number. number < length l) (kid_numbers 1 (parents_of rows) directory) × (map (path_at l) (kid_numbers 1 (parents_of rows) directory) ≡ map (child_path (path_at l directory)) (names_below l (path_at l directory)))) same
    (recursion_from_All _ _ (kids-inside rows below marked is directory), kids-paths rows below marked is directory within))

-- the rows, where the layer and the path are known otherwise
pub rows-at : (sheet layer : Entries) (number : ℕ) (directory : PathNames) (rows : List NamedRow) → sheet ≡ layer → path_at layer number ≡ directory → AreRowsBelow sheet (path_at sheet number) rows → AreRowsBelow layer directory rows
rows-at sheet layer number directory rows same here are =
    subst (λ (path : PathNames). AreRowsBelow layer path rows) here (subst (λ (l : Entries). AreRowsBelow l (path_at l number) rows) same are)

-- at the start
pub rows-start : {Y : Type 0} (left : List NamedRow → List Y) (given all : List NamedRow) (old whole : List Y) → given ≡ all → old ≡ [] → left all ≡ whole → old ++ left given ≡ whole
rows-start left given all old whole same none is = (λ j. none j ++ left (same j)) ∙ is

-- one row after another: what is made so far, and what is still to be made of the rows that are left
pub rows-next : {Y : Type 0} (left : List NamedRow → List Y) (all : List NamedRow) (row : NamedRow) (rest : List NamedRow) (old new step whole : List Y) → all ≡ row ∷ rest → left (row ∷ rest) ≡ step ++ left rest → new ≡ old ++ step → old ++ left all ≡ whole → new ++ left rest ≡ whole
rows-next left all row rest old new step whole next split added so_far =
    ap (λ ys. ys ++ left rest) added
    ∙ (append_assoc old step (left rest)
    ∙ (ap (λ ys. old ++ ys) (sym (ap left next ∙ split)) ∙ so_far))

-- at the end
pub rows-done : {Y : Type 0} (left : List NamedRow → List Y) (all : List NamedRow) (old whole : List Y) → all ≡ [] → left [] ≡ [] → old ++ left all ≡ whole → old ≡ whole
rows-done left all old whole none empty so_far =
    sym (append-nil old) ∙ (ap (λ ys. old ++ ys) (sym (ap left none ∙ empty)) ∙ so_far)
