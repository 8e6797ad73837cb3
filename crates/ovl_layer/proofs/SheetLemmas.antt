-- Which entries the rows of a sheet mean, and which rows its numbers lead to.
use Rattle.std.proofs.Common.{◌≡◌, ◌≢◌, Bor, ℕ, zero, suc, ◌+◌, ◌-◌, ◌<◌, ◌≤◌, length, get_or, take, drop, map, cond, Bool, true, false, Option, Some, None, Ok, Err, List, [], ◌∷◌, ◌++◌, refl, sym, ap, ◌∙◌, subst, arith, length-append, add-one, inl, inr, ◌⊎◌}
use Rattle.std.specs.Prelude.{◌==◌, not, nat_lt, slice_get, unwrap_or, is_some, IsSomeAnd, IfSome}
use Rattle.std.specs.Option.{option_map}
use Rattle.std.specs.List.{list_all, filter_map, cons_option, All}
use Rattle.std.specs.List.Sorted.{IsNonDecreasingBy, IsBinarySearchResult}
use Rattle.std.specs.Ordering.{is_lt, is_eq, ordering_index}
use Rattle.std.specs.Cmp.Lexicographic.{nat_list_cmp_total, pointwise_decides, bytes_decides}
use Rattle.std.specs.declared.cmp.Ordering.{Ordering}
use Rattle.std.specs.declared.cmp.Ordering.TheVariants.{Less, Equal, Greater}
use Rattle.std.proofs.lemmas.Bool.{ltb-true, ltb-false, cases_lt}
use Rattle.std.proofs.lemmas.Bool.Decides.{nat_tests}
use Rattle.std.proofs.lemmas.Option.{slice_get_within, slice_get_past, slice_get_read, slice_get-map}
use Rattle.std.proofs.lemmas.List.{length-map}
use Rattle.std.proofs.lemmas.List.Sorted.{searchable_from_sorted}
use Rattle.std.proofs.Math.Seq.{take-append_seam}
use Rattle.ovl_names.specs.Names.{PathName, name_cmp, name_eq}
use Rattle.ovl_names.specs.Paths.{PathNames, path_cmp, path_eq, child_path, parent_path}
use Rattle.ovl_names.specs.Order.{ascends}
use Rattle.ovl_names.proofs.Ascending.{both, list_all-get, reversed}
use Rattle.ovl_inode.specs.declared.inodes.Inode.{Inode}
use Rattle.ovl_inode.specs.declared.marks.Mark.{Mark}
use Rattle.ovl_inode.specs.Marks.{mark_of}
use Rattle.ovl_layer.specs.declared.sheets.SheetRow.{SheetRow}
use Rattle.ovl_layer.specs.Layers.{Entry, Entries, entry_cmp, entry_at, name_below, names_below}
use Rattle.ovl_layer.specs.LayerTrees.{entries_in, entries_under}
use Rattle.ovl_layer.specs.Sheets.{last_name, path_of, path_at, row_path, entries_with, entries_of_rows, count_deeper, afters_from, IsRowOf, kid_numbers, parents_of, are_earlier, AreRows, IsSheet}
use Rattle.ovl_layer.specs.SheetPasses.{name_order, name_of_row, row_name, kid_order}
use Rattle.ovl_layer.proofs.NodeLemmas.{name_eq-same, name_eq-cmp, entry_at-under}
use Rattle.ovl_layer.proofs.OpenLemmas.{path_cmp-under}
use Rattle.ovl_layer.proofs.LayerLemmas.{path_cmp-same}

-- ---- an element of a list by its number

pub slice_get-front : {X : Type 0} (xs ys : List X) (k : ℕ) → k < length xs → slice_get (xs ++ ys) k ≡ slice_get xs k
slice_get-front [] ys k inside = absurd (omega arith)
slice_get-front (x ∷ xs) ys zero inside = refl
slice_get-front (x ∷ xs) ys (suc k) inside = slice_get-front xs ys k (omega arith)

pub slice_get-seam : {X : Type 0} (xs : List X) (y : X) (ys : List X) → slice_get (xs ++ y ∷ ys) (length xs) ≡ Some y
slice_get-seam [] y ys = refl
slice_get-seam (x ∷ xs) y ys = slice_get-seam xs y ys

pub some-same : {X : Type 0} (x y : X) → Some x ≡ Some y → x ≡ y
some-same x y e = ap (λ o. unwrap_or o x) e

-- what a look into a slice gives
pub looked-up : {X : Type 0} (found : Option (Bor X)) (xs : List X) (n : ℕ) → is_some found ≡ nat_lt n (length xs) → IfSome found (λ x. x.now ≡ get_or xs n x.now) → option_map (λ x. x.now) found ≡ slice_get xs n
looked-up None xs n there is = sym (slice_get_past xs n (ltb-false n (length xs) (sym there)))
looked-up (Some x) xs n there is = sym (slice_get_read xs (length xs) n x.now refl (ltb-true n (length xs) (sym there)) is)

pub none-past : {X : Type 0} (xs : List X) (n : ℕ) → slice_get xs n ≡ None → length xs ≤ n
none-past [] n none = omega arith
none-past (x ∷ xs) zero none = let bad : Some x ≡ None = none in cc
none-past (x ∷ xs) (suc n) none = omega (arith, none-past xs n none)

-- of a list in order, each element comes before those of higher numbers
pub ascends-apart : {X : Type 0} (cmp : X → X → Ordering) (xs : List X) (i j : ℕ) (x y : X) → ascends cmp xs ≡ true → i < j → slice_get xs i ≡ Some x → slice_get xs j ≡ Some y → is_lt (cmp x y) ≡ true
ascends-apart cmp [] i j x y up before at other = let bad : None ≡ Some x = at in cc
ascends-apart cmp (first ∷ xs) i zero x y up before at other = absurd (omega arith)
ascends-apart cmp (first ∷ xs) zero (suc j) x y up before at other =
    let parts = both {a = list_all (λ later. is_lt (cmp first later)) xs} {b = ascends cmp xs} up in
    ap (λ f. is_lt (cmp f y)) (sym (some-same first x at)) ∙ list_all-get (λ later. is_lt (cmp first later)) xs j y parts.0 other
ascends-apart cmp (first ∷ xs) (suc i) (suc j) x y up before at other =
    ascends-apart cmp xs i j x y (both {a = list_all (λ later. is_lt (cmp first later)) xs} {b = ascends cmp xs} up).1 (omega arith) at other

-- two functions that give the same for each element
pub map-each : {X Y : Type 0} (f g : X → Y) (xs : List X) → ((i : ℕ) (d : X) → i < length xs → f (get_or xs i d) ≡ g (get_or xs i d)) → map f xs ≡ map g xs
map-each f g [] each = refl
map-each f g (x ∷ xs) each = λ j. each 0 x (omega arith) j ∷ map-each f g xs (λ i d inside. each (suc i) d (omega (arith, inside))) j

map-map : {X Y Z : Type 0} (f : Y → Z) (g : X → Y) (xs : List X) → map f (map g xs) ≡ map (λ x. f (g x)) xs
map-map f g [] = refl
map-map f g (x ∷ xs) = ap (λ rest. f (g x) ∷ rest) (map-map f g xs)

-- ---- paths with one more name

pub length-child : (path : PathNames) (name : PathName) → length (child_path path name) ≡ suc (length path)
length-child path name = omega (arith, length-append path (name ∷ []))

pub parent_path-child : (path : PathNames) (name : PathName) → parent_path (child_path path name) ≡ path
parent_path-child path name =
    let len : length (path ++ name ∷ []) - 1 ≡ length path = omega (arith, length-append path (name ∷ [])) in
    ap (λ n. take n (path ++ name ∷ [])) len ∙ take-append_seam path (name ∷ [])

pub last_name-child : (path : PathNames) (name : PathName) → last_name (child_path path name) ≡ Some name
last_name-child [] name = refl
last_name-child (first ∷ []) name = refl
last_name-child (first ∷ second ∷ path) name = last_name-child (second ∷ path) name

-- beside each other, two paths are in the order of their last names
pub path_cmp-beside : (path : PathNames) (one other : PathName) → is_lt (path_cmp (child_path path one) (child_path path other)) ≡ true → is_lt (name_cmp one other) ≡ true
path_cmp-beside [] one other before = by (name_cmp one other) refl before
  where
    by : (o : Ordering) → name_cmp one other ≡ o → is_lt (path_cmp (one ∷ []) (other ∷ [])) ≡ true → is_lt o ≡ true
    by Less e before = refl
    by Equal e before = let bad : false ≡ true = sym (rw (path_cmp, e) refl) ∙ before in cc
    by Greater e before = let bad : false ≡ true = sym (rw (path_cmp, e) refl) ∙ before in cc
path_cmp-beside (first ∷ path) one other before =
    path_cmp-beside path one other (ap is_lt (sym (path_cmp-under first (child_path path one) (child_path path other))) ∙ before)

-- ---- the entries of rows

pub with-front : (before : Entries) (rows : List SheetRow) (k : ℕ) → k < length before → slice_get (entries_with before rows) k ≡ slice_get before k
with-front before [] k inside = refl
with-front before (row ∷ rows) k inside =
    let own : Entry = (row_path before row.parent row.name, row.inode) in
    with-front (before ++ own ∷ []) rows k (omega (arith, length-append before (own ∷ []), inside))
    ∙ slice_get-front before (own ∷ []) k inside

pub with-length : (before : Entries) (rows : List SheetRow) → length (entries_with before rows) ≡ length before + length rows
with-length before [] = omega arith
with-length before (row ∷ rows) =
    let own : Entry = (row_path before row.parent row.name, row.inode) in
    omega (arith, with-length (before ++ own ∷ []) rows, length-append before (own ∷ []))

path-front : (before : Entries) (rows : List SheetRow) (parent : ℕ) (name : Option PathName) → (name ≡ None) ⊎ (parent < length before) → row_path (entries_with before rows) parent name ≡ row_path before parent name
path-front before rows parent None known = refl
path-front before rows parent (Some name) (inl none) = let bad : Some name ≡ None = none in cc
path-front before rows parent (Some name) (inr earlier) = ap (λ o. child_path (path_of o) name) (with-front before rows parent earlier)

-- the entry of a row has the path that its parent and its name give
pub with-row : (before : Entries) (rows : List SheetRow) (i n : ℕ) (row : SheetRow) → n ≡ length before + i → slice_get rows i ≡ Some row → (row.name ≡ None) ⊎ (row.parent < n) → slice_get (entries_with before rows) n ≡ Some (row_path (entries_with before rows) row.parent row.name, row.inode)
with-row before [] i n row is at known = let bad : None ≡ Some row = at in cc
with-row before (first ∷ rows) zero n row is at known =
    let here : n ≡ length before = omega (arith, is) in
    let same : first ≡ row = some-same first row at in
    let own : Entry = (row_path before first.parent first.name, first.inode) in
    let early : (first.name ≡ None) ⊎ (first.parent < length before) = subst (λ m. (first.name ≡ None) ⊎ (first.parent < m)) here (subst (λ (r : SheetRow). (r.name ≡ None) ⊎ (r.parent < n)) (sym same) known) in
    let late : (first.name ≡ None) ⊎ (first.parent < length (before ++ own ∷ [])) = later (first.name ≡ None) first.parent (length before) (length (before ++ own ∷ [])) (omega (arith, length-append before (own ∷ []))) early in
    let path : row_path before first.parent first.name ≡ row_path (entries_with before (first ∷ rows)) first.parent first.name = sym (path-front before (first ∷ rows) first.parent first.name early) in
    with-front (before ++ own ∷ []) rows n (omega (arith, here, length-append before (own ∷ [])))
    ∙ (ap (slice_get (before ++ own ∷ [])) here
    ∙ (slice_get-seam before own []
    ∙ ((λ j. Some (path j, first.inode))
    ∙ ap (λ (r : SheetRow). Some (row_path (entries_with before (first ∷ rows)) r.parent r.name, r.inode)) same)))
  where
    later : (A : Type 0) (p m k : ℕ) → m ≤ k → A ⊎ (p < m) → A ⊎ (p < k)
    later A p m k le (inl a) = inl a
    later A p m k le (inr less) = inr (omega (arith, le, less))
with-row before (first ∷ rows) (suc i) n row is at known =
    let own : Entry = (row_path before first.parent first.name, first.inode) in
    with-row (before ++ own ∷ []) rows i n row (omega (arith, is, length-append before (own ∷ []))) at known

-- ---- the numbers of a directory's rows

pub kid-in : (number : ℕ) (parents : List ℕ) (directory i d : ℕ) → i < length (kid_numbers number parents directory) → (j : ℕ) × (get_or (kid_numbers number parents directory) i d ≡ number + j) × (slice_get parents j ≡ Some directory)
kid-in number [] directory i d inside = absurd (omega arith)
kid-in number (parent ∷ parents) directory i d inside =
    by (λ k less. kid-in (suc number) parents directory k d less) (parent == directory) refl i inside
  where
    rest : List ℕ
    rest = kid_numbers (suc number) parents directory

    by : ((k : ℕ) → k < length rest → (j : ℕ) × (get_or rest k d ≡ suc number + j) × (slice_get parents j ≡ Some directory))
        → (b : Bool) → (parent == directory) ≡ b → (i : ℕ) → i < length (cond b (number ∷ rest) rest) → (j : ℕ) × (get_or (cond b (number ∷ rest) rest) i d ≡ number + j) × (slice_get (parent ∷ parents) j ≡ Some directory)
    by later true e zero inside = (0, omega arith, ap Some (grind (arith, nat_tests)))
    by later true e (suc i) inside =
        let found = later i (omega (arith, inside)) in
        (suc found.0, omega (arith, found.1), found.2)
    by later false e i inside =
        let found = later i inside in
        (suc found.0, omega (arith, found.1), found.2)

pub kid-has : (number : ℕ) (parents : List ℕ) (directory j : ℕ) → slice_get parents j ≡ Some directory → (i : ℕ) × (i < length (kid_numbers number parents directory)) × ((d : ℕ) → get_or (kid_numbers number parents directory) i d ≡ number + j)
kid-has number [] directory j at = let bad : None ≡ Some directory = at in cc
kid-has number (parent ∷ parents) directory zero at =
    let same : parent ≡ directory = some-same parent directory at in
    let yes : (parent == directory) ≡ true = grind (arith, nat_tests) in
    subst (λ b. (i : ℕ) × (i < length (cond b (number ∷ kid_numbers (suc number) parents directory) (kid_numbers (suc number) parents directory))) × ((d : ℕ) → get_or (cond b (number ∷ kid_numbers (suc number) parents directory) (kid_numbers (suc number) parents directory)) i d ≡ number + 0))
    (sym yes) (0, omega arith, λ d. omega arith)
kid-has number (parent ∷ parents) directory (suc j) at = by (kid-has (suc number) parents directory j at) (parent == directory)
  where
    rest : List ℕ
    rest = kid_numbers (suc number) parents directory

    by : (i : ℕ) × (i < length rest) × ((d : ℕ) → get_or rest i d ≡ suc number + j)
        → (b : Bool) → (i : ℕ) × (i < length (cond b (number ∷ rest) rest)) × ((d : ℕ) → get_or (cond b (number ∷ rest) rest) i d ≡ number + suc j)
    by later true = (suc later.0, omega (arith, later.1), λ d. later.2 d ∙ omega arith)
    by later false = (later.0, later.1, λ d. later.2 d ∙ omega arith)

pub kid-rises : (number : ℕ) (parents : List ℕ) (directory i d : ℕ) → suc i < length (kid_numbers number parents directory) → get_or (kid_numbers number parents directory) i d < get_or (kid_numbers number parents directory) (suc i) d
kid-rises number [] directory i d inside = absurd (omega arith)
kid-rises number (parent ∷ parents) directory i d inside =
    by (λ k less. kid-rises (suc number) parents directory k d less) (parent == directory) i inside
  where
    rest : List ℕ
    rest = kid_numbers (suc number) parents directory

    by : ((k : ℕ) → suc k < length rest → get_or rest k d < get_or rest (suc k) d)
        → (b : Bool) (i : ℕ) → suc i < length (cond b (number ∷ rest) rest) → get_or (cond b (number ∷ rest) rest) i d < get_or (cond b (number ∷ rest) rest) (suc i) d
    by later true zero inside =
        let found = kid-in (suc number) parents directory 0 d (omega (arith, inside)) in
        omega (arith, found.1)
    by later true (suc i) inside = later i (omega (arith, inside))
    by later false i inside = later i inside

pub earlier-get : (number : ℕ) (parents : List ℕ) (j parent : ℕ) → are_earlier number parents ≡ true → slice_get parents j ≡ Some parent → parent < number + j
earlier-get number [] j parent all at = let bad : None ≡ Some parent = at in cc
earlier-get number (first ∷ parents) zero parent all at =
    let less : first < number = ltb-true first number (both {a = nat_lt first number} {b = are_earlier (suc number) parents} all).0 in
    omega (arith, less, some-same first parent at)
earlier-get number (first ∷ parents) (suc j) parent all at =
    let less : parent < suc number + j = earlier-get (suc number) parents j parent (both {a = nat_lt first number} {b = are_earlier (suc number) parents} all).1 at in
    omega (arith, less)

-- ---- what lies at or under a path

abbrev pub lies_under : PathNames → PathNames → Bool
lies_under [] path = true
lies_under (name ∷ names) [] = false
lies_under (name ∷ names) (first ∷ path) = cond (name_eq name first) (lies_under names path) false

none-in : (name : PathName) (names : PathNames) (entries : Entries) → list_all (λ entry. not (lies_under (name ∷ names) entry.0)) entries ≡ true → list_all (λ entry. not (lies_under names entry.0)) (entries_in name entries) ≡ true
none-in name names [] none = refl
none-in name names (([], inode) ∷ entries) none = none-in name names entries none
none-in name names ((first ∷ path, inode) ∷ entries) none =
    let parts = both {a = not (lies_under (name ∷ names) (first ∷ path))} {b = list_all (λ entry. not (lies_under (name ∷ names) entry.0)) entries} none in
    by parts.0 (none-in name names entries parts.1) (name_eq name first) refl
  where
    by : not (lies_under (name ∷ names) (first ∷ path)) ≡ true → list_all (λ entry. not (lies_under names entry.0)) (entries_in name entries) ≡ true
        → (b : Bool) → name_eq name first ≡ b → list_all (λ entry. not (lies_under names entry.0)) (entries_in name ((first ∷ path, inode) ∷ entries)) ≡ true
    by here later true e =
        let own : not (lies_under names path) ≡ true = ap (λ b. not (cond b (lies_under names path) false)) (sym e) ∙ here in
        rw (e, own) later
    by here later false e = rw e later

-- where no entry lies at or under a path, nothing does
pub none-under : (path : PathNames) (entries : Entries) → list_all (λ entry. not (lies_under path entry.0)) entries ≡ true → entries_under path entries ≡ []
none-under [] [] none = refl
none-under [] (entry ∷ entries) none = let bad : false ≡ true = none in cc
none-under (name ∷ names) entries none = none-under names (entries_in name entries) (none-in name names entries none)

-- what lies under a directory's entry is the entry itself, or lies under it with its own directory
pub under-child : (path other : PathNames) (name own : PathName) → lies_under (child_path path name) (child_path other own) ≡ true → ((path ≡ other) × (name ≡ own)) ⊎ (lies_under (child_path path name) other ≡ true)
under-child [] [] name own under = inl (refl, by (name_eq name own) refl under)
  where
    by : (b : Bool) → name_eq name own ≡ b → cond b true false ≡ true → name ≡ own
    by true e under = (bytes_decides name own).0 e
    by false e under = let bad : false ≡ true = under in cc
under-child [] (first ∷ other) name own under = inr under
under-child (first ∷ path) [] name own under = absurd (by path (name_eq first own) under)
  where
    by : (path : PathNames) (b : Bool) → cond b (lies_under (child_path path name) []) false ≡ true → ⊥
    by [] true under = let bad : false ≡ true = under in cc
    by (second ∷ path) true under = let bad : false ≡ true = under in cc
    by path false under = let bad : false ≡ true = under in cc
under-child (first ∷ path) (second ∷ other) name own under = by (under-child path other name own) (name_eq first second) refl under
  where
    by : (lies_under (child_path path name) (child_path other own) ≡ true → ((path ≡ other) × (name ≡ own)) ⊎ (lies_under (child_path path name) other ≡ true))
        → (b : Bool) → name_eq first second ≡ b → cond b (lies_under (child_path path name) (child_path other own)) false ≡ true
        → ((first ∷ path ≡ second ∷ other) × (name ≡ own)) ⊎ (cond (name_eq first second) (lies_under (child_path path name) other) false ≡ true)
    by later false e under = let bad : false ≡ true = under in cc
    by later true e under = elim (later under) [
      | inl same ↦ inl ((λ j. (bytes_decides first second).0 e j ∷ same.0 j), same.1)
      | inr there ↦ inr (rw e there)
    ]

pub root-not_under : (path : PathNames) (name : PathName) → lies_under (child_path path name) [] ≡ false
root-not_under [] name = refl
root-not_under (first ∷ path) name = refl

pub entries_under-child : (path : PathNames) (name : PathName) (entries : Entries) → entries_under (child_path path name) entries ≡ entries_in name (entries_under path entries)
entries_under-child [] name entries = refl
entries_under-child (first ∷ path) name entries = entries_under-child path name (entries_in first entries)

-- the name of a path in its directory, seen from another
pub name_below-child : (directory path : PathNames) (name : PathName) → name_below directory (child_path path name) ≡ cond (path_eq directory path) (Some name) None
name_below-child [] [] name = refl
name_below-child [] (first ∷ []) name = refl
name_below-child [] (first ∷ second ∷ path) name = refl
name_below-child (first ∷ directory) [] name = by directory (name_eq first name)
  where
    by : (directory : PathNames) (b : Bool) → cond b (name_below directory []) None ≡ None
    by [] true = refl
    by (second ∷ directory) true = refl
    by directory false = refl
name_below-child (first ∷ directory) (second ∷ path) name = by (name_below-child directory path name) (name_eq first second) refl
  where
    by : name_below directory (child_path path name) ≡ cond (path_eq directory path) (Some name) None
        → (b : Bool) → name_eq first second ≡ b → cond b (name_below directory (child_path path name)) None ≡ cond (path_eq (first ∷ directory) (second ∷ path)) (Some name) None
    by later true e = rw e later
    by later false e = rw e refl

-- ---- a sheet

-- the entry of a number is where its path says
pub entry_at-number : (entries : Entries) (number : ℕ) (entry : Entry) → ascends entry_cmp entries ≡ true → slice_get entries number ≡ Some entry → entry_at entries entry.0 ≡ Some entry.1
entry_at-number [] number entry up at = let bad : None ≡ Some entry = at in cc
entry_at-number (first ∷ entries) zero entry up at =
    let same : first ≡ entry = some-same first entry at in
    subst (λ (e : Entry). entry_at (first ∷ entries) e.0 ≡ Some e.1) same
    (ap (λ b. cond b (Some first.1) (entry_at entries first.0)) ((pointwise_decides bytes_decides first.0 first.0).1 refl))
entry_at-number (first ∷ entries) (suc number) entry up at =
    let parts = both {a = list_all (λ later. is_lt (entry_cmp first later)) entries} {b = ascends entry_cmp entries} up in
    by (list_all-get (λ later. is_lt (entry_cmp first later)) entries number entry parts.0 at) (entry_at-number entries number entry parts.1 at) (path_eq entry.0 first.0) refl
  where
    by : is_lt (path_cmp first.0 entry.0) ≡ true → entry_at entries entry.0 ≡ Some entry.1
        → (b : Bool) → path_eq entry.0 first.0 ≡ b → cond b (Some first.1) (entry_at entries entry.0) ≡ Some entry.1
    by before later true e =
        let same : entry.0 ≡ first.0 = (pointwise_decides bytes_decides entry.0 first.0).0 e in
        let bad : false ≡ true = sym (ap is_lt (ap (path_cmp first.0) same ∙ path_cmp-same first.0)) ∙ before in cc
    by before later false e = later

-- two numbers of one path are one
pub number-one : (entries : Entries) (i j : ℕ) (one other : Entry) → ascends entry_cmp entries ≡ true → slice_get entries i ≡ Some one → slice_get entries j ≡ Some other → one.0 ≡ other.0 → i ≡ j
number-one entries i j one other up at there same = by (nat_lt i j) refl (nat_lt j i) refl
  where
    never : (k l : ℕ) (x y : Entry) → k < l → slice_get entries k ≡ Some x → slice_get entries l ≡ Some y → x.0 ≡ y.0 → ⊥
    never k l x y before at there same =
        let less : is_lt (path_cmp x.0 y.0) ≡ true = ascends-apart entry_cmp entries k l x y up before at there in
        let bad : false ≡ true = sym (ap is_lt (ap (path_cmp x.0) (sym same) ∙ path_cmp-same x.0)) ∙ less in cc

    by : (b : Bool) → nat_lt i j ≡ b → (c : Bool) → nat_lt j i ≡ c → i ≡ j
    by true e c f = absurd (never i j one other (ltb-true i j e) at there same)
    by false e true f = absurd (never j i other one (ltb-true j i f) there at (sym same))
    by false e false f = omega (arith, ltb-false i j e, ltb-false j i f)

pub parents-get : (rows : List SheetRow) (j : ℕ) → slice_get (parents_of rows) j ≡ option_map (λ row. row.parent) (slice_get rows (suc j))
parents-get [] j = refl
parents-get (root ∷ rows) j = slice_get-map (λ (row : SheetRow). row.parent) rows j

named-get : (rows : List SheetRow) (j : ℕ) (row : SheetRow) → list_all (λ row. is_some row.name) (drop 1 rows) ≡ true → slice_get rows (suc j) ≡ Some row → is_some row.name ≡ true
named-get [] j row all at = let bad : None ≡ Some row = at in cc
named-get (root ∷ rows) j row all at = list_all-get (λ row. is_some row.name) rows j row all at

some-name : (name : Option PathName) → is_some name ≡ true → (own : PathName) × (name ≡ Some own)
some-name None is = let bad : false ≡ true = is in cc
some-name (Some own) is = (own, refl)

root-row : (rows : List SheetRow) → IsSomeAnd (slice_get rows 0) (λ row. (row.name ≡ None) × (row.parent ≡ 0)) → (root : SheetRow) × (slice_get rows 0 ≡ Some root) × (root.name ≡ None) × (root.parent ≡ 0)
root-row [] is = absurd is
root-row (root ∷ rows) is = (root, refl, is.0, is.1)

-- the number after the subtree of an entry
pub afters-get : (start : ℕ) (entries : Entries) (k : ℕ) (entry : Entry) → slice_get entries k ≡ Some entry → slice_get (afters_from start entries) k ≡ Some (suc (start + k + count_deeper (length entry.0) (drop (suc k) entries)))
afters-get start [] k entry at = let bad : None ≡ Some entry = at in cc
afters-get start (first ∷ entries) zero entry at =
    ap (λ (e : Entry). Some (suc (start + count_deeper (length e.0) entries))) (some-same first entry at) ∙ ap Some (omega arith)
afters-get start (first ∷ entries) (suc k) entry at =
    afters-get (suc start) entries k entry at ∙ ap Some (omega arith)

-- the name of the row of a number, as bytes
abbrev pub own_name : List SheetRow → ℕ → PathName
own_name rows number = unwrap_or (row_name rows number) []

names-along : (directory : PathNames) (number n : ℕ) (key : ℕ → PathName) (entries : Entries) (parents : List ℕ) → length entries ≡ length parents
    → ((j : ℕ) (entry : Entry) (parent : ℕ) → slice_get entries j ≡ Some entry → slice_get parents j ≡ Some parent → name_below directory entry.0 ≡ cond (parent == n) (Some (key (number + j))) None)
    → filter_map (λ entry. name_below directory entry.0) entries ≡ map key (kid_numbers number parents n)
names-along directory number n key [] [] same each = refl
names-along directory number n key [] (parent ∷ parents) same each = absurd (omega (arith, same))
names-along directory number n key (entry ∷ entries) [] same each = absurd (omega (arith, same))
names-along directory number n key (entry ∷ entries) (parent ∷ parents) same each =
    let later = names-along directory (suc number) n key entries parents (omega (arith, same)) (λ j other p at listed. each (suc j) other p at listed ∙ ap (λ m. cond (p == n) (Some (key m)) None) (omega arith)) in
    ap (λ o. cons_option o (filter_map (λ e. name_below directory e.0) entries)) (each 0 entry parent refl refl ∙ ap (λ m. cond (parent == n) (Some (key m)) None) (omega arith))
    ∙ (ap (cons_option (cond (parent == n) (Some (key number)) None)) later ∙ by (parent == n))
  where
    by : (b : Bool) → cons_option (cond b (Some (key number)) None) (map key (kid_numbers (suc number) parents n)) ≡ map key (cond b (number ∷ kid_numbers (suc number) parents n) (kid_numbers (suc number) parents n))
    by true = refl
    by false = refl

names-from_root : (directory : PathNames) (n : ℕ) (key : ℕ → PathName) (entries : Entries) (parents : List ℕ) (inode : Inode) → slice_get entries 0 ≡ Some ([], inode) → length entries ≡ suc (length parents)
    → ((j : ℕ) (entry : Entry) (parent : ℕ) → slice_get entries (suc j) ≡ Some entry → slice_get parents j ≡ Some parent → name_below directory entry.0 ≡ cond (parent == n) (Some (key (suc j))) None)
    → filter_map (λ entry. name_below directory entry.0) entries ≡ map key (kid_numbers 1 parents n)
names-from_root directory n key [] parents inode at same each = absurd (omega (arith, same))
names-from_root directory n key (root ∷ entries) parents inode at same each =
    ap (λ (e : Entry). cons_option (name_below directory e.0) (filter_map (λ entry. name_below directory entry.0) entries)) (some-same root ([], inode) at)
    ∙ (ap (λ o. cons_option o (filter_map (λ entry. name_below directory entry.0) entries)) (root-below directory)
    ∙ names-along directory 1 n key entries parents (omega (arith, same)) (λ j entry parent here listed. each j entry parent here listed ∙ ap (λ m. cond (parent == n) (Some (key m)) None) (omega arith)))
  where
    root-below : (directory : PathNames) → name_below directory [] ≡ None
    root-below [] = refl
    root-below (first ∷ directory) = refl

parents-length : (rows : List SheetRow) (root : SheetRow) → slice_get rows 0 ≡ Some root → length rows ≡ suc (length (parents_of rows))
parents-length [] root at = let bad : None ≡ Some root = at in cc
parents-length (first ∷ rows) root at = ap suc (sym (length-map rows (λ (row : SheetRow). row.parent)))

module _ (rows : List SheetRow) (are : AreRows rows) where
  -- a row after the first has a name, and its parent comes before it
  pub row-after : (j : ℕ) (row : SheetRow) → slice_get rows (suc j) ≡ Some row → (row.parent < suc j) × ((name : PathName) × (row.name ≡ Some name))
  row-after j row at =
      let parent : slice_get (parents_of rows) j ≡ Some row.parent = parents-get rows j ∙ ap (option_map (λ (r : SheetRow). r.parent)) at in
      (omega (arith, earlier-get 1 (parents_of rows) j row.parent are.earlier parent), some-name row.name (named-get rows j row are.named at))

  pub row-known : (number : ℕ) (row : SheetRow) → slice_get rows number ≡ Some row → (row.name ≡ None) ⊎ (row.parent < number)
  row-known zero row at =
      let root = root-row rows are.root in
      let same : root.0 ≡ row = some-same root.0 row (sym root.1 ∙ at) in
      inl (ap (λ (r : SheetRow). r.name) (sym same) ∙ root.2)
  row-known (suc j) row at = inr (row-after j row at).0

  -- the entry of a row
  pub entry-of : (number : ℕ) (row : SheetRow) → slice_get rows number ≡ Some row → slice_get (entries_of_rows rows) number ≡ Some (row_path (entries_of_rows rows) row.parent row.name, row.inode)
  entry-of number row at = with-row [] rows number number row (omega arith) at (row-known number row at)

  -- the name of a row is the last one of its entry
  pub named-as : (row : SheetRow) (name : Option PathName) → row.name ≡ name → row.name ≡ last_name (row_path (entries_of_rows rows) row.parent row.name)
  named-as row None e = e ∙ sym (ap (λ n. last_name (row_path (entries_of_rows rows) row.parent n)) e)
  named-as row (Some name) e = e ∙ sym (ap (λ n. last_name (row_path (entries_of_rows rows) row.parent n)) e ∙ last_name-child (path_at (entries_of_rows rows) row.parent) name)

  pub name-at : (number : ℕ) (row : SheetRow) → slice_get rows number ≡ Some row → row.name ≡ last_name (path_at (entries_of_rows rows) number)
  name-at number row at = named-as row row.name refl ∙ ap (λ o. last_name (path_of o)) (sym (entry-of number row at))

module _ (rows : List SheetRow) (below : List (List ℕ)) (marked : List Mark) (is : IsSheet rows below marked) where
  abbrev layer : Entries
  layer = entries_of_rows rows

  pub count : length (entries_of_rows rows) ≡ length rows
  count = omega (arith, with-length [] rows)

  -- a number of an entry is one of a row
  pub row-at : (number : ℕ) → number < length (entries_of_rows rows) → (row : SheetRow) × (slice_get rows number ≡ Some row)
  row-at number inside = by (slice_get rows number) refl
    where
      by : (o : Option SheetRow) → slice_get rows number ≡ o → (row : SheetRow) × (slice_get rows number ≡ Some row)
      by None e = absurd (omega (arith, none-past rows number e, inside, count))
      by (Some row) e = (row, e)

  -- the rows directly below a directory
  pub kid-row : (directory i d : ℕ) → i < length (kid_numbers 1 (parents_of rows) directory)
      → (row : SheetRow) × (slice_get rows (get_or (kid_numbers 1 (parents_of rows) directory) i d) ≡ Some row) × (row.parent ≡ directory) × ((name : PathName) × (row.name ≡ Some name))
  kid-row directory i d inside =
      let kid = kid-in 1 (parents_of rows) directory i d inside in
      let number : get_or (kid_numbers 1 (parents_of rows) directory) i d ≡ suc kid.0 = omega (arith, kid.1) in
      let parent : option_map (λ (row : SheetRow). row.parent) (slice_get rows (suc kid.0)) ≡ Some directory = sym (parents-get rows kid.0) ∙ kid.2 in
      subst (λ n. (row : SheetRow) × (slice_get rows n ≡ Some row) × (row.parent ≡ directory) × ((name : PathName) × (row.name ≡ Some name))) (sym number) (by kid.0 (slice_get rows (suc kid.0)) refl parent)
    where
      by : (j : ℕ) (o : Option SheetRow) → slice_get rows (suc j) ≡ o → option_map (λ (row : SheetRow). row.parent) o ≡ Some directory → (row : SheetRow) × (slice_get rows (suc j) ≡ Some row) × (row.parent ≡ directory) × ((name : PathName) × (row.name ≡ Some name))
      by j None e parent = let bad : None ≡ Some directory = parent in cc
      by j (Some row) e parent = (row, e, some-same row.parent directory parent, (row-after rows is.are j row e).1)

  -- the path of such a row
  pub kid-path : (number directory : ℕ) (row : SheetRow) (name : PathName) → slice_get rows number ≡ Some row → row.parent ≡ directory → row.name ≡ Some name → path_at (entries_of_rows rows) number ≡ child_path (path_at (entries_of_rows rows) directory) name
  kid-path number directory row name at parent named =
      ap path_of (entry-of rows is.are number row at) ∙ (λ j. row_path (entries_of_rows rows) (parent j) (named j))

  -- a name that no row directly below a directory has is no entry, and nothing lies under it
  pub child-none : (directory : ℕ) (name : PathName) → directory < length (entries_of_rows rows)
      → ((i d : ℕ) (row : SheetRow) → i < length (kid_numbers 1 (parents_of rows) directory) → slice_get rows (get_or (kid_numbers 1 (parents_of rows) directory) i d) ≡ Some row → row.name ≡ Some name → ⊥)
      → entries_under (child_path (path_at (entries_of_rows rows) directory) name) (entries_of_rows rows) ≡ []
  child-none directory name inside none =
      none-under (child_path (path_at layer directory) name) layer (all-from layer (λ k entry at. not_under (suc k) k (omega arith) entry at))
    where
      all-from : (entries : Entries) → ((k : ℕ) (entry : Entry) → slice_get entries k ≡ Some entry → lies_under (child_path (path_at layer directory) name) entry.0 ≡ false) → list_all (λ entry. not (lies_under (child_path (path_at layer directory) name) entry.0)) entries ≡ true
      all-from [] each = refl
      all-from (entry ∷ entries) each = rw (each 0 entry refl) (all-from entries (λ k other at. each (suc k) other at))

      here : (k : ℕ) → k < length layer → (entry : Entry) × (slice_get layer k ≡ Some entry)
      here k within = let row = row-at k within in ((row_path layer row.0.parent row.0.name, row.0.inode), entry-of rows is.are k row.0 row.1)

      not_under : (limit k : ℕ) → k < limit → (entry : Entry) → slice_get layer k ≡ Some entry → lies_under (child_path (path_at layer directory) name) entry.0 ≡ false
      not_under zero k less entry at = absurd (omega arith)
      not_under (suc limit) zero less entry at =
          let root = root-row rows is.are.root in
          let path : entry.0 ≡ [] = ap path_of (sym at ∙ entry-of rows is.are 0 root.0 root.1) ∙ ap (row_path layer root.0.parent) root.2 in
          ap (lies_under (child_path (path_at layer directory) name)) path ∙ root-not_under (path_at layer directory) name
      not_under (suc limit) (suc j) less entry at = by (not_under limit) (lies_under (child_path (path_at layer directory) name) entry.0) refl
        where
          row : (row : SheetRow) × (slice_get rows (suc j) ≡ Some row)
          row = row-at (suc j) (slice_get_within layer (suc j) entry at)

          facts : (row.0.parent < suc j) × ((own : PathName) × (row.0.name ≡ Some own))
          facts = row-after rows is.are j row.0 row.1

          own : PathName
          own = facts.1.0

          path : entry.0 ≡ child_path (path_at layer row.0.parent) own
          path = ap path_of (sym at ∙ entry-of rows is.are (suc j) row.0 row.1) ∙ ap (row_path layer row.0.parent) facts.1.1

          parent : (entry : Entry) × (slice_get layer row.0.parent ≡ Some entry)
          parent = here row.0.parent (omega (arith, facts.0, slice_get_within layer (suc j) entry at))

          dir : (entry : Entry) × (slice_get layer directory ≡ Some entry)
          dir = here directory inside

          cases : ((k : ℕ) → k < limit → (entry : Entry) → slice_get layer k ≡ Some entry → lies_under (child_path (path_at layer directory) name) entry.0 ≡ false)
              → ((path_at layer directory ≡ path_at layer row.0.parent) × (name ≡ own)) ⊎ (lies_under (child_path (path_at layer directory) name) (path_at layer row.0.parent) ≡ true) → ⊥
          cases earlier (inl same) =
              let one : directory ≡ row.0.parent = number-one layer directory row.0.parent dir.0 parent.0 is.are.layer.in_order dir.1 parent.1 (sym (ap path_of dir.1) ∙ (same.0 ∙ ap path_of parent.1)) in
              let listed : slice_get (parents_of rows) j ≡ Some directory = parents-get rows j ∙ (ap (option_map (λ (r : SheetRow). r.parent)) row.1 ∙ ap Some (sym one)) in
              let place = kid-has 1 (parents_of rows) directory j listed in
              none place.0 0 row.0 place.1 (ap (slice_get rows) (place.2 0 ∙ omega arith) ∙ row.1) (facts.1.1 ∙ ap Some (sym same.1))
          cases earlier (inr later) =
              let bad : false ≡ true = sym (earlier row.0.parent (omega (arith, facts.0, less)) parent.0 parent.1) ∙ (ap (lies_under (child_path (path_at layer directory) name)) (sym (ap path_of parent.1)) ∙ later) in cc

          by : ((k : ℕ) → k < limit → (entry : Entry) → slice_get layer k ≡ Some entry → lies_under (child_path (path_at layer directory) name) entry.0 ≡ false)
              → (b : Bool) → lies_under (child_path (path_at layer directory) name) entry.0 ≡ b → b ≡ false
          by earlier false e = refl
          by earlier true e = absurd (cases earlier (under-child (path_at layer directory) (path_at layer row.0.parent) name own (ap (lies_under (child_path (path_at layer directory) name)) (sym path) ∙ e)))

  -- the path of a number in the sheet is no path of nothing
  pub under-some : (number : ℕ) → number < length (entries_of_rows rows) → entries_under (path_at (entries_of_rows rows) number) (entries_of_rows rows) ≢ []
  under-some number inside none =
      let row = row-at number inside in
      let entry : Entry = (row_path layer row.0.parent row.0.name, row.0.inode) in
      let at : slice_get layer number ≡ Some entry = entry-of rows is.are number row.0 row.1 in
      let found : entry_at layer entry.0 ≡ Some entry.1 = entry_at-number layer number entry is.are.layer.in_order at in
      let bad : None ≡ Some entry.1 =
      ap (λ (entries : Entries). entry_at entries []) (sym none)
      ∙ (sym (entry_at-under (path_at layer number) layer) ∙ (ap (λ o. entry_at layer (path_of o)) at ∙ found)) in cc

  -- the inode of a row is that at its path, and at its place
  pub entry_at-row : (number : ℕ) (row : SheetRow) → slice_get rows number ≡ Some row → entry_at (entries_of_rows rows) (path_at (entries_of_rows rows) number) ≡ Some row.inode
  entry_at-row number row at =
      let entry : Entry = (row_path layer row.parent row.name, row.inode) in
      let here : slice_get layer number ≡ Some entry = entry-of rows is.are number row at in
      ap (λ o. entry_at layer (path_of o)) here ∙ entry_at-number layer number entry is.are.layer.in_order here

  pub inode-at : (number : ℕ) (row : SheetRow) → slice_get rows number ≡ Some row → entry_at (entries_under (path_at (entries_of_rows rows) number) (entries_of_rows rows)) [] ≡ Some row.inode
  inode-at number row at = sym (entry_at-under (path_at layer number) layer) ∙ entry_at-row number row at

  -- the name of a row directly below a directory, as the search compares it
  own_named : (directory i d : ℕ) (name : PathName) → i < length (kid_numbers 1 (parents_of rows) directory)
      → kid_order rows name (get_or (kid_numbers 1 (parents_of rows) directory) i d) ≡ name_cmp (own_name rows (get_or (kid_numbers 1 (parents_of rows) directory) i d)) name
  own_named directory i d name inside =
      let row = kid-row directory i d inside in
      ap (λ o. name_order (name_of_row o) name) row.1
      ∙ (ap (λ n. name_order n name) row.3.1
      ∙ sym (ap (λ o. name_cmp (unwrap_or (name_of_row o) []) name) row.1 ∙ ap (λ n. name_cmp (unwrap_or n []) name) row.3.1))

  -- the names of the rows directly below a directory rise
  kid-ascends : (directory k d : ℕ) → suc k < length (kid_numbers 1 (parents_of rows) directory)
      → is_lt (name_cmp (own_name rows (get_or (kid_numbers 1 (parents_of rows) directory) (suc k) d)) (own_name rows (get_or (kid_numbers 1 (parents_of rows) directory) k d))) ≡ false
  kid-ascends directory k d inside =
      let kids : List ℕ = kid_numbers 1 (parents_of rows) directory in
      let one = kid-row directory k d (omega (arith, inside)) in
      let other = kid-row directory (suc k) d inside in
      let dir : PathNames = path_at layer directory in
      let first : Entry = (row_path layer one.0.parent one.0.name, one.0.inode) in
      let second : Entry = (row_path layer other.0.parent other.0.name, other.0.inode) in
      let before : is_lt (path_cmp first.0 second.0) ≡ true =
      ascends-apart entry_cmp layer (get_or kids k d) (get_or kids (suc k) d) first second is.are.layer.in_order (kid-rises 1 (parents_of rows) directory k d inside) (entry-of rows is.are (get_or kids k d) one.0 one.1) (entry-of rows is.are (get_or kids (suc k) d) other.0 other.1) in
      let beside : is_lt (path_cmp (child_path dir one.3.0) (child_path dir other.3.0)) ≡ true =
      (λ j. is_lt (path_cmp (row_path layer (sym one.2 j) (sym one.3.1 j)) (row_path layer (sym other.2 j) (sym other.3.1 j)))) ∙ before in
      let after : is_lt (name_cmp other.3.0 one.3.0) ≡ false =
      ap is_lt (reversed nat_list_cmp_total one.3.0 other.3.0 (path_cmp-beside dir one.3.0 other.3.0 beside)) in
      let named : own_name rows (get_or kids (suc k) d) ≡ other.3.0 = ap (λ o. unwrap_or (name_of_row o) []) other.1 ∙ ap (λ n. unwrap_or n []) other.3.1 in
      let own : own_name rows (get_or kids k d) ≡ one.3.0 = ap (λ o. unwrap_or (name_of_row o) []) one.1 ∙ ap (λ n. unwrap_or n []) one.3.1 in
      (λ j. is_lt (name_cmp (named j) (own j))) ∙ after

  searchable : (directory : ℕ) (name : PathName) → IsNonDecreasingBy (λ kid. ordering_index (kid_order rows name kid)) (kid_numbers 1 (parents_of rows) directory)
  searchable directory name i j d low inside =
      let kids : List ℕ = kid_numbers 1 (parents_of rows) directory in
      let sorted : IsNonDecreasingBy (λ kid. ordering_index (name_cmp (own_name rows kid) name)) kids =
      searchable_from_sorted nat_list_cmp_total (own_name rows) kids name (λ k e low within. rw add-one (kid-ascends directory k e (omega (arith, within)))) in
      omega (arith, sorted i j d low inside, ap ordering_index (own_named directory i d name (omega (arith, low, inside))), ap ordering_index (own_named directory j d name inside))

  -- where the search found a place, the row there is the entry
  pub child-found : (directory place : ℕ) (name : PathName) → place < length (kid_numbers 1 (parents_of rows) directory)
      → IsBinarySearchResult (kid_order rows name) (kid_numbers 1 (parents_of rows) directory) (Ok place)
      → (get_or (kid_numbers 1 (parents_of rows) directory) place 0 < length (entries_of_rows rows))
      × (path_at (entries_of_rows rows) (get_or (kid_numbers 1 (parents_of rows) directory) place 0) ≡ child_path (path_at (entries_of_rows rows) directory) name)
  child-found directory place name inside answer =
      let kid : ℕ = get_or (kid_numbers 1 (parents_of rows) directory) place 0 in
      let row = kid-row directory place 0 inside in
      let equal : name_cmp row.3.0 name ≡ Equal = sym (ap (λ o. name_order (name_of_row o) name) row.1 ∙ ap (λ n. name_order n name) row.3.1) ∙ answer 0 in
      let same : row.3.0 ≡ name = (bytes_decides row.3.0 name).0 (name_eq-cmp row.3.0 name Equal equal) in (
        slice_get_within layer kid (row_path layer row.0.parent row.0.name, row.0.inode) (entry-of rows is.are kid row.0 row.1),
        kid-path kid directory row.0 row.3.0 row.1 row.2 row.3.1 ∙ ap (child_path (path_at layer directory)) same,
      )

  -- where it found none, there is no entry
  pub child-missing : (directory place : ℕ) (name : PathName) → directory < length (entries_of_rows rows)
      → IsBinarySearchResult (kid_order rows name) (kid_numbers 1 (parents_of rows) directory) (Err place)
      → entries_under (child_path (path_at (entries_of_rows rows) directory) name) (entries_of_rows rows) ≡ []
  child-missing directory place name inside answer = child-none directory name inside other
    where
      never : (o : Ordering) → name_cmp name name ≡ o → is_eq o ≡ false → ⊥
      never o e differs = let bad : false ≡ true = sym (name_eq-cmp name name o e ∙ differs) ∙ name_eq-same name in cc

      other : (i d : ℕ) (row : SheetRow) → i < length (kid_numbers 1 (parents_of rows) directory) → slice_get rows (get_or (kid_numbers 1 (parents_of rows) directory) i d) ≡ Some row → row.name ≡ Some name → ⊥
      other i d row within at named =
          let parts = answer (searchable directory name) in
          let here : kid_order rows name (get_or (kid_numbers 1 (parents_of rows) directory) i d) ≡ name_cmp name name =
          ap (λ o. name_order (name_of_row o) name) at ∙ ap (λ n. name_order n name) named in
          elim (cases_lt i place) [
            | inl before ↦ never Less (sym here ∙ parts.0 i d (omega arith) before) refl
            | inr after ↦ never Greater (sym here ∙ parts.1 i d after within) refl
          ]

  -- ---- the names in a directory

  path_eq-number : (directory parent : ℕ) → directory < length (entries_of_rows rows) → parent < length (entries_of_rows rows) → path_eq (path_at (entries_of_rows rows) directory) (path_at (entries_of_rows rows) parent) ≡ (parent == directory)
  path_eq-number directory parent inside within = by (parent == directory) refl (path_eq (path_at layer directory) (path_at layer parent)) refl
    where
      by : (b : Bool) → (parent == directory) ≡ b → (c : Bool) → path_eq (path_at layer directory) (path_at layer parent) ≡ c → c ≡ b
      by true e true f = refl
      by false e false f = refl
      by true e false f =
          let same : parent ≡ directory = grind (arith, nat_tests) in
          let bad : false ≡ true = sym f ∙ (ap (λ n. path_eq (path_at layer directory) (path_at layer n)) same ∙ (pointwise_decides bytes_decides (path_at layer directory) (path_at layer directory)).1 refl) in cc
      by false e true f =
          let one = row-at directory inside in
          let other = row-at parent within in
          let first : Entry = (row_path layer one.0.parent one.0.name, one.0.inode) in
          let second : Entry = (row_path layer other.0.parent other.0.name, other.0.inode) in
          let paths : path_at layer directory ≡ path_at layer parent = (pointwise_decides bytes_decides (path_at layer directory) (path_at layer parent)).0 f in
          let same : directory ≡ parent = number-one layer directory parent first second is.are.layer.in_order (entry-of rows is.are directory one.0 one.1) (entry-of rows is.are parent other.0 other.1) (sym (ap path_of (entry-of rows is.are directory one.0 one.1)) ∙ (paths ∙ ap path_of (entry-of rows is.are parent other.0 other.1))) in
          let bad : false ≡ true = sym e ∙ grind (arith, nat_tests) in cc

  named-below : (directory : ℕ) → directory < length (entries_of_rows rows) → (j : ℕ) (entry : Entry) (parent : ℕ)
      → slice_get (entries_of_rows rows) (suc j) ≡ Some entry → slice_get (parents_of rows) j ≡ Some parent
      → name_below (path_at (entries_of_rows rows) directory) entry.0 ≡ cond (parent == directory) (Some (own_name rows (suc j))) None
  named-below directory inside j entry parent at listed =
      let row = row-at (suc j) (slice_get_within layer (suc j) entry at) in
      let facts = row-after rows is.are j row.0 row.1 in
      let same : row.0.parent ≡ parent = some-same row.0.parent parent (sym (parents-get rows j ∙ ap (option_map (λ (r : SheetRow). r.parent)) row.1) ∙ listed) in
      let path : entry.0 ≡ child_path (path_at layer row.0.parent) facts.1.0 =
      ap path_of (sym at ∙ entry-of rows is.are (suc j) row.0 row.1) ∙ ap (row_path layer row.0.parent) facts.1.1 in
      let own : own_name rows (suc j) ≡ facts.1.0 = ap (λ o. unwrap_or (name_of_row o) []) row.1 ∙ ap (λ n. unwrap_or n []) facts.1.1 in
      let within : row.0.parent < length layer = omega (arith, facts.0, slice_get_within layer (suc j) entry at) in
      ap (name_below (path_at layer directory)) path
      ∙ (name_below-child (path_at layer directory) (path_at layer row.0.parent) facts.1.0
      ∙ (λ k. cond ((path_eq-number directory row.0.parent inside within ∙ ap (λ p. p == directory) same) k) (Some (sym own k)) None))

  pub names-of : (directory : ℕ) → directory < length (entries_of_rows rows) → names_below (entries_of_rows rows) (path_at (entries_of_rows rows) directory) ≡ map (own_name rows) (kid_numbers 1 (parents_of rows) directory)
  names-of directory inside =
      let root = root-row rows is.are.root in
      names-from_root (path_at layer directory) directory (own_name rows) layer (parents_of rows) (root.0.inode) (entry-of rows is.are 0 root.0 root.1 ∙ ap (λ n. Some (row_path layer root.0.parent n, root.0.inode)) root.2) (omega (arith, count, parents-length rows root.0 root.1)) (named-below directory inside)

  -- ---- what the sheet says of a number

  pub root-path : path_at (entries_of_rows rows) 0 ≡ []
  root-path =
      let root = root-row rows is.are.root in
      ap path_of (entry-of rows is.are 0 root.0 root.1) ∙ ap (row_path layer root.0.parent) root.2

  pub root-inside : 0 < length (entries_of_rows rows)
  root-inside = let root = root-row rows is.are.root in slice_get_within layer 0 (row_path layer root.0.parent root.0.name, root.0.inode) (entry-of rows is.are 0 root.0 root.1)

  pub mark-at : (number : ℕ) (mark : Mark) → number < length (entries_of_rows rows) → slice_get marked number ≡ Some mark → option_map mark_of (entry_at (entries_of_rows rows) (path_at (entries_of_rows rows) number)) ≡ Some mark
  mark-at number mark inside at =
      let row = row-at number inside in
      ap (option_map mark_of) (entry_at-row number row.0 row.1)
      ∙ (sym (ap (option_map (λ (row : SheetRow). mark_of row.inode)) row.1)
      ∙ (sym (slice_get-map (λ (row : SheetRow). mark_of row.inode) rows number)
      ∙ (ap (λ (marks : List Mark). slice_get marks number) (sym is.marks) ∙ at)))

  -- the paths of the rows directly below a directory
  pub kids-inside : (directory : ℕ) → All (λ kid. kid < length (entries_of_rows rows)) (kid_numbers 1 (parents_of rows) directory)
  kids-inside directory i d inside =
      let row = kid-row directory i d inside in
      omega (arith, slice_get_within rows (get_or (kid_numbers 1 (parents_of rows) directory) i d) row.0 row.1, count)

  pub kids-paths : (directory : ℕ) → directory < length (entries_of_rows rows) → map (path_at (entries_of_rows rows)) (kid_numbers 1 (parents_of rows) directory) ≡ map (child_path (path_at (entries_of_rows rows) directory)) (names_below (entries_of_rows rows) (path_at (entries_of_rows rows) directory))
  kids-paths directory inside =
      map-each (path_at layer) (λ kid. child_path (path_at layer directory) (own_name rows kid)) (kid_numbers 1 (parents_of rows) directory) each
      ∙ (sym (map-map (child_path (path_at layer directory)) (own_name rows) (kid_numbers 1 (parents_of rows) directory))
      ∙ ap (map (child_path (path_at layer directory))) (sym (names-of directory inside)))
    where
      each : (i d : ℕ) → i < length (kid_numbers 1 (parents_of rows) directory) → path_at layer (get_or (kid_numbers 1 (parents_of rows) directory) i d) ≡ child_path (path_at layer directory) (own_name rows (get_or (kid_numbers 1 (parents_of rows) directory) i d))
      each i d within =
          let row = kid-row directory i d within in
          kid-path (get_or (kid_numbers 1 (parents_of rows) directory) i d) directory row.0 row.3.0 row.1 row.2 row.3.1
          ∙ ap (child_path (path_at layer directory)) (sym (ap (λ o. unwrap_or (name_of_row o) []) row.1 ∙ ap (λ n. unwrap_or n []) row.3.1))

  parent-at : (number : ℕ) (row : SheetRow) → slice_get rows number ≡ Some row → (entry : Entry) × (slice_get layer row.parent ≡ Some entry) × (entry.0 ≡ parent_path (path_at layer number))
  parent-at zero row at =
      let root = root-row rows is.are.root in
      let same : root.0 ≡ row = some-same root.0 row (sym root.1 ∙ at) in
      let own : row.parent ≡ 0 = ap (λ (r : SheetRow). r.parent) (sym same) ∙ root.3 in (
        (row_path layer root.0.parent root.0.name, root.0.inode),
        ap (slice_get layer) own ∙ entry-of rows is.are 0 root.0 root.1,
        ap (row_path layer root.0.parent) root.2 ∙ sym (ap parent_path root-path),
      )
  parent-at (suc j) row at =
      let facts = row-after rows is.are j row at in
      let above = row-at row.parent (omega (arith, facts.0, slice_get_within rows (suc j) row at, count)) in
      let here : slice_get layer row.parent ≡ Some (row_path layer above.0.parent above.0.name, above.0.inode) = entry-of rows is.are row.parent above.0 above.1 in (
        (row_path layer above.0.parent above.0.name, above.0.inode),
        here,
        sym (ap path_of here) ∙ sym (ap parent_path (kid-path (suc j) row.parent row facts.1.0 at refl facts.1.1) ∙ parent_path-child (path_at layer row.parent) facts.1.0),
      )

  pub row-of : (number : ℕ) (row : SheetRow) → slice_get rows number ≡ Some row → IsRowOf (entries_of_rows rows) number row
  row-of number row at =
      let own : Entry = (row_path layer row.parent row.name, row.inode) in
      let here : slice_get layer number ≡ Some own = entry-of rows is.are number row at in
      let above = parent-at number row at in
      let after : Some row.after ≡ Some (suc (0 + number + count_deeper (length own.0) (drop (suc number) layer))) =
      sym (slice_get-map (λ (r : SheetRow). r.after) rows number ∙ ap (option_map (λ (r : SheetRow). r.after)) at)
      ∙ (ap (λ (ns : List ℕ). slice_get ns number) is.afters ∙ afters-get 0 layer number own here) in
      record {
        name = subst (λ o. IsSomeAnd o (λ entry. row.name ≡ last_name entry.0)) (sym here) (named-as rows is.are row row.name refl);
        inode = subst (λ o. IsSomeAnd o (λ entry. row.inode ≡ entry.1)) (sym here) refl;
        parent = subst (λ o. IsSomeAnd o (λ entry. entry.0 ≡ parent_path (path_at layer number))) (sym above.1) above.2;
        after = some-same row.after (suc (0 + number + count_deeper (length own.0) (drop (suc number) layer))) after
            ∙ ((λ j. suc (0 + number + count_deeper (length (sym (ap path_of here) j)) (drop (suc number) layer))) ∙ omega arith);
      }

-- the numbers that a sheet keeps for a directory
pub has-numbers : (rows : List SheetRow) (below : List (List ℕ)) (marked : List Mark) → IsSheet rows below marked → (directory : ℕ) → directory < length (entries_of_rows rows) → directory < length below
has-numbers rows below marked is directory inside =
    slice_get_within below directory (kid_numbers 1 (parents_of rows) directory) (is.kids directory (omega (arith, inside, count rows below marked is)))

pub own-numbers : (rows : List SheetRow) (below : List (List ℕ)) (marked : List Mark) → IsSheet rows below marked
    → (directory : ℕ) (own : List ℕ) → directory < length (entries_of_rows rows) → slice_get below directory ≡ Some own → own ≡ kid_numbers 1 (parents_of rows) directory
own-numbers rows below marked is directory own inside at =
    some-same own (kid_numbers 1 (parents_of rows) directory) (sym at ∙ is.kids directory (omega (arith, inside, count rows below marked is)))
