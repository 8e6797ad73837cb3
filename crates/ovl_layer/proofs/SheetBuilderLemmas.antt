-- Rows of which one more comes at the end, and the numbers of those on the way to it.
use Rattle.std.proofs.Common.{◌≡◌, ℕ, zero, suc, ◌+◌, ◌-◌, ◌<◌, ◌≤◌, length, map, take, true, false, Option, Some, None, List, [], ◌∷◌, ◌++◌, refl, sym, ap, ◌∙◌, subst, arith, get_or, inl, inr, ◌⊎◌, length-append, length-take-le, add-one}
use Rattle.std.specs.Prelude.{nat_lt, is_some, slice_get, IsSomeAnd}
use Rattle.std.specs.List.{list_all}
use Rattle.std.specs.Ordering.{is_lt}
use Rattle.std.specs.declared.cmp.Ordering.{Ordering}
use Rattle.std.specs.declared.cmp.Ordering.TheVariants.{Less, Equal, Greater}
use Rattle.std.proofs.Math.Seq.{take-length}
use Rattle.std.proofs.lemmas.Bool.{cases_lt, lt-ltb}
use Rattle.std.proofs.lemmas.Option.{slice_get_read}
use Rattle.std.proofs.lemmas.List.{length-map, map-append}
use Rattle.std.proofs.lemmas.List.Folds.{list_all-append}
use Rattle.ovl_names.specs.Names.{PathName, name_cmp, is_name}
use Rattle.ovl_names.specs.Paths.{PathNames, path_cmp, child_path, has_names}
use Rattle.ovl_names.specs.Order.{ascends}
use Rattle.ovl_names.proofs.Ascending.{both, list_all-front}
use Rattle.ovl_names.proofs.NameLemmas.{has_names-child, has_names-take}
use Rattle.ovl_inode.specs.declared.inodes.Inode.{Inode}
use Rattle.ovl_inode.specs.Attributes.{has_escaped_name}
use Rattle.ovl_inode.specs.Marks.{is_directory}
use Rattle.ovl_inode.specs.Sound.{is_sound_inode}
use Rattle.ovl_layer.specs.declared.sheets.SheetRow.{SheetRow}
use Rattle.ovl_layer.specs.Layers.{Entry, Entries, entry_cmp, entry_at, is_directory_at, is_within_limits, entry_limit, IsLayer}
use Rattle.ovl_layer.specs.Entries.{comes_after}
use Rattle.ovl_layer.specs.Sheets.{last_name, path_of, path_at, row_path, entries_with, entries_of_rows, are_earlier, AreRows}
use Rattle.ovl_layer.specs.SheetBuilders.{AreBuilt}
use Rattle.ovl_layer.proofs.OpenLemmas.{path_cmp-under}
use Rattle.ovl_layer.proofs.LayerLemmas.{comes_after-last, IsLayer-more, IsLayer-root}
use Rattle.ovl_layer.proofs.SheetLemmas.{name-at, slice_get-front, slice_get-seam, some-same, length-child, parent_path-child, with-front, with-length, entry_at-number}

-- ---- an entry in a directory on the way to the last

-- it comes after the last path where its name comes after the last path's there, or the last path has no more names
pub child_after : (last : PathNames) (depth : ℕ) (name d : PathName) → depth < length last → is_lt (path_cmp last (child_path (take depth last) name)) ≡ is_lt (name_cmp (get_or last depth d) name)
child_after [] depth name d inside = absurd (omega (arith, inside))
child_after (own ∷ last) (suc depth) name d inside = ap is_lt (path_cmp-under own last (child_path (take depth last) name)) ∙ child_after last depth name d (omega (arith, inside))
child_after (own ∷ last) zero name d inside = by (name_cmp own name) refl
  where
    no_less : (more : PathNames) → is_lt (path_cmp more []) ≡ false
    no_less [] = refl
    no_less (first ∷ more) = refl

    by : (o : Ordering) → name_cmp own name ≡ o → is_lt (path_cmp (own ∷ last) (name ∷ [])) ≡ is_lt (name_cmp own name)
    by Less e = rw e refl
    by Equal e = rw e (no_less last)
    by Greater e = rw e refl

pub child_after-end : (last : PathNames) (name : PathName) → is_lt (path_cmp last (child_path (take (length last) last) name)) ≡ true
child_after-end [] name = refl
child_after-end (own ∷ last) name = ap is_lt (path_cmp-under own last (child_path (take (length last) last) name)) ∙ child_after-end last name

-- its path goes the way of the last path as far as its directory
pub take-child : (last : PathNames) (depth d : ℕ) (name : PathName) → d ≤ depth → depth ≤ length last → take d (child_path (take depth last) name) ≡ take d last
take-child last depth zero name shallow within = refl
take-child [] depth (suc d) name shallow within = absurd (omega (arith, shallow, within))
take-child (own ∷ last) zero (suc d) name shallow within = absurd (omega (arith, shallow))
take-child (own ∷ last) (suc depth) (suc d) name shallow within =
    ap (λ (path : PathNames). own ∷ path) (take-child last depth d name (omega (arith, shallow)) (omega (arith, within)))

-- the path of the last of some entries
pub path-end : (entries front : Entries) (entry : Entry) → entries ≡ front ++ entry ∷ [] → path_at entries (length entries - 1) ≡ entry.0
path-end entries front entry ends =
    let last : length entries - 1 ≡ length front = omega (arith, ap length ends, length-append front (entry ∷ [])) in
    ap (path_at entries) last ∙ (ap (λ (es : Entries). path_at es (length front)) ends ∙ ap path_of (slice_get-seam front entry []))

-- ---- rows, and one more

pub slice_get-take : {X : Type 0} (xs : List X) (n k : ℕ) → k < n → slice_get (take n xs) k ≡ slice_get xs k
slice_get-take xs zero k less = absurd (omega (arith, less))
slice_get-take [] (suc n) k less = refl
slice_get-take (x ∷ xs) (suc n) zero less = refl
slice_get-take (x ∷ xs) (suc n) (suc k) less = slice_get-take xs n k (omega (arith, less))

-- its entry is at the end
with-more : (before : Entries) (rows : List SheetRow) (row : SheetRow) → entries_with before (rows ++ row ∷ []) ≡ entries_with before rows ++ (row_path (entries_with before rows) row.parent row.name, row.inode) ∷ []
with-more before [] row = refl
with-more before (first ∷ rows) row = with-more (before ++ (row_path before first.parent first.name, first.inode) ∷ []) rows row

earlier-more : (number : ℕ) (parents : List ℕ) (parent : ℕ) → are_earlier number parents ≡ true → parent < number + length parents → are_earlier number (parents ++ parent ∷ []) ≡ true
earlier-more number [] parent all less = rw (lt-ltb parent number (omega (arith, less))) refl
earlier-more number (first ∷ parents) parent all less =
    let parts = both {a = nat_lt first number} {b = are_earlier (suc number) parents} all in
    rw parts.0 (earlier-more (suc number) parents parent parts.1 (omega (arith, less)))

AreRows-more : (rows : List SheetRow) (row : SheetRow) (name : PathName) → AreRows rows → row.name ≡ Some name → row.parent < length rows → IsLayer (entries_of_rows (rows ++ row ∷ [])) → AreRows (rows ++ row ∷ [])
AreRows-more [] row name is named less layer = absurd is.root
AreRows-more (root ∷ rows) row name is named less layer = record {
  layer = layer;
  root = is.root;
  named = rw (list_all-append (λ (own : SheetRow). is_some own.name) rows (row ∷ []), is.named, named) refl;
  earlier = ap (are_earlier 1) (map-append (λ (own : SheetRow). own.parent) rows (row ∷ []))
      ∙ earlier-more 1 (map (λ (own : SheetRow). own.parent) rows) row.parent is.earlier (omega (arith, less, length-map rows (λ (own : SheetRow). own.parent)));
}

-- the entry of a row has its inode
with-inode : (before : Entries) (rows : List SheetRow) (i n : ℕ) (row : SheetRow) → n ≡ length before + i → slice_get rows i ≡ Some row → (path : PathNames) × (slice_get (entries_with before rows) n ≡ Some (path, row.inode))
with-inode before [] i n row is at = let bad : None ≡ Some row = at in cc
with-inode before (first ∷ rows) zero n row is at =
    let own : Entry = (row_path before first.parent first.name, first.inode) in
    let here : n ≡ length before = omega (arith, is) in (
      own.0,
      with-front (before ++ own ∷ []) rows n (omega (arith, here, length-append before (own ∷ [])))
          ∙ (ap (slice_get (before ++ own ∷ [])) here
          ∙ (slice_get-seam before own [] ∙ ap (λ (same : SheetRow). Some (own.0, same.inode)) (some-same first row at))),
    )
with-inode before (first ∷ rows) (suc i) n row is at =
    let own : Entry = (row_path before first.parent first.name, first.inode) in
    with-inode (before ++ own ∷ []) rows i n row (omega (arith, is, length-append before (own ∷ []))) at

-- ---- only a root

pub root-builder : (inode : Inode) (next : ℕ) → is_directory inode ≡ true → is_sound_inode inode ≡ true → has_escaped_name inode.attrs ≡ false → AreBuilt ((record { name = None; inode = inode; parent = 0; after = next }) ∷ []) (0 ∷ []) []
root-builder inode next directory sound unescaped = record {
  made = record {
    layer = IsLayer-root inode directory sound unescaped;
    root = (refl, refl);
    named = refl;
    earlier = refl;
  };
  count = refl;
  numbers = numbers;
  ends = ([], inode, refl);
}
  where
    numbers : (depth : ℕ) → depth ≤ 0 → IsSomeAnd (slice_get (0 ∷ []) depth) (λ number. (number < 1) × (path_at (([], inode) ∷ []) number ≡ take depth []))
    numbers zero within = (omega arith, refl)
    numbers (suc depth) within = absurd (omega (arith, within))

-- the last of the first names of a path
last_name-take : (path : PathNames) (depth : ℕ) (d : PathName) → depth < length path → last_name (take (suc depth) path) ≡ Some (get_or path depth d)
last_name-take [] depth d inside = absurd (omega (arith, inside))
last_name-take (own ∷ path) zero d inside = refl
last_name-take (own ∷ []) (suc depth) d inside = absurd (omega (arith, inside))
last_name-take (own ∷ next ∷ path) (suc depth) d inside = last_name-take (next ∷ path) depth d (omega (arith, inside))

-- ---- a builder

module _ (rows : List SheetRow) (way : List ℕ) (last : PathNames) (is : AreBuilt rows way last) where
  pub rows-count : length (entries_of_rows rows) ≡ length rows
  rows-count = omega (arith, with-length [] rows)

  -- the last path is made of names
  pub last_named : has_names last ≡ true
  last_named =
      let all = subst (λ (es : Entries). list_all (λ entry. has_names entry.0) es ≡ true) is.ends.2 is.made.layer.named in
      let here = (list_all-front (λ (entry : Entry). has_names entry.0) is.ends.0 ((last, is.ends.1) ∷ []) all).1 in
      (both {a = has_names last} {b = true} here).0

  module _ (depth parent : ℕ) (within : depth ≤ length last) (at : slice_get way depth ≡ Some parent) where
    -- the row of a number on the way to the last path
    pub on_way : (parent < length rows) × (path_at (entries_of_rows rows) parent ≡ take depth last)
    on_way = subst (λ (o : Option ℕ). IsSomeAnd o (λ number. (number < length rows) × (path_at (entries_of_rows rows) number ≡ take depth last))) at (is.numbers depth within)

    pub directory-on_way : (row : SheetRow) → slice_get rows parent ≡ Some row → is_directory row.inode ≡ is_directory_at (entries_of_rows rows) (take depth last)
    directory-on_way row listed =
        let found = with-inode [] rows parent parent row (omega arith) listed in
        let here : entry_at (entries_of_rows rows) found.0 ≡ Some row.inode = entry_at-number (entries_of_rows rows) parent (found.0, row.inode) is.made.layer.in_order found.1 in
        let path : take depth last ≡ found.0 = sym on_way.1 ∙ ap path_of found.1 in
        let there : entry_at (entries_of_rows rows) (take depth last) ≡ Some row.inode = ap (entry_at (entries_of_rows rows)) path ∙ here in
        rw (there, is_directory_at) refl

    module _ (name : PathName) (inode : Inode) (next : ℕ) where
      abbrev path : PathNames
      path = child_path (take depth last) name

      abbrev row : SheetRow
      row = record { name = Some name; inode = inode; parent = parent; after = next }

      pub entered : entries_of_rows (rows ++ (record { name = Some name; inode = inode; parent = parent; after = next }) ∷ []) ≡ entries_of_rows rows ++ (child_path (take depth last) name, inode) ∷ []
      entered = with-more [] rows row ∙ ap (λ (directory : PathNames). entries_of_rows rows ++ (child_path directory name, inode) ∷ []) on_way.1

      -- the number is that of the row of the first names of the new path
      abbrev Leads : ℕ → ℕ → Type 0
      Leads d number = (number < length (rows ++ row ∷ [])) × (path_at (entries_of_rows (rows ++ row ∷ [])) number ≡ take d path)

      number-kept : (number d : ℕ) → d ≤ depth → (number < length rows) × (path_at (entries_of_rows rows) number ≡ take d last) → Leads d number
      number-kept number d shallow old = (
        omega (arith, old.0, length-append rows (row ∷ [])),
        ap (λ (es : Entries). path_at es number) entered
            ∙ (ap path_of (slice_get-front (entries_of_rows rows) ((path, inode) ∷ []) number (omega (arith, old.0, rows-count)))
            ∙ (old.1 ∙ sym (take-child last depth d name shallow within))),
      )

      way-count : length (take (depth + 1) way) ≡ suc depth
      way-count = length-take-le (depth + 1) way (omega (arith, within, is.count)) ∙ omega arith

      way-entered : (d : ℕ) → d ≤ length path → IsSomeAnd (slice_get (take (depth + 1) way ++ length rows ∷ []) d) (Leads d)
      way-entered d inside = by (cases_lt d (suc depth))
        where
          kept : (o : Option ℕ) → d ≤ depth → IsSomeAnd o (λ number. (number < length rows) × (path_at (entries_of_rows rows) number ≡ take d last)) → IsSomeAnd o (Leads d)
          kept None shallow old = absurd old
          kept (Some number) shallow old = number-kept number d shallow old

          deep : length path ≡ suc depth
          deep = length-child (take depth last) name ∙ ap suc (length-take-le depth last within)

          by : (d < suc depth) ⊎ (suc depth ≤ d) → IsSomeAnd (slice_get (take (depth + 1) way ++ length rows ∷ []) d) (Leads d)
          by (inl before) =
              subst (λ (o : Option ℕ). IsSomeAnd o (Leads d))
              (sym (slice_get-front (take (depth + 1) way) (length rows ∷ []) d (omega (arith, before, way-count)) ∙ slice_get-take way (depth + 1) d (omega (arith, before))))
              (kept (slice_get way d) (omega (arith, before)) (is.numbers d (omega (arith, before, within))))
          by (inr after) =
              let end : d ≡ length (take (depth + 1) way) = omega (arith, after, inside, deep, way-count) in
              let whole : d ≡ length path = omega (arith, after, inside, deep) in
              subst (λ (o : Option ℕ). IsSomeAnd o (Leads d))
              (sym (ap (slice_get (take (depth + 1) way ++ length rows ∷ [])) end ∙ slice_get-seam (take (depth + 1) way) (length rows) [])) (
                omega (arith, length-append rows (row ∷ [])),
                ap (λ (es : Entries). path_at es (length rows)) entered
                    ∙ (ap (path_at (entries_of_rows rows ++ (path, inode) ∷ [])) (sym rows-count)
                    ∙ (ap path_of (slice_get-seam (entries_of_rows rows) (path, inode) [])
                    ∙ sym (ap (λ n. take n path) whole ∙ take-length path))),
              )

      layer-entered : is_lt (path_cmp last path) ≡ true → is_directory_at (entries_of_rows rows) (take depth last) ≡ true → is_name name ≡ true → is_sound_inode inode ≡ true → has_escaped_name inode.attrs ≡ false → is_within_limits path ≡ true → length (entries_of_rows rows) < entry_limit → IsLayer (entries_of_rows rows ++ (path, inode) ∷ [])
      layer-entered after directory named sound unescaped limited room =
          IsLayer-more (entries_of_rows rows) path inode is.made.layer
          (ap (λ (es : Entries). comes_after es path) is.ends.2
          ∙ (comes_after-last is.ends.0 last path is.ends.1 (subst (λ (es : Entries). ascends entry_cmp es ≡ true) is.ends.2 is.made.layer.in_order) ∙ after))
          (ap (is_directory_at (entries_of_rows rows)) (parent_path-child (take depth last) name) ∙ directory)
          (has_names-child (take depth last) name (has_names-take depth last last_named) named)
          sound unescaped limited room

      pub entered-builder : is_lt (path_cmp last (child_path (take depth last) name)) ≡ true → is_directory_at (entries_of_rows rows) (take depth last) ≡ true → is_name name ≡ true → is_sound_inode inode ≡ true → has_escaped_name inode.attrs ≡ false → is_within_limits (child_path (take depth last) name) ≡ true → length (entries_of_rows rows) < entry_limit
          → AreBuilt (rows ++ (record { name = Some name; inode = inode; parent = parent; after = next }) ∷ []) (take (depth + 1) way ++ length rows ∷ []) (child_path (take depth last) name)
      entered-builder after directory named sound unescaped limited room = record {
        made = AreRows-more rows row name is.made refl on_way.0 (subst IsLayer (sym entered) (layer-entered after directory named sound unescaped limited room));
        count = omega (arith, length-append (take (depth + 1) way) (length rows ∷ []), way-count, length-child (take depth last) name, length-take-le depth last within);
        numbers = way-entered;
        ends = (entries_of_rows rows, inode, entered);
      }

  -- the row of a number after the root's has the name that the last path has there
  pub name-on_way : (depth number : ℕ) → depth < length last → slice_get way (depth + 1) ≡ Some number → (own : SheetRow) → slice_get rows number ≡ Some own → (d : PathName) → own.name ≡ Some (get_or last depth d)
  name-on_way depth number inside at own listed d =
      name-at rows is.made number own listed
      ∙ (ap last_name (on_way (depth + 1) number (omega (arith, inside)) at).1
      ∙ (ap (λ n. last_name (take n last)) (add-one depth) ∙ last_name-take last depth d inside))

  -- the same of the number and the row that are read there
  pub named-on_way : (depth number : ℕ) (own : SheetRow) → depth < length last → number ≡ get_or way (depth + 1) number → own ≡ get_or rows number own → (d : PathName) → own.name ≡ Some (get_or last depth d)
  named-on_way depth number own inside listed is_row d =
      let at : slice_get way (depth + 1) ≡ Some number = slice_get_read way (length way) (depth + 1) number refl (omega (arith, is.count, inside)) listed in
      let row : slice_get rows number ≡ Some own = slice_get_read rows (length rows) number own refl (on_way (depth + 1) number (omega (arith, inside)) at).0 is_row in
      name-on_way depth number inside at own row d
