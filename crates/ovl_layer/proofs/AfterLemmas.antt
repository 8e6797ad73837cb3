-- The numbers after the subtrees of rows, found from the last row on.
use Rattle.std.proofs.Common.{◌≡◌, ℕ, zero, suc, ◌+◌, ◌<◌, ◌≤◌, length, get_or, drop, map, set, Bool, true, false, cond, Some, None, List, [], ◌∷◌, ◌++◌, refl, sym, ap, ◌∙◌, subst, arith, length-append, inl, inr, ◌⊎◌}
use Rattle.std.specs.Prelude.{nat_lt, ◌&&◌, slice_get, is_some, IsSomeAnd}
use Rattle.std.specs.List.{list_all}
use Rattle.std.proofs.lemmas.Bool.{ltb-true, ltb-false, leb-true}
use Rattle.std.proofs.lemmas.Option.{slice_get_read, get_or_from_slice_get}
use Rattle.std.proofs.lemmas.List.{same_lists, get_or-set_same, get_or-set_other, length-map, get_or-map}
use Rattle.std.proofs.lemmas.Grind.{same_number_lists}
use Rattle.std.proofs.Math.ListN.{get_or-append}
use Rattle.std.proofs.Math.Seq.{drop-nil, get_or-append_seam}
use Rattle.ovl_names.specs.Names.{PathName}
use Rattle.ovl_inode.specs.declared.marks.Mark.{Mark}
use Rattle.ovl_inode.specs.Marks.{mark_of}
use Rattle.ovl_layer.specs.declared.sheets.SheetRow.{SheetRow}
use Rattle.ovl_layer.specs.Layers.{Entry, Entries, IsLayer}
use Rattle.ovl_layer.specs.Sheets.{path_of, path_at, row_path, entries_with, entries_of_rows, count_deeper, afters_from, kid_numbers, parents_of, are_earlier, AreRows, IsSheet}
use Rattle.ovl_layer.specs.SheetPasses.{depths_of, with_afters}
use Rattle.ovl_layer.proofs.SheetLemmas.{afters-get, with-length, length-child, row-known, entry-of}
use Rattle.ovl_layer.proofs.SheetPassLemmas.{afters-length}

-- ---- entries that have more names than one before them

deeper-within : (depth : ℕ) (entries : Entries) → count_deeper depth entries ≤ length entries
deeper-within depth [] = omega arith
deeper-within depth (entry ∷ entries) = by (nat_lt depth (length entry.0)) (deeper-within depth entries)
  where
    by : (b : Bool) → count_deeper depth entries ≤ length entries → cond b (suc (count_deeper depth entries)) zero ≤ suc (length entries)
    by true later = omega (arith, later)
    by false later = omega arith

-- those that have more than a greater number come first among them
deeper-split : (less more : ℕ) (entries : Entries) → less ≤ more → count_deeper less entries ≡ count_deeper more entries + count_deeper less (drop (count_deeper more entries) entries)
deeper-split less more [] le = refl
deeper-split less more (entry ∷ entries) le = by (deeper-split less more entries le) (nat_lt more (length entry.0)) refl
  where
    by : count_deeper less entries ≡ count_deeper more entries + count_deeper less (drop (count_deeper more entries) entries)
        → (b : Bool) → nat_lt more (length entry.0) ≡ b
        → count_deeper less (entry ∷ entries) ≡ cond b (suc (count_deeper more entries)) zero + count_deeper less (drop (cond b (suc (count_deeper more entries)) zero) (entry ∷ entries))
    by later false e = omega arith
    by later true e =
        let far : nat_lt less (length entry.0) ≡ true = grind (arith, ltb-true more (length entry.0) e, le) in
        let first : count_deeper less (entry ∷ entries) ≡ suc (count_deeper less entries) = λ j. cond (far j) (suc (count_deeper less entries)) zero in
        omega (arith, first, later)

-- an element of a list, and what begins with it
here : (entries : Entries) (k : ℕ) → k < length entries → (entry : Entry) × (slice_get entries k ≡ Some entry) × (drop k entries ≡ entry ∷ drop (suc k) entries)
here [] k inside = absurd (omega (arith, inside))
here (entry ∷ entries) zero inside = (entry, refl, refl)
here (first ∷ entries) (suc k) inside =
    let found = here entries k (omega (arith, inside)) in
    (found.0, found.1, found.2)

drop-on : {X : Type 0} (n k : ℕ) (xs : List X) → drop k (drop n xs) ≡ drop (n + k) xs
drop-on zero k xs = ap (λ n. drop n xs) (omega arith)
drop-on (suc n) k [] = drop-nil k ∙ sym (drop-nil (suc n + k))
drop-on (suc n) k (x ∷ xs) = drop-on n k xs ∙ ap (λ m. drop m (x ∷ xs)) more
  where
    more : suc (n + k) ≡ suc n + k
    more = omega arith

module _ (entries : Entries) where
  -- the number after the subtree of an entry
  abbrev pub after_of : ℕ → ℕ
  after_of number = suc (number + count_deeper (length (path_at entries number)) (drop (suc number) entries))

  -- the first `after` entries after `number` are known to be under it
  pub record IsUnderTo (number after : ℕ) : Type 0 where
    pub count : suc number + count_deeper (length (path_at entries number)) (drop (suc number) entries) ≡ after + count_deeper (length (path_at entries number)) (drop after entries)
    pub later : suc number ≤ after
    pub within : after ≤ length entries

  pub under-begins : (number after : ℕ) → number < length entries → after ≡ suc number → IsUnderTo number after
  under-begins number after inside is = subst (IsUnderTo number) (sym is) (record { count = refl; later = omega arith; within = omega (arith, inside) })

  -- a whole subtree more
  pub under-more : (number after : ℕ) → IsUnderTo number after → after < length entries → length (path_at entries number) < length (path_at entries after) → IsUnderTo number (after_of after)
  under-more number after is inside deeper = record {
    count = is.count ∙ more;
    later = omega (arith, is.later);
    within = omega (arith, deeper-within (length (path_at entries after)) (drop (suc after) entries), behind (suc after) entries inside);
  }
    where
      behind : {X : Type 0} (n : ℕ) (xs : List X) → n ≤ length xs → n + length (drop n xs) ≡ length xs
      behind zero xs le = omega arith
      behind (suc n) [] le = absurd (omega (arith, le))
      behind (suc n) (x ∷ xs) le = omega (arith, behind n xs (omega (arith, le)))

      depth : ℕ
      depth = length (path_at entries number)

      own : ℕ
      own = length (path_at entries after)

      found : (entry : Entry) × (slice_get entries after ≡ Some entry) × (drop after entries ≡ entry ∷ drop (suc after) entries)
      found = here entries after inside

      same : own ≡ length found.0.0
      same = ap (λ o. length (path_of o)) found.1

      far : nat_lt depth (length found.0.0) ≡ true
      far = grind (arith, same, deeper)

      more : after + count_deeper depth (drop after entries) ≡ after_of after + count_deeper depth (drop (after_of after) entries)
      more =
          let first : count_deeper depth (drop after entries) ≡ suc (count_deeper depth (drop (suc after) entries)) =
          ap (count_deeper depth) found.2 ∙ (λ j. cond (far j) (suc (count_deeper depth (drop (suc after) entries))) zero) in
          let split = deeper-split depth own (drop (suc after) entries) (omega (arith, deeper)) in
          let past : suc after + count_deeper own (drop (suc after) entries) ≡ after_of after = omega arith in
          let on = ap (count_deeper depth) (drop-on (suc after) (count_deeper own (drop (suc after) entries)) entries ∙ ap (λ n. drop n entries) past) in
          omega (arith, first, split, on)

  -- nothing more is under it
  pub under-ends : (number after : ℕ) → IsUnderTo number after → length entries ≤ after → after ≡ after_of number
  under-ends number after is past =
      let none = ap (count_deeper (length (path_at entries number))) (drop-past after entries past) in
      omega (arith, is.count, none)
    where
      drop-past : {X : Type 0} (n : ℕ) (xs : List X) → length xs ≤ n → drop n xs ≡ []
      drop-past zero [] le = refl
      drop-past (suc n) [] le = refl
      drop-past zero (x ∷ xs) le = absurd (omega (arith, le))
      drop-past (suc n) (x ∷ xs) le = drop-past n xs (omega (arith, le))

  pub under-stops : (number after : ℕ) → IsUnderTo number after → after < length entries → length (path_at entries after) ≤ length (path_at entries number) → after ≡ after_of number
  under-stops number after is inside le =
      let depth : ℕ = length (path_at entries number) in
      let found = here entries after inside in
      let same : length (path_at entries after) ≡ length found.0.0 = ap (λ o. length (path_of o)) found.1 in
      let near : nat_lt depth (length found.0.0) ≡ false = grind (arith, same, le) in
      let none : count_deeper depth (drop after entries) ≡ 0 = ap (count_deeper depth) found.2 ∙ (λ j. cond (near j) (suc (count_deeper depth (drop (suc after) entries))) zero) in
      omega (arith, is.count, none)

  depths-count : length (depths_of entries) ≡ length entries
  depths-count = length-map entries (λ (entry : Entry). length entry.0)

  pub depth-at : (number d : ℕ) → number < length entries → get_or (depths_of entries) number d ≡ length (path_at entries number)
  depth-at number d inside =
      let found = here entries number inside in
      get_or-map (λ (entry : Entry). length entry.0) entries number found.0 d inside
      ∙ (ap (λ (entry : Entry). length entry.0) (get_or_from_slice_get entries number found.0 found.0 found.1)
      ∙ sym (ap (λ o. length (path_of o)) found.1))

  pub after-at : (number d : ℕ) → number < length entries → get_or (afters_from 0 entries) number d ≡ after_of number
  after-at number d inside =
      let found = here entries number inside in
      get_or_from_slice_get (afters_from 0 entries) number _ d (afters-get 0 entries number found.0 found.1)
      ∙ omega (arith, ap (λ o. count_deeper (length (path_of o)) (drop (suc number) entries)) found.1)

-- ---- the number of names of each row's path, from the first on

-- the numbers of names of the first `count` entries
pub record AreDepthsTo (entries : Entries) (count : ℕ) (depths : List ℕ) : Type 0 where
  pub so_far : length depths ≡ count
  pub each : (k : ℕ) → k < count → get_or depths k 0 ≡ length (path_at entries k)
  pub small : (k : ℕ) → k < count → get_or depths k 0 ≤ k

pub one-depth : (entries : Entries) (count depth : ℕ) (depths more : List ℕ) → AreDepthsTo entries count depths → depth ≡ length (path_at entries count) → depth ≤ count → more ≡ depths ++ depth ∷ [] → AreDepthsTo entries (count + 1) more
one-depth entries count depth depths more are is small grown = subst (AreDepthsTo entries (count + 1)) (sym grown) (record {
  so_far = omega (arith, length-append depths (depth ∷ []), are.so_far);
  each = λ k inside. elim (seen k inside) [ inl old ↦ old.1 ∙ are.each k old.0 | inr new ↦ new.1 ∙ (is ∙ ap (λ n. length (path_at entries n)) (sym new.0)) ];
  small = λ k inside. elim (seen k inside) [ inl old ↦ subst (λ n. n ≤ k) (sym old.1) (are.small k old.0) | inr new ↦ omega (arith, new.0, new.1, small) ];
})
  where
    seen : (k : ℕ) → k < count + 1 → ((k < count) × (get_or (depths ++ depth ∷ []) k 0 ≡ get_or depths k 0)) ⊎ ((k ≡ count) × (get_or (depths ++ depth ∷ []) k 0 ≡ depth))
    seen k inside = by (nat_lt k count) refl
      where
        by : (b : Bool) → nat_lt k count ≡ b → ((k < count) × (get_or (depths ++ depth ∷ []) k 0 ≡ get_or depths k 0)) ⊎ ((k ≡ count) × (get_or (depths ++ depth ∷ []) k 0 ≡ depth))
        by true e = inl (ltb-true k count e, get_or-append depths (depth ∷ []) 0 k (omega (arith, ltb-true k count e, are.so_far)))
        by false e =
            let last : k ≡ count = omega (arith, ltb-false k count e, inside) in
            inr (last, ap (λ n. get_or (depths ++ depth ∷ []) n 0) (last ∙ sym are.so_far) ∙ get_or-append_seam depths depth [] 0)

pub all-depths : (entries : Entries) (depths : List ℕ) → AreDepthsTo entries (length entries) depths → depths ≡ depths_of entries
all-depths entries depths are = same_number_lists depths (depths_of entries) (are.so_far ∙ sym (depths-count entries)) (λ k inside.
    let within : k < length entries = omega (arith, inside, are.so_far) in
    are.each k within ∙ sym (depth-at entries k 0 within))

module _ (rows : List SheetRow) (are : AreRows rows) (k : ℕ) (row : SheetRow) (inside : k < length rows) (is : row ≡ get_or rows k row) where
  row-at-k : slice_get rows k ≡ Some row
  row-at-k = slice_get_read rows (length rows) k row refl inside is

  own-path : path_at (entries_of_rows rows) k ≡ row_path (entries_of_rows rows) row.parent row.name
  own-path = ap path_of (entry-of rows are k row row-at-k)

  -- a row with a name has one name more than that of its parent, which comes before it
  pub depth-named : (name : PathName) → row.name ≡ Some name → (row.parent < k) × (length (path_at (entries_of_rows rows) k) ≡ suc (length (path_at (entries_of_rows rows) row.parent)))
  depth-named name named = (
    by (row-known rows are k row row-at-k),
    ap length (own-path ∙ ap (row_path (entries_of_rows rows) row.parent) named) ∙ length-child (path_at (entries_of_rows rows) row.parent) name,
  )
    where
      by : (row.name ≡ None) ⊎ (row.parent < k) → row.parent < k
      by (inl none) = let bad : Some name ≡ None = sym named ∙ none in cc
      by (inr less) = less

  pub depth-root : row.name ≡ None → length (path_at (entries_of_rows rows) k) ≡ 0
  depth-root none = ap length (own-path ∙ ap (row_path (entries_of_rows rows) row.parent) none)

-- ---- rows whose numbers after are set from the last on

-- the rows from `number` on have the numbers after their subtrees
pub record AreSetFrom (number : ℕ) (old new : List SheetRow) : Type 0 where
  pub count : length new ≡ length old
  pub before : (k : ℕ) (d : SheetRow) → k < number → get_or new k d ≡ get_or old k d
  pub behind : (k : ℕ) (d : SheetRow) → number ≤ k → k < length old → get_or new k d ≡ record (get_or old k d) { after = after_of (entries_of_rows old) k }

pub entries-count : (rows : List SheetRow) → length (entries_of_rows rows) ≡ length rows
entries-count rows = with-length [] rows ∙ omega arith

pub one-set : (number : ℕ) (old new : List SheetRow) (row : SheetRow) → AreSetFrom (suc number) old new → number < length old → row ≡ get_or new number row
    → AreSetFrom number old (set new number (record row { after = after_of (entries_of_rows old) number }))
one-set number old new row are inside is = record {
  count = length-set new number _ ∙ are.count;
  before = λ k d less. get_or-set_other new number k _ d (λ e. absurd (omega (arith, e, less))) ∙ are.before k d (omega (arith, less));
  behind = λ k d le less. by k d le less;
}
  where
    length-set : {X : Type 0} (xs : List X) (i : ℕ) (v : X) → length (set xs i v) ≡ length xs
    length-set [] i v = refl
    length-set (x ∷ xs) zero v = refl
    length-set (x ∷ xs) (suc i) v = ap suc (length-set xs i v)

    after : ℕ
    after = after_of (entries_of_rows old) number

    same : (d : SheetRow) → row ≡ get_or old number d
    same d = is ∙ (are.before number row (omega arith) ∙ default old number row d inside)
      where
        default : (xs : List SheetRow) (k : ℕ) (a b : SheetRow) → k < length xs → get_or xs k a ≡ get_or xs k b
        default [] k a b less = absurd (omega (arith, less))
        default (x ∷ xs) zero a b less = refl
        default (x ∷ xs) (suc k) a b less = default xs k a b (omega (arith, less))

    by : (k : ℕ) (d : SheetRow) → number ≤ k → k < length old → get_or (set new number (record row { after = after })) k d ≡ record (get_or old k d) { after = after_of (entries_of_rows old) k }
    by k d le less = cases (nat_lt number k) refl
      where
        cases : (b : Bool) → nat_lt number k ≡ b → get_or (set new number (record row { after = after })) k d ≡ record (get_or old k d) { after = after_of (entries_of_rows old) k }
        cases true e =
            let far : number < k = ltb-true number k e in
            get_or-set_other new number k _ d (λ e. absurd (omega (arith, e, far))) ∙ are.behind k d (omega (arith, far)) less
        cases false e =
            let one : k ≡ number = omega (arith, ltb-false number k e, le) in
            ap (λ n. get_or (set new number (record row { after = after })) n d) one
            ∙ (get_or-set_same new number (record row { after = after }) d (omega (arith, inside, are.count))
            ∙ ((λ j. record (same d j) { after = after })
            ∙ (λ j. record (get_or old (sym one j) d) { after = after_of (entries_of_rows old) (sym one j) })))

with-get : (afters : List ℕ) (rows : List SheetRow) (k : ℕ) (d : SheetRow) (n : ℕ) → length afters ≡ length rows → k < length rows → get_or (with_afters afters rows) k d ≡ record (get_or rows k d) { after = get_or afters k n }
with-get afters [] k d n count inside = absurd (omega (arith, inside))
with-get [] (row ∷ rows) k d n count inside = absurd (omega (arith, count))
with-get (after ∷ afters) (row ∷ rows) zero d n count inside = refl
with-get (after ∷ afters) (row ∷ rows) (suc k) d n count inside = with-get afters rows k d n (omega (arith, count)) (omega (arith, inside))

with-count : (afters : List ℕ) (rows : List SheetRow) → length (with_afters afters rows) ≡ length rows
with-count afters [] = refl
with-count [] (row ∷ rows) = refl
with-count (after ∷ afters) (row ∷ rows) = ap suc (with-count afters rows)

pub all-set : (old new : List SheetRow) → AreSetFrom 0 old new → new ≡ with_afters (afters_from 0 (entries_of_rows old)) old
all-set old new are = same_lists new (with_afters afters old) (are.count ∙ sym (with-count afters old)) (λ k d inside.
    let within : k < length old = omega (arith, inside, are.count) in
    are.behind k d (omega arith) within
    ∙ ((λ j. record (get_or old k d) { after = sym (after-at (entries_of_rows old) k 0 (omega (arith, within, entries-count old))) j })
    ∙ sym (with-get afters old k d 0 (afters-length 0 (entries_of_rows old) ∙ entries-count old) within)))
  where
    afters : List ℕ
    afters = afters_from 0 (entries_of_rows old)

-- ---- the sheet of such rows

with-entries : (before : Entries) (afters : List ℕ) (rows : List SheetRow) → entries_with before (with_afters afters rows) ≡ entries_with before rows
with-entries before afters [] = refl
with-entries before [] (row ∷ rows) = refl
with-entries before (after ∷ afters) (row ∷ rows) = with-entries (before ++ (row_path before row.parent row.name, row.inode) ∷ []) afters rows

pub set-entries : (afters : List ℕ) (rows : List SheetRow) → entries_of_rows (with_afters afters rows) ≡ entries_of_rows rows
set-entries afters rows = with-entries [] afters rows

-- what doesn't look at the numbers after is as it was
with-map : {X : Type 0} (f : SheetRow → X) → ((row : SheetRow) (after : ℕ) → f (record row { after = after }) ≡ f row) → (afters : List ℕ) (rows : List SheetRow) → map f (with_afters afters rows) ≡ map f rows
with-map f same afters [] = refl
with-map f same [] (row ∷ rows) = refl
with-map f same (after ∷ afters) (row ∷ rows) = λ j. same row after j ∷ with-map f same afters rows j

with-afters : (afters : List ℕ) (rows : List SheetRow) → length afters ≡ length rows → map (λ row. row.after) (with_afters afters rows) ≡ afters
with-afters [] [] count = refl
with-afters (after ∷ afters) [] count = absurd (omega (arith, count))
with-afters [] (row ∷ rows) count = absurd (omega (arith, count))
with-afters (after ∷ afters) (row ∷ rows) count = ap (λ (later : List ℕ). after ∷ later) (with-afters afters rows (omega (arith, count)))

with-parents : (afters : List ℕ) (rows : List SheetRow) → parents_of (with_afters afters rows) ≡ parents_of rows
with-parents afters [] = refl
with-parents [] (row ∷ rows) = refl
with-parents (after ∷ afters) (row ∷ rows) = with-map (λ row. row.parent) (λ row after. refl) afters rows

with-named : (afters : List ℕ) (rows : List SheetRow) → list_all (λ row. is_some row.name) (with_afters afters rows) ≡ list_all (λ row. is_some row.name) rows
with-named afters [] = refl
with-named [] (row ∷ rows) = refl
with-named (after ∷ afters) (row ∷ rows) = ap (λ b. is_some row.name && b) (with-named afters rows)

module _ (rows : List SheetRow) (are : AreRows rows) where
  pub set-sheet : (below : List (List ℕ)) (marked : List Mark) → ((number : ℕ) → number < length rows → slice_get below number ≡ Some (kid_numbers 1 (parents_of rows) number)) → marked ≡ map (λ row. mark_of row.inode) rows
      → IsSheet (with_afters (afters_from 0 (entries_of_rows rows)) rows) below marked
  set-sheet below marked kids marks = record {
    are = record {
      layer = subst IsLayer (sym (set-entries numbers rows)) are.layer;
      root = root numbers rows are.root;
      named = named numbers rows are.named;
      earlier = ap (are_earlier 1) (with-parents numbers rows) ∙ are.earlier;
    };
    afters = with-afters numbers rows (afters-length 0 (entries_of_rows rows) ∙ entries-count rows) ∙ ap (afters_from 0) (sym (set-entries numbers rows));
    kids = λ number inside. kids number (omega (arith, inside, with-count numbers rows)) ∙ ap (λ (parents : List ℕ). Some (kid_numbers 1 parents number)) (sym (with-parents numbers rows));
    marks = marks ∙ sym (with-map (λ row. mark_of row.inode) (λ row after. refl) numbers rows);
  }
    where
      numbers : List ℕ
      numbers = afters_from 0 (entries_of_rows rows)

      root : (afters : List ℕ) (rows : List SheetRow) → IsSomeAnd (slice_get rows 0) (λ row. (row.name ≡ None) × (row.parent ≡ 0)) → IsSomeAnd (slice_get (with_afters afters rows) 0) (λ row. (row.name ≡ None) × (row.parent ≡ 0))
      root afters [] is = is
      root [] (row ∷ rows) is = is
      root (after ∷ afters) (row ∷ rows) is = is

      named : (afters : List ℕ) (rows : List SheetRow) → list_all (λ row. is_some row.name) (drop 1 rows) ≡ true → list_all (λ row. is_some row.name) (drop 1 (with_afters afters rows)) ≡ true
      named afters [] all = all
      named [] (row ∷ rows) all = all
      named (after ∷ afters) (row ∷ rows) all = with-named afters rows ∙ all

pub few-rows : (rows : List SheetRow) → AreRows rows → length rows ≤ 1048576
few-rows rows are = omega (arith, leb-true (length (entries_of_rows rows)) 1048576 are.layer.counted, entries-count rows)
