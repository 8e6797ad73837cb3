-- The rows of the topmost layer: which are known to be idle, and which go.
use Rattle.std.proofs.Common.{◌≡◌, ℕ, zero, suc, ◌+◌, ◌-◌, ◌<◌, ◌≤◌, ◌⊎◌, inl, inr, Bool, true, false, cond, Option, Some, None, IsSome, Bor, Ok, List, [], ◌∷◌, ◌++◌, length, map, get_or, set, replicate, take, length-take, drop, refl, sym, ap, subst, ◌∙◌, append_assoc, arith, length-append}
use Rattle.std.specs.Prelude.{Vec, IsSomeAnd, slice_get, filter, is_none, ◌&&◌, ◌||◌, not, unwrap_or}
use Rattle.std.specs.Option.{option_map}
use Rattle.std.specs.Global.{Global}
use Rattle.std.specs.List.{list_all}
use Rattle.std.specs.Ordering.{is_lt, ordering_then, ordering_reverse}
use Rattle.std.specs.Cmp.Lexicographic.{nat_list_cmp_total}
use Rattle.std.specs.declared.cmp.Ordering.{Ordering}
use Rattle.std.specs.declared.cmp.Ordering.TheVariants.{Less, Equal, Greater}
use Rattle.std.proofs.Math.Bool.{or-true, and-false}
use Rattle.std.proofs.lemmas.Bool.{cases_lt, cases_eq}
use Rattle.std.proofs.lemmas.List.{append-nil, length-map, length-drop, length-set, drop_more, get_or-map, get_or-drop, get_or-set_same, get_or-set_other, get_or-replicate, length-replicate, ext_get_or, take-append-drop, drop_all, take_all}
use Rattle.std.proofs.lemmas.List.Elements.{filter_more, filter-append}
use Rattle.std.proofs.lemmas.List.Filters.{length-filter_both}
use Rattle.std.proofs.lemmas.Option.{slice_get-get_or, slice_get_within}
use Rattle.ovl_names.specs.Names.{PathName, name_cmp}
use Rattle.ovl_names.specs.Order.{ascends}
use Rattle.ovl_names.specs.Paths.{PathNames, child_path, parent_path, path_cmp}
use Rattle.ovl_names.proofs.Ascending.{both, list_all-get, list_all-from_each}
use Rattle.ovl_inode.specs.declared.inodes.Inode.{Inode}
use Rattle.ovl_layer.specs.Layers.{Entries, Entry, entry_at, entry_cmp, is_directory_at, name_below, names_below, IsLayer}
use Rattle.ovl_layer.specs.Entries.{entry_after, stated_pair}
use Rattle.ovl_layer.specs.Sheets.{path_of, path_at, last_name}
use Rattle.ovl_layer.specs.RowsBelow.{NamedRow, LiesBelow, AreRowsBelow}
use Rattle.ovl_layer.proofs.BackLemmas.{pair-next}
use Rattle.ovl_layer.proofs.SheetLemmas.{none-past, number-one, last_name-child, entry_at-number}
use Rattle.ovl_lookup.specs.Stacks.{StackView}
use Rattle.ovl_lookup.specs.Words.{top_layer, lower_layers, is_at_or_under}
use Rattle.ovl_lookup.proofs.LawsOfKids.{below-path}
use Rattle.ovl_lookup.proofs.LawsOfPaths.{last-name, parent_path-child, under-append, under-parts, all-entries, lookup-all}
use Rattle.ovl_lookup.proofs.LawsOfWalks.{entry-of_row, entry-parent, entry-above, directory-above, directory-entry, name_below-child}
use Rattle.ovl_board.specs.declared.pieces.Piece.{Piece}
use Rattle.ovl_board.specs.declared.works.Parcel.{Parcel}
use Rattle.ovl_board.specs.Parcels.{ParcelView, parcel_view, parcel_views, pieces_of, own_view}
use Rattle.ovl_board.specs.Pieces.{piece_at, piece_in, IsBefore}
use Rattle.ovl_board.specs.Walks.{Reached, start, next, ToKid}
use Rattle.ovl_board.proofs.LawsOfMembers.{In, Rises, AllPairs-Rises, Rises-AllPairs, Contains-In, In-Contains, In-map, In-map-cases, In-filter-cases, Rises-filter, Every-All, place, rising_same}
use Rattle.ovl_board.proofs.LawsOfPieces.{before_trans, less_differs, piece_eq}
use Rattle.ovl_vacuum.specs.Vacuum.{is_idle, is_idle_throughout, vacuumed_layer, removed_paths}
use Rattle.ovl_vacuum.specs.Directories.{IdleName, names_seen, is_idle_at, vacuum_kids, vacuum_out, vacuum_root, IsVacuumWalk}
use Rattle.ovl_vacuum.specs.Passes.{idle_flags, gone_flags, names_told, IsIdleTold, TellsBelow, left_to}
use Rattle.ovl_vacuum.proofs.VacuumLemmas.{idle-at}
use Rattle.ovl_vacuum.proofs.KeptLemmas.{root-stays, throughout-child, IsLayer-vacuumed}
use Rattle.ovl_vacuum.proofs.DirectoryLemmas.{paths_of, PathBefore, paths-rise, entry-path, In-name, kid-path}

-- ---- the rows of a layer by their numbers

pub path_at-get : (layer : Entries) (number : ℕ) → path_at layer number ≡ get_or (paths_of layer) number []
path_at-get [] number = refl
path_at-get (entry ∷ layer) zero = refl
path_at-get (entry ∷ layer) (suc number) = path_at-get layer number

-- a flag of each row, by its path
pub flag-at : (test : PathNames → Bool) (layer : Entries) (number : ℕ) → number < length layer → get_or (map (λ (entry : Entry). test entry.0) layer) number false ≡ test (path_at layer number)
flag-at test [] number inside = absurd (omega arith)
flag-at test (entry ∷ layer) zero inside = refl
flag-at test (entry ∷ layer) (suc number) inside = flag-at test layer number (omega (arith, inside))

-- such flags are all of them
pub flags-same : (test : PathNames → Bool) (layer : Entries) (flags : List Bool) → length flags ≡ length layer → ((number : ℕ) → number < length layer → get_or flags number false ≡ test (path_at layer number))
    → flags ≡ map (λ (entry : Entry). test entry.0) layer
flags-same test layer flags count each =
    ext_get_or false flags (map (λ (entry : Entry). test entry.0) layer) (count ∙ sym (length-map layer (λ (entry : Entry). test entry.0)))
    (λ number inside. let within : number < length layer = omega (arith, inside, count) in each number within ∙ sym (flag-at test layer number within))

entry-of : (layer : Entries) (number : ℕ) → number < length layer → (entry : Entry) × (slice_get layer number ≡ Some entry) × (entry.0 ≡ path_at layer number)
entry-of layer number inside = by (slice_get layer number) refl
  where
    by : (found : Option Entry) → slice_get layer number ≡ found → (entry : Entry) × (slice_get layer number ≡ Some entry) × (entry.0 ≡ path_at layer number)
    by None e = absurd (omega (arith, none-past layer number e, inside))
    by (Some entry) e = (entry, e, sym (ap path_of e))

-- rows of one path are one
one-number : (layer : Entries) → ascends entry_cmp layer ≡ true → (one other : ℕ) → one < length layer → other < length layer → path_at layer one ≡ path_at layer other → one ≡ other
one-number layer up one other inside within same =
    let first = entry-of layer one inside in
    let second = entry-of layer other within in
    number-one layer one other first.0 second.0 up first.1 second.1 (first.2 ∙ (same ∙ sym second.2))

-- an entry has a row
row-of : (layer : Entries) (path : PathNames) (inode : Inode) → entry_at layer path ≡ Some inode → (number : ℕ) × (number < length layer) × (path_at layer number ≡ path)
row-of layer path inode here =
    let found = place path (paths_of layer) (entry-path layer path inode here) in
    (found.0, omega (arith, found.1, length-map layer (λ (entry : Entry). entry.0)), path_at-get layer found.0 ∙ found.2 [])

-- the first row is the root's
pub root-first : (layer : Entries) → IsLayer layer → path_at layer 0 ≡ []
root-first layer is = by layer (paths-rise layer is.in_order) (let root = directory-entry layer [] is.rooted in entry-path layer [] root.0 root.1)
  where
    never : (path : PathNames) → path_cmp path [] ≡ Less → ⊥
    never [] less = cc
    never (name ∷ path) less = cc

    by : (layer : Entries) → Rises PathBefore (paths_of layer) → In [] (paths_of layer) → path_at layer 0 ≡ []
    by [] up h = absurd h
    by (entry ∷ layer) up (inl same) = sym same
    by (entry ∷ layer) up (inr h) = absurd (never entry.0 (up.0 [] h))

pub some-rows : (layer : Entries) → IsLayer layer → 0 < length layer
some-rows layer is = let root = directory-entry layer [] is.rooted in let row = row-of layer [] root.0 root.1 in omega (arith, row.1)

-- a row whose name is known lies in its directory, and only the root has none
pub named-path : (path : PathNames) (name : PathName) → last_name path ≡ Some name → child_path (parent_path path) name ≡ path
named-path path name named = by (last-name path)
  where
    by : (path ≡ []) ⊎ ((directory : PathNames) × (own : PathName) × (path ≡ child_path directory own)) → child_path (parent_path path) name ≡ path
    by (inl e) = let bad : None ≡ Some name = sym (ap last_name e) ∙ named in cc
    by (inr (directory, own, e)) =
        let same : Some own ≡ Some name = sym (ap last_name e ∙ last_name-child directory own) ∙ named in
        let one : own ≡ name = ap (λ (o : Option PathName). unwrap_or o own) same in
        (λ j. child_path ((ap parent_path e ∙ parent_path-child directory own) j) (sym one j)) ∙ sym e

pub unnamed-path : (path : PathNames) → last_name path ≡ None → path ≡ []
unnamed-path path unnamed = by (last-name path)
  where
    by : (path ≡ []) ⊎ ((directory : PathNames) × (own : PathName) × (path ≡ child_path directory own)) → path ≡ []
    by (inl e) = e
    by (inr (directory, own, e)) = let bad : Some own ≡ None = sym (ap last_name e ∙ last_name-child directory own) ∙ unnamed in cc

-- each row but the first has a name
pub named-row : (layer : Entries) → IsLayer layer → (number : ℕ) → 1 ≤ number → number < length layer → (found : Option (Bor PathName)) → option_map (λ name. name.now) found ≡ last_name (path_at layer number) → IsSome found
named-row layer is number some inside None named =
    let root : path_at layer number ≡ path_at layer 0 = unnamed-path (path_at layer number) (sym named) ∙ sym (root-first layer is) in
    absurd (omega (arith, some, one-number layer is.in_order number 0 inside (some-rows layer is) root))
named-row layer is number some inside (Some name) named = refl

-- the directory of a row
pub parent-row : (layer : Entries) (number parent : ℕ) → IsSomeAnd (slice_get layer parent) (λ entry. entry.0 ≡ parent_path (path_at layer number)) → (parent < length layer) × (path_at layer parent ≡ parent_path (path_at layer number))
parent-row layer number parent is = by (slice_get layer parent) refl is
  where
    by : (found : Option Entry) → slice_get layer parent ≡ found → IsSomeAnd found (λ entry. entry.0 ≡ parent_path (path_at layer number)) → (parent < length layer) × (path_at layer parent ≡ parent_path (path_at layer number))
    by None e is = absurd is
    by (Some entry) e is = (slice_get_within layer parent entry e, ap path_of e ∙ is)

-- a directory comes before what is in it
path_cmp-longer : (path more : PathNames) → is_lt (path_cmp (path ++ more) path) ≡ false
path_cmp-longer [] [] = refl
path_cmp-longer [] (name ∷ more) = refl
path_cmp-longer (name ∷ path) more = ap (λ o. is_lt (ordering_then o (path_cmp (path ++ more) path))) (same (name_cmp name name) (nat_list_cmp_total.antisymm name name)) ∙ path_cmp-longer path more
  where
    same : (o : Ordering) → o ≡ ordering_reverse o → o ≡ Equal
    same Less e = cc
    same Equal e = refl
    same Greater e = cc

pub directory-earlier : (layer : Entries) → ascends entry_cmp layer ≡ true → (number directory : ℕ) (name : PathName) → number < length layer → directory < length layer
    → path_at layer number ≡ child_path (path_at layer directory) name → directory < number
directory-earlier layer up number directory name inside within path = by (cases_lt directory number)
  where
    by : (directory < number) ⊎ (number ≤ directory) → directory < number
    by (inl before) = before
    by (inr after) = absurd (equal (cases_eq number directory))
      where
        equal : (number ≡ directory) ⊎ (number ≡ directory → ⊥) → ⊥
        equal (inl same) =
            let own : path_at layer directory ≡ child_path (path_at layer directory) name = ap (path_at layer) (sym same) ∙ path in
            omega (arith, ap length own, length-append (path_at layer directory) (name ∷ []))
        equal (inr differ) =
            let less : number < directory = omega (arith, after, differ) in
            let many : directory < length (paths_of layer) = omega (arith, within, length-map layer (λ (entry : Entry). entry.0)) in
            let rises : path_cmp (get_or (paths_of layer) number []) (get_or (paths_of layer) directory []) ≡ Less =
            AllPairs-Rises PathBefore (paths_of layer) (paths-rise layer up) number directory [] less many in
            let below : path_cmp (child_path (path_at layer directory) name) (path_at layer directory) ≡ Less =
            (λ j. path_cmp (sym path j) (path_at layer directory)) ∙ ((λ j. path_cmp (path_at-get layer number j) (path_at-get layer directory j)) ∙ rises) in
            let bad : false ≡ true = sym (path_cmp-longer (path_at layer directory) (name ∷ [])) ∙ ap is_lt below in
            cc

-- ---- the parcels are those of the directories, in the order of their rows

-- the directories among these paths
abbrev directories_in : Entries → List PathNames → List PathNames
directories_in layer paths = filter (is_directory_at layer) paths

In-filter : {X : Type 0} (test : X → Bool) (x : X) (xs : List X) → In x xs → test x ≡ true → In x (filter test xs)
In-filter test x [] h is = absurd h
In-filter {X} test x (y ∷ xs) h is = by (In-filter test x xs) (test y) refl h
  where
    by : (In x xs → test x ≡ true → In x (filter test xs)) → (b : Bool) → test y ≡ b → In x (y ∷ xs) → In x (cond b (y ∷ filter test xs) (filter test xs))
    by later true e (inl same) = inl same
    by later true e (inr k) = inr (later k is)
    by later false e (inl same) = let bad : true ≡ false = sym is ∙ (ap test same ∙ e) in cc
    by later false e (inr k) = later k is

pieces-rise : (paths : List PathNames) → Rises PathBefore paths → Rises IsBefore (map (piece_at 0) paths)
pieces-rise [] up = tt
pieces-rise (path ∷ paths) up = (
  (λ piece h.
      let other = In-map-cases (piece_at 0) piece paths h in
      subst (IsBefore (piece_at 0 path)) (sym other.1.1) (up.0 other.0 other.1.0)),
  pieces-rise paths up.1,
)

module _ (stack : StackView) (is : IsLayer (top_layer stack)) where
  abbrev layer : Entries
  layer = top_layer stack

  abbrev directories : List PathNames
  directories = directories_in (top_layer stack) (paths_of (top_layer stack))

  directory-In : (path : PathNames) → is_directory_at (top_layer stack) path ≡ true → In path (directories_in (top_layer stack) (paths_of (top_layer stack)))
  directory-In path holds =
      let found = directory-entry (top_layer stack) path holds in
      In-filter (is_directory_at (top_layer stack)) path (paths_of (top_layer stack)) (entry-path (top_layer stack) path found.0 found.1) holds

  -- what is reached is a directory of the layer
  reached-told : (piece : Piece) → Reached (ToKid (vacuum_kids stack)) vacuum_root piece → In piece (map (piece_at 0) (directories_in (top_layer stack) (paths_of (top_layer stack))))
  reached-told _ start = In-map (piece_at 0) [] directories (directory-In [] is.rooted)
  reached-told _ (next {p = piece} {q = kid} reached step) =
      let above = In-map-cases (piece_at 0) piece directories (reached-told piece reached) in
      let one = kid-path layer (is_directory_at layer) piece kid (In-Contains kid (vacuum_kids stack piece) step) in
      let same : kid ≡ piece_at 0 (child_path piece.dir one.0) = one.1.1.1 ∙ piece_eq (piece_in piece one.0) (piece_at 0 (child_path piece.dir one.0)) (ap (λ (p : Piece). p.space) above.1.1) refl in
      subst (λ (p : Piece). In p (map (piece_at 0) directories)) (sym same) (In-map (piece_at 0) (child_path piece.dir one.0) directories (directory-In (child_path piece.dir one.0) one.1.1.0))

  step-to : (path : PathNames) (name : PathName) → is_directory_at (top_layer stack) (child_path path name) ≡ true → ToKid (vacuum_kids stack) (piece_at 0 path) (piece_at 0 (child_path path name))
  step-to path name holds =
      let found = directory-entry layer (child_path path name) holds in
      Contains-In (piece_at 0 (child_path path name)) (vacuum_kids stack (piece_at 0 path))
      (In-map (piece_in (piece_at 0 path)) name (filter (λ own. is_directory_at layer (child_path path own)) (names_below layer path))
      (In-filter (λ own. is_directory_at layer (child_path path own)) name (names_below layer path) (In-name layer path name (entry-path layer (child_path path name) found.0 found.1)) holds))

  reach : (front rest : PathNames) → Reached (ToKid (vacuum_kids stack)) vacuum_root (piece_at 0 front) → is_directory_at (top_layer stack) (front ++ rest) ≡ true → Reached (ToKid (vacuum_kids stack)) vacuum_root (piece_at 0 (front ++ rest))
  reach front [] reached holds = subst (λ (p : PathNames). Reached (ToKid (vacuum_kids stack)) vacuum_root (piece_at 0 p)) (sym (append-nil front)) reached
  reach front (name ∷ rest) reached holds =
      let whole : child_path front name ++ rest ≡ front ++ name ∷ rest = append_assoc front (name ∷ []) rest in
      let there : is_directory_at layer (child_path front name ++ rest) ≡ true = ap (is_directory_at layer) whole ∙ holds in
      let own = directory-above layer (child_path front name) rest is there in
      subst (λ (p : PathNames). Reached (ToKid (vacuum_kids stack)) vacuum_root (piece_at 0 p)) whole
      (reach (child_path front name) rest (next reached (step-to front name own)) there)

  pieces-told : (views : List (ParcelView (List IdleName))) → IsVacuumWalk stack views → pieces_of views ≡ map (piece_at 0) (directories_in (top_layer stack) (paths_of (top_layer stack)))
  pieces-told views plain = rising_same IsBefore (λ x lt. less_differs x x lt refl) before_trans (pieces_of views) (map (piece_at 0) directories)
      (Rises-AllPairs IsBefore (pieces_of views) plain.walk.ascend)
      (pieces-rise directories (Rises-filter PathBefore (is_directory_at layer) (paths_of layer) (paths-rise layer is.in_order)))
      (λ piece h. reached-told piece (Every-All (Reached (ToKid (vacuum_kids stack)) vacuum_root) (pieces_of views) plain.walk.reached piece h))
      (λ piece h.
      let one = In-map-cases (piece_at 0) piece directories h in
      let holds = (In-filter-cases (is_directory_at layer) one.0 (paths_of layer) one.1.0).1 in
      In-Contains piece (pieces_of views) (plain.walk.whole piece (subst (Reached (ToKid (vacuum_kids stack)) vacuum_root) (sym one.1.1) (reach [] one.0 start holds))))

-- the parcels from a place on are those of the directories among the rows from a number on
abbrev pub AreLeft : StackView → List (Parcel (Vec IdleName Global)) → ℕ → ℕ → Type 0
AreLeft stack parcels at number =
    drop at (pieces_of (parcel_views names_seen parcels)) ≡ map (piece_at 0) (directories_in (top_layer stack) (drop number (paths_of (top_layer stack))))

module _ (stack : StackView) (is : IsLayer (top_layer stack)) (parcels : List (Parcel (Vec IdleName Global))) (plain : IsVacuumWalk stack (parcel_views names_seen parcels)) where
  abbrev views : List (ParcelView (List IdleName))
  views = parcel_views names_seen parcels

  pub all-left : AreLeft stack parcels 0 0
  all-left = pieces-told stack is (parcel_views names_seen parcels) plain

  module _ (at number : ℕ) (inside : number < length (top_layer stack)) (left : AreLeft stack parcels at number) where
    abbrev path : PathNames
    path = path_at (top_layer stack) number

    next-path : drop number (paths_of (top_layer stack)) ≡ path_at (top_layer stack) number ∷ drop (number + 1) (paths_of (top_layer stack))
    next-path =
        drop_more (paths_of (top_layer stack)) number [] (omega (arith, inside, length-map (top_layer stack) (λ (entry : Entry). entry.0)))
        ∙ ap (λ (p : PathNames). p ∷ drop (number + 1) (paths_of (top_layer stack))) (sym (path_at-get (top_layer stack) number))

    pub left-file : is_directory_at (top_layer stack) (path_at (top_layer stack) number) ≡ false → AreLeft stack parcels at (number + 1)
    left-file file =
        left
        ∙ (ap (λ (ps : List PathNames). map (piece_at 0) (directories_in (top_layer stack) ps)) next-path
        ∙ ap (λ b. map (piece_at 0) (cond b (path ∷ directories_in (top_layer stack) (drop (number + 1) (paths_of (top_layer stack)))) (directories_in (top_layer stack) (drop (number + 1) (paths_of (top_layer stack)))))) file)

    module _ (holds : is_directory_at (top_layer stack) (path_at (top_layer stack) number) ≡ true) where
      left-next : drop at (pieces_of (parcel_views names_seen parcels)) ≡ piece_at 0 (path_at (top_layer stack) number) ∷ map (piece_at 0) (directories_in (top_layer stack) (drop (number + 1) (paths_of (top_layer stack))))
      left-next =
          left
          ∙ (ap (λ (ps : List PathNames). map (piece_at 0) (directories_in (top_layer stack) ps)) next-path
          ∙ ap (λ b. map (piece_at 0) (cond b (path ∷ directories_in (top_layer stack) (drop (number + 1) (paths_of (top_layer stack)))) (directories_in (top_layer stack) (drop (number + 1) (paths_of (top_layer stack)))))) holds)

      many : at < length (pieces_of (parcel_views names_seen parcels))
      many = omega (arith, ap length left-next, length-drop at (pieces_of views))

      pub left-inside : at < length parcels
      left-inside = omega (arith, many, length-map views (λ (v : ParcelView (List IdleName)). v.piece), length-map parcels (parcel_view names_seen))

      heads : get_or (pieces_of (parcel_views names_seen parcels)) at vacuum_root ∷ drop (at + 1) (pieces_of (parcel_views names_seen parcels)) ≡ piece_at 0 (path_at (top_layer stack) number) ∷ map (piece_at 0) (directories_in (top_layer stack) (drop (number + 1) (paths_of (top_layer stack))))
      heads = sym (drop_more (pieces_of views) at vacuum_root many) ∙ left-next

      pub left-after : AreLeft stack parcels (at + 1) (number + 1)
      left-after = ap (drop 1) heads

      -- the directory's parcel gives its names
      pub left-names : (parcel : Parcel (Vec IdleName Global)) → parcel ≡ get_or parcels at parcel → parcel.out.items ≡ names_told stack number
      left-names parcel is_parcel =
          let own : Piece → ParcelView (List IdleName) = own_view (vacuum_kids stack) (vacuum_out stack) in
          let view : ParcelView (List IdleName) = parcel_view names_seen parcel in
          let piece : get_or (pieces_of views) at vacuum_root ≡ piece_at 0 path = ap (λ (ps : List Piece). get_or ps 0 vacuum_root) heads in
          let seen : view ≡ own (piece_at 0 path) =
          ap (parcel_view names_seen) is_parcel
          ∙ (sym (get_or-map (parcel_view names_seen) parcels at parcel view left-inside)
          ∙ (ap (λ (vs : List (ParcelView (List IdleName))). get_or vs at view) plain.own
          ∙ (get_or-map own (pieces_of views) at vacuum_root view many ∙ ap own piece))) in
          ap (λ (v : ParcelView (List IdleName)). v.seen) seen

-- ---- what is reported of the rows

module _ (stack : StackView) where
  root-busy : is_idle_at stack [] ≡ false
  root-busy = by (entry_at (top_layer stack) [])
    where
      by : (found : Option Inode) → elim found as (λ _. Bool) [ Some inode ↦ is_idle (top_layer stack) (lower_layers stack) ([], inode) | None ↦ false ] ≡ false
      by None = refl
      by (Some inode) = refl

  -- a flag that is set as it should be is right, and so are those that were
  told-set : (flags : List Bool) (kid : ℕ) (flag : Bool) → kid < length flags → flag ≡ is_idle_at stack (path_at (top_layer stack) kid) → IsIdleTold stack (set flags kid flag) kid
  told-set flags kid flag inside is_flag = get_or-set_same flags kid flag false inside ∙ is_flag

  told-kept : (flags : List Bool) (kid : ℕ) (flag : Bool) → kid < length flags → flag ≡ is_idle_at stack (path_at (top_layer stack) kid) → (number : ℕ) → IsIdleTold stack flags number → IsIdleTold stack (set flags kid flag) number
  told-kept flags kid flag inside is_flag number told = by (cases_eq number kid)
    where
      by : (number ≡ kid) ⊎ (number ≡ kid → ⊥) → IsIdleTold stack (set flags kid flag) number
      by (inl same) = subst (IsIdleTold stack (set flags kid flag)) (sym same) (told-set flags kid flag inside is_flag)
      by (inr differ) = get_or-set_other flags kid number flag false differ ∙ told

-- the rows directly below a directory's are set, but those that are left
pub record ToldExcept (stack : StackView) (directory : ℕ) (left : List NamedRow) (old new : List Bool) : Type 0 where
  pub count : length new ≡ length old
  pub kept : (number : ℕ) → IsIdleTold stack old number → IsIdleTold stack new number
  pub told : (number : ℕ) (name : PathName) → number < length (top_layer stack) → path_at (top_layer stack) number ≡ child_path (path_at (top_layer stack) directory) name
      → In name (map (λ row. row.1) left) ⊎ IsIdleTold stack new number

module _ (stack : StackView) (directory : ℕ) (is : IsLayer (top_layer stack)) where
  pub except-all : (rows : List NamedRow) (old : List Bool) → AreRowsBelow (top_layer stack) (path_at (top_layer stack) directory) rows → ToldExcept stack directory rows old old
  except-all rows old are = record {
    count = refl;
    kept = λ number told. told;
    told = λ number name inside path.
        let found = entry-of_row (top_layer stack) number is inside in
        let own = ap (entry_at (top_layer stack)) (sym path) ∙ found.1 in
        inl (subst (In name) (sym are.names) (In-name (top_layer stack) (path_at (top_layer stack) directory) name (entry-path (top_layer stack) (child_path (path_at (top_layer stack) directory) name) found.0 own)));
  }

  pub except-next : (all : List NamedRow) (row : NamedRow) (left : List NamedRow) (old flags : List Bool) (flag : Bool) → length old ≡ length (top_layer stack) → all ≡ row ∷ left → LiesBelow (top_layer stack) (path_at (top_layer stack) directory) row
      → flag ≡ is_idle_at stack (child_path (path_at (top_layer stack) directory) row.1) → ToldExcept stack directory all old flags → ToldExcept stack directory left old (set flags row.0 flag)
  except-next all row left old flags flag whole first below told among = record {
    count = length-set flags row.0 flag ∙ among.count;
    kept = λ number known. told-kept stack flags row.0 flag fits is_flag number (among.kept number known);
    told = λ number name inside path. by number name inside path (subst (λ (rows : List NamedRow). In name (map (λ own. own.1) rows) ⊎ IsIdleTold stack flags number) first (among.told number name inside path));
  }
    where
      fits : row.0 < length flags
      fits = omega (arith, below.0, among.count, whole)

      is_flag : flag ≡ is_idle_at stack (path_at (top_layer stack) row.0)
      is_flag = told ∙ ap (is_idle_at stack) (sym below.1)

      by : (number : ℕ) (name : PathName) → number < length (top_layer stack) → path_at (top_layer stack) number ≡ child_path (path_at (top_layer stack) directory) name
          → In name (map (λ own. own.1) (row ∷ left)) ⊎ IsIdleTold stack flags number → In name (map (λ own. own.1) left) ⊎ IsIdleTold stack (set flags row.0 flag) number
      by number name inside there (inl (inl same)) =
          let stands : path_at (top_layer stack) row.0 ≡ path_at (top_layer stack) number = below.1 ∙ (ap (child_path (path_at (top_layer stack) directory)) (sym same) ∙ sym there) in
          inr (subst (IsIdleTold stack (set flags row.0 flag)) (one-number (top_layer stack) is.in_order row.0 number below.0 inside stands) (told-set stack flags row.0 flag fits is_flag))
      by number name inside there (inl (inr more)) = inl more
      by number name inside there (inr known) = inr (told-kept stack flags row.0 flag fits is_flag number known)

pub except-none : (stack : StackView) (directory : ℕ) (old flags : List Bool) → ToldExcept stack directory [] old flags → TellsBelow stack directory old flags
except-none stack directory old flags among = record {
  count = among.count;
  kept = among.kept;
  told = λ number name inside path. by number (among.told number name inside path);
}
  where
    by : (number : ℕ) → ⊥ ⊎ IsIdleTold stack flags number → IsIdleTold stack flags number
    by number (inl bad) = absurd bad
    by number (inr known) = known

-- the first of what is left of a list
pub drop-first : {X : Type 0} (n : ℕ) (all left : List X) (x d : X) → drop n all ≡ x ∷ left → (n < length all) × (get_or all n d ≡ x) × (drop (n + 1) all ≡ left)
drop-first zero [] left x d e = absurd (omega (arith, ap length e))
drop-first zero (y ∷ all) left x d e = (omega arith, ap (λ ys. get_or ys 0 d) e, ap (drop 1) e)
drop-first (suc n) [] left x d e = absurd (omega (arith, ap length e))
drop-first (suc n) (y ∷ all) left x d e = let more = drop-first n all left x d e in let shift : suc n + 1 ≡ suc (n + 1) = omega arith in (omega (arith, more.0), more.1, ap (λ k. drop k (y ∷ all)) shift ∙ more.2)

-- of the rows in the directories among the first ones, and of the root, the flags are set
pub record ToldTo (stack : StackView) (number : ℕ) (flags : List Bool) : Type 0 where
  pub count : length flags ≡ length (top_layer stack)
  pub root : IsIdleTold stack flags 0
  pub told : (row directory : ℕ) (name : PathName) → row < length (top_layer stack) → directory < number
      → path_at (top_layer stack) row ≡ child_path (path_at (top_layer stack) directory) name → IsIdleTold stack flags row

module _ (stack : StackView) (is : IsLayer (top_layer stack)) where
  pub told-start : (flags : List Bool) → flags ≡ replicate (length (top_layer stack)) false → ToldTo stack 0 flags
  told-start flags are = record {
    count = ap length are ∙ length-replicate (length (top_layer stack)) false;
    root = ap (λ (fs : List Bool). get_or fs 0 false) are
        ∙ (get_or-replicate (length (top_layer stack)) 0 false false (some-rows (top_layer stack) is)
        ∙ sym (ap (is_idle_at stack) (root-first (top_layer stack) is) ∙ root-busy stack));
    told = λ row directory name inside before path. absurd (omega (arith, before));
  }

  pub told-directory : (number : ℕ) (old new : List Bool) → ToldTo stack number old → TellsBelow stack number old new → ToldTo stack (number + 1) new
  told-directory number old new to below = record {
    count = below.count ∙ to.count;
    root = below.kept 0 to.root;
    told = λ row directory name inside before path. by row directory name inside before path (cases_eq directory number);
  }
    where
      by : (row directory : ℕ) (name : PathName) → row < length (top_layer stack) → directory < number + 1 → path_at (top_layer stack) row ≡ child_path (path_at (top_layer stack) directory) name
          → (directory ≡ number) ⊎ (directory ≡ number → ⊥) → IsIdleTold stack new row
      by row directory name inside before path (inl same) = below.told row name inside (path ∙ ap (λ n. child_path (path_at (top_layer stack) n) name) same)
      by row directory name inside before path (inr differ) = below.kept row (to.told row directory name inside (omega (arith, before, differ)) path)

  pub told-file : (number : ℕ) (flags : List Bool) → is_directory_at (top_layer stack) (path_at (top_layer stack) number) ≡ false → ToldTo stack number flags → ToldTo stack (number + 1) flags
  told-file number flags file to = record {
    count = to.count;
    root = to.root;
    told = λ row directory name inside before path. by row directory name inside before path (cases_eq directory number);
  }
    where
      by : (row directory : ℕ) (name : PathName) → row < length (top_layer stack) → directory < number + 1 → path_at (top_layer stack) row ≡ child_path (path_at (top_layer stack) directory) name
          → (directory ≡ number) ⊎ (directory ≡ number → ⊥) → IsIdleTold stack flags row
      by row directory name inside before path (inl same) =
          let found = entry-of_row (top_layer stack) row is inside in
          let holds = entry-parent (top_layer stack) (path_at (top_layer stack) directory) name found.0 is (ap (entry_at (top_layer stack)) (sym path) ∙ found.1) in
          let bad : true ≡ false = sym holds ∙ (ap (λ n. is_directory_at (top_layer stack) (path_at (top_layer stack) n)) same ∙ file) in cc
      by row directory name inside before path (inr differ) = to.told row directory name inside (omega (arith, before, differ)) path

  pub told-all : (number : ℕ) (flags : List Bool) → length (top_layer stack) ≤ number → ToldTo stack number flags → flags ≡ idle_flags stack
  told-all number flags end to = flags-same (is_idle_at stack) (top_layer stack) flags to.count (λ row inside. by row inside (last-name (path_at (top_layer stack) row)))
    where
      by : (row : ℕ) → row < length (top_layer stack) → (path_at (top_layer stack) row ≡ []) ⊎ ((directory : PathNames) × (name : PathName) × (path_at (top_layer stack) row ≡ child_path directory name)) → IsIdleTold stack flags row
      by row inside (inl root) =
          let same : 0 ≡ row = one-number (top_layer stack) is.in_order 0 row (some-rows (top_layer stack) is) inside (root-first (top_layer stack) is ∙ sym root) in
          subst (IsIdleTold stack flags) same to.root
      by row inside (inr (directory, name, path)) =
          let found = entry-of_row (top_layer stack) row is inside in
          let holds = entry-parent (top_layer stack) directory name found.0 is (ap (entry_at (top_layer stack)) (sym path) ∙ found.1) in
          let above = directory-entry (top_layer stack) directory holds in
          let own = row-of (top_layer stack) directory above.0 above.1 in
          to.told row own.0 name inside (omega (arith, own.1, end)) (path ∙ ap (λ (d : PathNames). child_path d name) (sym own.2))

-- ---- what goes

-- each of these entries that lies directly in a directory goes
abbrev pub kids_go : Entries → StackView → PathNames → Entries → Bool
kids_go top below path entries = list_all (λ entry. is_none (name_below path entry.0) || is_idle_throughout top below entry.0) entries

-- an entry goes exactly if it is idle, and all that lie directly in it go
module _ (stack : StackView) (is : IsLayer (top_layer stack)) (number : ℕ) (inside : number < length (top_layer stack)) where
  abbrev top : Entries
  top = top_layer stack

  abbrev below : StackView
  below = lower_layers stack

  abbrev own : PathNames
  own = path_at (top_layer stack) number

  abbrev later : Entries
  later = drop (number + 1) (top_layer stack)

  stands : (inode : Inode) × (entry_at (top_layer stack) (path_at (top_layer stack) number) ≡ Some inode)
  stands = entry-of_row (top_layer stack) number is inside

  idle-own : is_idle_at stack (path_at (top_layer stack) number) ≡ is_idle (top_layer stack) (lower_layers stack) (path_at (top_layer stack) number, stands.0)
  idle-own = ap (λ (found : Option Inode). elim found as (λ _. Bool) [ Some inode ↦ is_idle top below (own, inode) | None ↦ false ]) stands.1

  -- where it goes, so does all that lies in it
  whole-goes : is_idle_throughout (top_layer stack) (lower_layers stack) (path_at (top_layer stack) number) ≡ true
      → (is_idle_at stack (path_at (top_layer stack) number) && kids_go (top_layer stack) (lower_layers stack) (path_at (top_layer stack) number) (drop (number + 1) (top_layer stack))) ≡ true
  whole-goes goes =
      (λ j. (idle-own ∙ idle-at top below own stands.0 goes stands.1) j && kids j)
    where
      by : (entry : Entry) (found : Option PathName) → name_below (path_at (top_layer stack) number) entry.0 ≡ found → (is_none found || is_idle_throughout (top_layer stack) (lower_layers stack) entry.0) ≡ true
      by entry None e = refl
      by entry (Some name) e = ap (is_idle_throughout top below) (below-path own entry.0 name e) ∙ throughout-child top below is own name goes

      kids : kids_go (top_layer stack) (lower_layers stack) (path_at (top_layer stack) number) (drop (number + 1) (top_layer stack)) ≡ true
      kids = list_all-from_each (λ entry. is_none (name_below own entry.0) || is_idle_throughout top below entry.0) later (λ i d within. by (get_or later i d) (name_below own (get_or later i d).0) refl)

  -- what lies directly in it comes after it
  kid-goes : kids_go (top_layer stack) (lower_layers stack) (path_at (top_layer stack) number) (drop (number + 1) (top_layer stack)) ≡ true → (name : PathName) (inode : Inode)
      → entry_at (top_layer stack) (child_path (path_at (top_layer stack) number) name) ≡ Some inode → is_idle_throughout (top_layer stack) (lower_layers stack) (child_path (path_at (top_layer stack) number) name) ≡ true
  kid-goes all name inode here =
      let row = row-of top (child_path own name) inode here in
      let after : number < row.0 = directory-earlier top is.in_order row.0 number name row.1 inside row.2 in
      let entry = entry-of top row.0 row.1 in
      let at : ℕ = row.0 - (number + 1) in
      let within : at < length later = omega (arith, after, row.1, length-drop (number + 1) top) in
      let found : slice_get later at ≡ Some entry.0 =
      slice_get-get_or later at entry.0 within
      ∙ ap (λ (e : Entry). Some e) (get_or-drop (number + 1) top at entry.0
      ∙ (ap (λ n. get_or top n entry.0) (omega (arith, after)) ∙ ap (λ (o : Option Entry). unwrap_or o entry.0) (sym (slice_get-get_or top row.0 entry.0 row.1) ∙ entry.1))) in
      let path : entry.0.0 ≡ child_path own name = entry.2 ∙ row.2 in
      let goes : (is_none (name_below own entry.0.0) || is_idle_throughout top below entry.0.0) ≡ true =
      list_all-get (λ e. is_none (name_below own e.0) || is_idle_throughout top below e.0) later at entry.0 all found in
      (λ j. is_none (sym (name_below-child own name) j) || is_idle_throughout top below (child_path own name))
      ∙ ((λ j. is_none (name_below own (sym path j)) || is_idle_throughout top below (sym path j)) ∙ goes)

  parts-go : is_idle_at stack (path_at (top_layer stack) number) ≡ true → kids_go (top_layer stack) (lower_layers stack) (path_at (top_layer stack) number) (drop (number + 1) (top_layer stack)) ≡ true
      → is_idle_throughout (top_layer stack) (lower_layers stack) (path_at (top_layer stack) number) ≡ true
  parts-go idle all = all-entries (λ entry. not (is_at_or_under own entry.0) || is_idle top below entry) top is.in_order (λ path inode here. by path inode here (is_at_or_under own path) refl)
    where
      at_rest : (path : PathNames) (inode : Inode) → entry_at (top_layer stack) path ≡ Some inode → (rest : PathNames) → path_at (top_layer stack) number ++ rest ≡ path → is_idle (top_layer stack) (lower_layers stack) (path, inode) ≡ true
      at_rest path inode here [] e =
          let same : own ≡ path = sym (append-nil own) ∙ e in
          let one : Some stands.0 ≡ Some inode = sym stands.1 ∙ (ap (entry_at top) same ∙ here) in
          let inodes : stands.0 ≡ inode = ap (λ (o : Option Inode). unwrap_or o stands.0) one in
          sym ((λ j. is_idle top below (same j, inodes j))) ∙ (sym idle-own ∙ idle)
      at_rest path inode here (name ∷ rest) e =
          let whole : child_path own name ++ rest ≡ path = append_assoc own (name ∷ []) rest ∙ e in
          let there : entry_at top (child_path own name ++ rest) ≡ Some inode = ap (entry_at top) whole ∙ here in
          let kid = kid-there name rest there in
          let goes = kid-goes all name kid.0 kid.1 in
          let under : is_at_or_under (child_path own name) path ≡ true = ap (is_at_or_under (child_path own name)) (sym whole) ∙ under-append (child_path own name) rest in
          (λ j. not (sym under j) || is_idle top below (path, inode))
          ∙ lookup-all (λ entry. not (is_at_or_under (child_path own name) entry.0) || is_idle top below entry) path top inode goes here
        where
          kid-there : (name : PathName) (rest : PathNames) → entry_at (top_layer stack) (child_path (path_at (top_layer stack) number) name ++ rest) ≡ Some inode → (found : Inode) × (entry_at (top_layer stack) (child_path (path_at (top_layer stack) number) name) ≡ Some found)
          kid-there name [] there = (inode, ap (entry_at top) (sym (append-nil (child_path own name))) ∙ there)
          kid-there name (other ∷ rest) there = directory-entry top (child_path own name) (entry-above top (child_path own name) other rest inode is there)

      by : (path : PathNames) (inode : Inode) → entry_at (top_layer stack) path ≡ Some inode → (b : Bool) → is_at_or_under (path_at (top_layer stack) number) path ≡ b → (not b || is_idle (top_layer stack) (lower_layers stack) (path, inode)) ≡ true
      by path inode here false e = refl
      by path inode here true e = at_rest path inode here (drop (length own) path) (under-parts own path e)

  pub row-goes : (is_idle_at stack (path_at (top_layer stack) number) && kids_go (top_layer stack) (lower_layers stack) (path_at (top_layer stack) number) (drop (number + 1) (top_layer stack)))
      ≡ is_idle_throughout (top_layer stack) (lower_layers stack) (path_at (top_layer stack) number)
  row-goes = same (is_idle_at stack own && kids_go top below own later) (is_idle_throughout top below own)
      (λ e. let parts = both {a = is_idle_at stack own} {b = kids_go top below own later} e in parts-go parts.0 parts.1) whole-goes
    where
      same : (a b : Bool) → (a ≡ true → b ≡ true) → (b ≡ true → a ≡ true) → a ≡ b
      same true b forth back = sym (forth refl)
      same false true forth back = back refl
      same false false forth back = refl

-- from a row on it is known which go; of those before it, each is idle, and those from it on that lie directly in it go
pub record PassedTo (stack : StackView) (number : ℕ) (flags : List Bool) : Type 0 where
  pub some : 0 < number
  pub within : number ≤ length (top_layer stack)
  pub count : length flags ≡ length (top_layer stack)
  pub done : (row : ℕ) → number ≤ row → row < length (top_layer stack) → get_or flags row false ≡ is_idle_throughout (top_layer stack) (lower_layers stack) (path_at (top_layer stack) row)
  pub left : (row : ℕ) → row < number
      → get_or flags row false ≡ (is_idle_at stack (path_at (top_layer stack) row) && kids_go (top_layer stack) (lower_layers stack) (path_at (top_layer stack) row) (drop number (top_layer stack)))

module _ (stack : StackView) (is : IsLayer (top_layer stack)) where
  and-yes : (b : Bool) → (b && true) ≡ b
  and-yes true = refl
  and-yes false = refl

  pub pass-starts : (flags : List Bool) → flags ≡ idle_flags stack → PassedTo stack (length (top_layer stack)) flags
  pass-starts flags are = record {
    some = some-rows (top_layer stack) is;
    within = omega arith;
    count = ap length are ∙ length-map (top_layer stack) (λ (entry : Entry). is_idle_at stack entry.0);
    done = λ row after inside. absurd (omega (arith, after, inside));
    left = λ row inside.
        ap (λ (fs : List Bool). get_or fs row false) are
        ∙ (flag-at (is_idle_at stack) (top_layer stack) row inside
        ∙ sym (ap (λ (entries : Entries). is_idle_at stack (path_at (top_layer stack) row) && kids_go (top_layer stack) (lower_layers stack) (path_at (top_layer stack) row) entries) (drop_all (length (top_layer stack)) (top_layer stack) (omega arith))
        ∙ and-yes (is_idle_at stack (path_at (top_layer stack) row))));
  }

  module _ (number : ℕ) (flags : List Bool) (more : 1 < number) (to : PassedTo stack number flags) where
    abbrev last : ℕ
    last = number - 1

    last-inside : number - 1 < length (top_layer stack)
    last-inside = omega (arith, more, to.within)

    after-last : number - 1 + 1 ≡ number
    after-last = omega (arith, more)

    pub last-flag : get_or flags (number - 1) false ≡ is_idle_throughout (top_layer stack) (lower_layers stack) (path_at (top_layer stack) (number - 1))
    last-flag =
        to.left last (omega (arith, more))
        ∙ (ap (λ n. is_idle_at stack (path_at (top_layer stack) last) && kids_go (top_layer stack) (lower_layers stack) (path_at (top_layer stack) last) (drop n (top_layer stack))) (sym after-last)
        ∙ row-goes stack is last last-inside)

    entry : (e : Entry) × (slice_get (top_layer stack) (number - 1) ≡ Some e) × (e.0 ≡ path_at (top_layer stack) (number - 1))
    entry = entry-of (top_layer stack) (number - 1) last-inside

    -- with the last row there is one more that may lie directly in a directory
    kids-more : (path : PathNames) → kids_go (top_layer stack) (lower_layers stack) path (drop (number - 1) (top_layer stack))
        ≡ ((is_none (name_below path (path_at (top_layer stack) (number - 1))) || is_idle_throughout (top_layer stack) (lower_layers stack) (path_at (top_layer stack) (number - 1))) && kids_go (top_layer stack) (lower_layers stack) path (drop number (top_layer stack)))
    kids-more path =
        ap (kids_go (top_layer stack) (lower_layers stack) path) (drop_more (top_layer stack) last entry.0 last-inside)
        ∙ (λ j. (is_none (name_below path (own j)) || is_idle_throughout (top_layer stack) (lower_layers stack) (own j)) && kids_go (top_layer stack) (lower_layers stack) path (drop (after-last j) (top_layer stack)))
      where
        own : (get_or (top_layer stack) (number - 1) entry.0).0 ≡ path_at (top_layer stack) (number - 1)
        own = ap (λ (o : Option Entry). path_of o) (sym (slice_get-get_or (top_layer stack) last entry.0 last-inside))

    pub pass-goes : get_or flags (number - 1) false ≡ true → PassedTo stack (number - 1) flags
    pass-goes goes = record {
      some = omega (arith, more);
      within = omega (arith, to.within);
      count = to.count;
      done = λ row after inside. by row after inside (cases_eq row last);
      left = λ row before.
          to.left row (omega (arith, before))
          ∙ ap (λ b. is_idle_at stack (path_at (top_layer stack) row) && b)
          (sym (kids-more (path_at (top_layer stack) row)
          ∙ ((λ j. (is_none (name_below (path_at (top_layer stack) row) (path_at (top_layer stack) last)) || (sym last-flag ∙ goes) j) && kids_go (top_layer stack) (lower_layers stack) (path_at (top_layer stack) row) (drop number (top_layer stack)))
          ∙ ap (λ b. b && kids_go (top_layer stack) (lower_layers stack) (path_at (top_layer stack) row) (drop number (top_layer stack))) (or-true (is_none (name_below (path_at (top_layer stack) row) (path_at (top_layer stack) last)))))));
    }
      where
        by : (row : ℕ) → number - 1 ≤ row → row < length (top_layer stack) → (row ≡ number - 1) ⊎ (row ≡ number - 1 → ⊥) → get_or flags row false ≡ is_idle_throughout (top_layer stack) (lower_layers stack) (path_at (top_layer stack) row)
        by row after inside (inl same) = ap (λ n. get_or flags n false) same ∙ (last-flag ∙ ap (λ n. is_idle_throughout (top_layer stack) (lower_layers stack) (path_at (top_layer stack) n)) (sym same))
        by row after inside (inr differ) = to.done row (omega (arith, after, differ)) inside

    module _ (directory : ℕ) (inside : directory < length (top_layer stack)) (path : path_at (top_layer stack) directory ≡ parent_path (path_at (top_layer stack) (number - 1))) where
      -- the last row isn't the root's
      named : (name : PathName) × (path_at (top_layer stack) (number - 1) ≡ child_path (path_at (top_layer stack) directory) name)
      named = by (last-name (path_at (top_layer stack) last))
        where
          by : (path_at (top_layer stack) (number - 1) ≡ []) ⊎ ((dir : PathNames) × (name : PathName) × (path_at (top_layer stack) (number - 1) ≡ child_path dir name)) → (name : PathName) × (path_at (top_layer stack) (number - 1) ≡ child_path (path_at (top_layer stack) directory) name)
          by (inl root) =
              let same : 0 ≡ last = one-number (top_layer stack) is.in_order 0 last (some-rows (top_layer stack) is) last-inside (root-first (top_layer stack) is ∙ sym root) in
              absurd (omega (arith, same, more))
          by (inr (dir, name, e)) = (name, e ∙ ap (λ (d : PathNames). child_path d name) (sym (path ∙ (ap parent_path e ∙ parent_path-child dir name))))

      pub directory-before : directory < number - 1
      directory-before = directory-earlier (top_layer stack) is.in_order last directory named.0 last-inside inside named.1

      -- it lies directly only in its directory
      only-there : (row : ℕ) → row < length (top_layer stack) → (row ≡ directory → ⊥) → name_below (path_at (top_layer stack) row) (path_at (top_layer stack) (number - 1)) ≡ None
      only-there row within differ = by (name_below (path_at (top_layer stack) row) (path_at (top_layer stack) last)) refl
        where
          by : (found : Option PathName) → name_below (path_at (top_layer stack) row) (path_at (top_layer stack) (number - 1)) ≡ found → found ≡ None
          by None e = refl
          by (Some name) e =
              let other : path_at (top_layer stack) last ≡ child_path (path_at (top_layer stack) row) name = below-path (path_at (top_layer stack) row) (path_at (top_layer stack) last) name e in
              let same : path_at (top_layer stack) row ≡ path_at (top_layer stack) directory =
              sym (parent_path-child (path_at (top_layer stack) row) name) ∙ (ap parent_path (sym other ∙ named.1) ∙ parent_path-child (path_at (top_layer stack) directory) named.0) in
              absurd (differ (one-number (top_layer stack) is.in_order row directory within inside same))

      pub pass-stays : get_or flags (number - 1) false ≡ false → PassedTo stack (number - 1) (set flags directory false)
      pass-stays stays = record {
        some = omega (arith, more);
        within = omega (arith, to.within);
        count = length-set flags directory false ∙ to.count;
        done = λ row after within. done row after within (cases_eq row last);
        left = λ row before. left row before (cases_eq row directory);
      }
        where
          goes : is_idle_throughout (top_layer stack) (lower_layers stack) (path_at (top_layer stack) (number - 1)) ≡ false
          goes = sym last-flag ∙ stays

          other : (row : ℕ) → (row ≡ directory → ⊥) → get_or (set flags directory false) row false ≡ get_or flags row false
          other row differ = get_or-set_other flags directory row false false differ

          done : (row : ℕ) → number - 1 ≤ row → row < length (top_layer stack) → (row ≡ number - 1) ⊎ (row ≡ number - 1 → ⊥) → get_or (set flags directory false) row false ≡ is_idle_throughout (top_layer stack) (lower_layers stack) (path_at (top_layer stack) row)
          done row after within (inl same) =
              other row (λ e. omega (arith, e, after, directory-before))
              ∙ (ap (λ n. get_or flags n false) same ∙ (last-flag ∙ ap (λ n. is_idle_throughout (top_layer stack) (lower_layers stack) (path_at (top_layer stack) n)) (sym same)))
          done row after within (inr differ) =
              other row (λ e. omega (arith, e, after, directory-before))
              ∙ to.done row (omega (arith, after, differ)) within

          left : (row : ℕ) → row < number - 1 → (row ≡ directory) ⊎ (row ≡ directory → ⊥)
              → get_or (set flags directory false) row false ≡ (is_idle_at stack (path_at (top_layer stack) row) && kids_go (top_layer stack) (lower_layers stack) (path_at (top_layer stack) row) (drop (number - 1) (top_layer stack)))
          left row before (inl same) =
              let there : name_below (path_at (top_layer stack) row) (path_at (top_layer stack) last) ≡ Some named.0 =
              (λ j. name_below (path_at (top_layer stack) (same j)) (named.1 j)) ∙ name_below-child (path_at (top_layer stack) directory) named.0 in
              let busy : kids_go (top_layer stack) (lower_layers stack) (path_at (top_layer stack) row) (drop (number - 1) (top_layer stack)) ≡ false =
              kids-more (path_at (top_layer stack) row)
              ∙ (λ j. (is_none (there j) || goes j) && kids_go (top_layer stack) (lower_layers stack) (path_at (top_layer stack) row) (drop number (top_layer stack))) in
              ap (λ n. get_or (set flags directory false) n false) same
              ∙ (get_or-set_same flags directory false false (omega (arith, inside, to.count))
              ∙ sym (ap (λ b. is_idle_at stack (path_at (top_layer stack) row) && b) busy ∙ and-false (is_idle_at stack (path_at (top_layer stack) row))))
          left row before (inr differ) =
              other row differ
              ∙ (to.left row (omega (arith, before))
              ∙ ap (λ b. is_idle_at stack (path_at (top_layer stack) row) && b)
              (sym (kids-more (path_at (top_layer stack) row)
              ∙ (λ j. (is_none (only-there row (omega (arith, before, last-inside)) differ j) || is_idle_throughout (top_layer stack) (lower_layers stack) (path_at (top_layer stack) last)) && kids_go (top_layer stack) (lower_layers stack) (path_at (top_layer stack) row) (drop number (top_layer stack))))))

  pub pass-ends : (number : ℕ) (flags : List Bool) → number ≤ 1 → PassedTo stack number flags → flags ≡ gone_flags stack
  pass-ends number flags end to = flags-same (is_idle_throughout (top_layer stack) (lower_layers stack)) (top_layer stack) flags to.count (λ own inside. by own inside (cases_eq own 0))
    where
      by : (row : ℕ) → row < length (top_layer stack) → (row ≡ 0) ⊎ (row ≡ 0 → ⊥) → get_or flags row false ≡ is_idle_throughout (top_layer stack) (lower_layers stack) (path_at (top_layer stack) row)
      by row inside (inl same) =
          let root : path_at (top_layer stack) row ≡ [] = ap (path_at (top_layer stack)) same ∙ root-first (top_layer stack) is in
          to.left row (omega (arith, same, to.some))
          ∙ ((λ j. (ap (is_idle_at stack) root ∙ root-busy stack) j && kids_go (top_layer stack) (lower_layers stack) (path_at (top_layer stack) row) (drop number (top_layer stack)))
          ∙ sym (ap (is_idle_throughout (top_layer stack) (lower_layers stack)) root ∙ root-stays (top_layer stack) (lower_layers stack) is))
      by row inside (inr differ) = to.done row (omega (arith, differ, end)) inside

-- ---- the layer that is left, and the paths that go

module _ (stack : StackView) (is : IsLayer (top_layer stack)) (number : ℕ) (inside : number < length (top_layer stack)) where
  abbrev stays : Entry → Bool
  stays entry = not (is_idle_throughout (top_layer stack) (lower_layers stack) entry.0)

  spot : (e : Entry) × (slice_get (top_layer stack) number ≡ Some e) × (e.0 ≡ path_at (top_layer stack) number)
  spot = entry-of (top_layer stack) number inside

  here : get_or (top_layer stack) number spot.0 ≡ spot.0
  here = ap (λ (o : Option Entry). unwrap_or o spot.0) (sym (slice_get-get_or (top_layer stack) number spot.0 inside) ∙ spot.1)

  stays-at : (flag : Bool) → is_idle_throughout (top_layer stack) (lower_layers stack) (path_at (top_layer stack) number) ≡ flag → stays spot.0 ≡ not flag
  stays-at flag e = ap (λ (p : PathNames). not (is_idle_throughout (top_layer stack) (lower_layers stack) p)) spot.2 ∙ ap not e

  left-step : left_to stack (number + 1) ≡ left_to stack number ++ cond (stays spot.0) (spot.0 ∷ []) []
  left-step =
      filter_more stays (top_layer stack) number spot.0 inside
      ∙ (λ j. left_to stack number ++ cond (stays (here j)) (here j ∷ []) [])

  pub left-passed : (builder : Entries) → is_idle_throughout (top_layer stack) (lower_layers stack) (path_at (top_layer stack) number) ≡ true → builder ≡ left_to stack number → builder ≡ left_to stack (number + 1)
  left-passed builder goes so_far =
      so_far ∙ sym (left-step ∙ (ap (λ b. left_to stack number ++ cond b (spot.0 ∷ []) []) (stays-at true goes) ∙ append-nil (left_to stack number)))

  -- an entry that stays is taken
  left-taken : (before more : Entries) (path : PathNames) (inode : Inode) → is_idle_throughout (top_layer stack) (lower_layers stack) (path_at (top_layer stack) number) ≡ false → before ≡ left_to stack number
      → path ≡ path_at (top_layer stack) number → entry_at (top_layer stack) (path_at (top_layer stack) number) ≡ Some inode → entry_after before (stated_pair (path, inode)) ≡ Ok more → more ≡ left_to stack (number + 1)
  left-taken before more path inode kept so_far is_path at taken =
      let left : Entries = vacuumed_layer (top_layer stack) (lower_layers stack) in
      let rest : Entries = filter stays (drop (number + 1) (top_layer stack)) in
      let one : left_to stack (number + 1) ≡ left_to stack number ++ spot.0 ∷ [] = left-step ∙ ap (λ b. left_to stack number ++ cond b (spot.0 ∷ []) []) (stays-at false kept) in
      let whole : left ≡ left_to stack number ++ spot.0 ∷ rest =
      ap (filter stays) (sym (take-append-drop (number + 1) (top_layer stack)))
      ∙ (filter-append stays (take (number + 1) (top_layer stack)) (drop (number + 1) (top_layer stack))
      ∙ (ap (λ (front : Entries). front ++ rest) one ∙ append_assoc (left_to stack number) (spot.0 ∷ []) rest)) in
      let layer : IsLayer (left_to stack number ++ spot.0 ∷ rest) = subst IsLayer whole (IsLayer-vacuumed (top_layer stack) (lower_layers stack) is) in
      let inodes : Some inode ≡ Some spot.0.1 =
      sym at ∙ (ap (entry_at (top_layer stack)) (sym spot.2) ∙ entry_at-number (top_layer stack) number spot.0 is.in_order spot.1) in
      let same_inode : inode ≡ spot.0.1 = ap (λ (o : Option Inode). unwrap_or o inode) inodes in
      let same_path : spot.0.0 ≡ path = spot.2 ∙ sym is_path in
      let result : Ok (left_to stack number ++ spot.0 ∷ []) ≡ Ok more =
      sym (pair-next (left_to stack number) spot.0 rest layer)
      ∙ ((λ j. entry_after (sym so_far j) (stated_pair (same_path j, sym same_inode j))) ∙ taken) in
      let entries : left_to stack number ++ spot.0 ∷ [] ≡ more = cc in
      sym (one ∙ entries)

  -- so it is by its name in its directory
  pub left-child : (before more : Entries) (directory : PathNames) (name : PathName) (inode : Inode) → is_idle_throughout (top_layer stack) (lower_layers stack) (path_at (top_layer stack) number) ≡ false
      → before ≡ left_to stack number → directory ≡ parent_path (path_at (top_layer stack) number) → last_name (path_at (top_layer stack) number) ≡ Some name → entry_at (top_layer stack) (path_at (top_layer stack) number) ≡ Some inode
      → entry_after before (stated_pair (child_path directory name, inode)) ≡ Ok more → more ≡ left_to stack (number + 1)
  left-child before more directory name inode kept so_far above named at taken =
      left-taken before more (child_path directory name) inode kept so_far
      (ap (λ (d : PathNames). child_path d name) above ∙ named-path (path_at (top_layer stack) number) name named) at taken

-- no more stay than there are rows
pub left-count : (stack : StackView) (number : ℕ) → length (left_to stack number) ≤ number
left-count stack number =
    omega (
      arith,
      length-filter_both (λ (entry : Entry). not (is_idle_throughout (top_layer stack) (lower_layers stack) entry.0)) (λ entry. not (not (is_idle_throughout (top_layer stack) (lower_layers stack) entry.0))) (λ entry. refl) (take number (top_layer stack)),
      length-take number (top_layer stack),
    )

-- the root stays
pub left-first : (stack : StackView) (is : IsLayer (top_layer stack)) (more : Entries) (inode : Inode)
    → entry_at (top_layer stack) (path_at (top_layer stack) 0) ≡ Some inode → entry_after [] (stated_pair ([], inode)) ≡ Ok more → more ≡ left_to stack 1
left-first stack is more inode at taken =
    let root = root-first (top_layer stack) is in
    left-taken stack is 0 (some-rows (top_layer stack) is) [] more [] inode
    (ap (is_idle_throughout (top_layer stack) (lower_layers stack)) root ∙ root-stays (top_layer stack) (lower_layers stack) is)
    refl (sym root) at taken

pub left-all : (stack : StackView) (number : ℕ) (entries : Entries) → length (top_layer stack) ≤ number → entries ≡ left_to stack number → entries ≡ vacuumed_layer (top_layer stack) (lower_layers stack)
left-all stack number entries end are =
    are ∙ ap (filter (λ (entry : Entry). not (is_idle_throughout (top_layer stack) (lower_layers stack) entry.0))) (take_all number (top_layer stack) end)

-- the paths of those of the first rows that go
abbrev pub gone_to : StackView → ℕ → List PathNames
gone_to stack number = map (λ (entry : Entry). entry.0) (filter (λ entry. is_idle_throughout (top_layer stack) (lower_layers stack) entry.0) (take number (top_layer stack)))

module _ (stack : StackView) (number : ℕ) (inside : number < length (top_layer stack)) where
  gone-more : gone_to stack (number + 1) ≡ gone_to stack number ++ cond (is_idle_throughout (top_layer stack) (lower_layers stack) (path_at (top_layer stack) number)) (path_at (top_layer stack) number ∷ []) []
  gone-more =
      let entry = entry-of (top_layer stack) number inside in
      let goes : Entry → Bool = λ e. is_idle_throughout (top_layer stack) (lower_layers stack) e.0 in
      let here : (get_or (top_layer stack) number entry.0).0 ≡ path_at (top_layer stack) number =
      ap (λ (o : Option Entry). path_of o) (sym (slice_get-get_or (top_layer stack) number entry.0 inside)) in
      ap (map (λ (e : Entry). e.0)) (filter_more goes (top_layer stack) number entry.0 inside)
      ∙ (map-append-paths (filter goes (take number (top_layer stack))) (cond (goes (get_or (top_layer stack) number entry.0)) (get_or (top_layer stack) number entry.0 ∷ []) [])
      ∙ ap (λ (rest : List PathNames). gone_to stack number ++ rest)
      (choice (goes (get_or (top_layer stack) number entry.0)) (get_or (top_layer stack) number entry.0)
      ∙ (λ j. cond (is_idle_throughout (top_layer stack) (lower_layers stack) (here j)) (here j ∷ []) [])))
    where
      map-append-paths : (one other : Entries) → map (λ (e : Entry). e.0) (one ++ other) ≡ map (λ (e : Entry). e.0) one ++ map (λ (e : Entry). e.0) other
      map-append-paths [] other = refl
      map-append-paths (e ∷ one) other = ap (λ (rest : List PathNames). e.0 ∷ rest) (map-append-paths one other)

      choice : (b : Bool) (e : Entry) → map (λ (n : Entry). n.0) (cond b (e ∷ []) []) ≡ cond b (e.0 ∷ []) []
      choice true e = refl
      choice false e = refl

  pub goes-flag : (gone : List Bool) → gone ≡ gone_flags stack → get_or gone number false ≡ is_idle_throughout (top_layer stack) (lower_layers stack) (path_at (top_layer stack) number)
  goes-flag gone are = ap (λ (fs : List Bool). get_or fs number false) are ∙ flag-at (is_idle_throughout (top_layer stack) (lower_layers stack)) (top_layer stack) number inside

  pub gone-pushed : (gone : List Bool) (old new : List PathNames) (path : PathNames) → gone ≡ gone_flags stack → get_or gone number false ≡ true → path ≡ path_at (top_layer stack) number
      → new ≡ old ++ path ∷ [] → old ≡ gone_to stack number → new ≡ gone_to stack (number + 1)
  gone-pushed gone old new path are goes is_path pushed is_old =
      pushed
      ∙ ((λ j. is_old j ++ is_path j ∷ [])
      ∙ sym (gone-more ∙ ap (λ b. gone_to stack number ++ cond b (path_at (top_layer stack) number ∷ []) []) (sym (goes-flag gone are) ∙ goes)))

  pub gone-passed : (gone : List Bool) (old : List PathNames) → gone ≡ gone_flags stack → get_or gone number false ≡ false → old ≡ gone_to stack number → old ≡ gone_to stack (number + 1)
  gone-passed gone old are stays is_old =
      is_old
      ∙ sym (gone-more ∙ (ap (λ b. gone_to stack number ++ cond b (path_at (top_layer stack) number ∷ []) []) (sym (goes-flag gone are) ∙ stays) ∙ append-nil (gone_to stack number)))

pub gone-all : (stack : StackView) (number : ℕ) (paths : List PathNames) → length (top_layer stack) ≤ number → paths ≡ gone_to stack number → paths ≡ removed_paths (top_layer stack) (lower_layers stack)
gone-all stack number paths end are =
    are ∙ ap (λ (entries : Entries). map (λ (entry : Entry). entry.0) (filter (λ entry. is_idle_throughout (top_layer stack) (lower_layers stack) entry.0) entries)) (take_all number (top_layer stack) end)
