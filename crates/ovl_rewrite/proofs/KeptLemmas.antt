-- The plain walk over only those directories that a manifest can hold.
use Rattle.std.proofs.Common.{◌≡◌, ◌≤◌, ℕ, suc, inl, inr, Bool, true, false, cond, List, [], ◌∷◌, map, length, refl, sym, ap, ◌∙◌, subst, arith, Contains}
use Rattle.std.specs.Prelude.{◌||◌, ◌==◌, not, filter}
use Rattle.std.specs.List.{count_by, list_any, list_all}
use Rattle.std.proofs.lemmas.Bool.{eqb-true, eq-eqb}
use Rattle.std.proofs.lemmas.List.{length-map}
use Rattle.std.proofs.lemmas.List.Sums.{length-filter}
use Rattle.ovl_names.specs.Order.{ascends}
use Rattle.ovl_names.specs.Paths.{PathNames, child_path}
use Rattle.ovl_names.proofs.Ascending.{both, not_false}
use Rattle.ovl_inode.specs.declared.inodes.Inode.{Inode}
use Rattle.ovl_inode.specs.Marks.{is_directory}
use Rattle.ovl_layer.specs.Layers.{Entry, Entries, IsLayer, entry_cmp, is_within_limits}
use Rattle.ovl_board.specs.declared.pieces.Piece.{Piece}
use Rattle.ovl_board.specs.Pieces.{space_root, piece_in, IsBefore, IsOneBelow, HasLawfulKids}
use Rattle.ovl_board.specs.Walks.{Reached, ToKid}
use Rattle.ovl_board.specs.Walks.Reached.{start, next}
use Rattle.ovl_board.specs.Parcels.{ParcelView, IsPlain, own_view, pieces_of}
use Rattle.ovl_board.proofs.LawsOfMembers.{In, In-map, In-map-cases, In-Contains, Contains-In, In-filter-cases, All-Every, Every-All, AllPairs-Rises, Rises-AllPairs, Rises-filter}
use Rattle.ovl_board.proofs.LawsOfWalks.{reached_by}
use Rattle.ovl_rewrite.specs.Directories.{NamedInode, directories_among, is_kept, visited_kids}
use Rattle.ovl_rewrite.specs.Passes.{TreeEntries, InodesParcel, tree_kids, tree_out, entries_under}
use Rattle.ovl_rewrite.specs.NewLayers.{NewLayer, IsOf, IsToldBy, IsToldWithin, tree_by, leaves_out}
use Rattle.ovl_rewrite.proofs.DirectoryLemmas.{entry-new}
use Rattle.ovl_rewrite.proofs.TreeLemmas.{found-In, told-ascend, told-of}

-- ---- tests of lists

any-some : {X : Type 0} (test : X → Bool) (xs : List X) → list_any test xs ≡ true → (x : X) × (In x xs) × (test x ≡ true)
any-some test [] is = let bad : false ≡ true = is in cc
any-some {X} test (x ∷ xs) is = by (any-some test xs) (test x) refl is
  where
    by : (list_any test xs ≡ true → (y : X) × (In y xs) × (test y ≡ true)) → (b : Bool) → test x ≡ b → (b || list_any test xs) ≡ true → (y : X) × (In y (x ∷ xs)) × (test y ≡ true)
    by later true here is = (x, inl refl, here)
    by later false here is = let found = later is in (found.0, inr found.1, found.2)

any-none : {X : Type 0} (test : X → Bool) (xs : List X) → list_any test xs ≡ false → (x : X) → In x xs → test x ≡ false
any-none test [] none x h = absurd h
any-none {X} test (first ∷ xs) none x h = by (any-none test xs) (test first) refl none h
  where
    by : (list_any test xs ≡ false → (y : X) → In y xs → test y ≡ false) → (b : Bool) → test first ≡ b → (b || list_any test xs) ≡ false → In x (first ∷ xs) → test x ≡ false
    by later true here none h = let bad : true ≡ false = none in cc
    by later false here none (inl same) = ap test same ∙ here
    by later false here none (inr h) = later none x h

all-one : {X : Type 0} (test : X → Bool) (xs : List X) → list_all test xs ≡ true → (x : X) → In x xs → test x ≡ true
all-one test [] all x h = absurd h
all-one test (first ∷ xs) all x (inl same) = ap test same ∙ (both {a = test first} {b = list_all test xs} all).0
all-one test (first ∷ xs) all x (inr h) = all-one test xs (both {a = test first} {b = list_all test xs} all).1 x h

pub any-map : {X Y : Type 0} (f : X → Y) (test : Y → Bool) (xs : List X) → list_any test (map f xs) ≡ list_any (λ x. test (f x)) xs
any-map f test [] = refl
any-map f test (x ∷ xs) = ap (λ b. test (f x) || b) (any-map f test xs)

-- ---- lists of which a test keeps as many as there are

filter-short : {X : Type 0} (test : X → Bool) (xs : List X) → length (filter test xs) ≤ length xs
filter-short test [] = omega arith
filter-short test (x ∷ xs) = by (test x) (filter-short test xs)
  where
    by : (b : Bool) → length (filter test xs) ≤ length xs → length (cond b (x ∷ filter test xs) (filter test xs)) ≤ length (x ∷ xs)
    by true shorter = omega (arith, shorter)
    by false shorter = omega (arith, shorter)

filter-whole : {X : Type 0} (test : X → Bool) (xs : List X) → length (filter test xs) ≡ length xs → filter test xs ≡ xs
filter-whole test [] same = refl
filter-whole {X} test (x ∷ xs) same = by (test x) (filter-whole test xs) same
  where
    by : (b : Bool) → (length (filter test xs) ≡ length xs → filter test xs ≡ xs) → length (cond b (x ∷ filter test xs) (filter test xs)) ≡ length (x ∷ xs) → cond b (x ∷ filter test xs) (filter test xs) ≡ x ∷ xs
    by true later same = ap (λ (ys : List X). x ∷ ys) (later (omega (arith, same)))
    by false later same = absurd (omega (arith, same, filter-short test xs))

-- else there is one that it doesn't keep
filter-left : {X : Type 0} (test : X → Bool) (xs : List X) → (length (filter test xs) ≡ length xs → ⊥) → (x : X) × (In x xs) × (test x ≡ false)
filter-left test [] other = absurd (other refl)
filter-left {X} test (x ∷ xs) other = by (test x) refl (filter-left test xs) other
  where
    by : (b : Bool) → test x ≡ b → ((length (filter test xs) ≡ length xs → ⊥) → (y : X) × (In y xs) × (test y ≡ false)) → (length (cond b (x ∷ filter test xs) (filter test xs)) ≡ length (x ∷ xs) → ⊥) → (y : X) × (In y (x ∷ xs)) × (test y ≡ false)
    by false here later other = (x, inl refl, here)
    by true here later other = let found = later (λ same. other (omega (arith, same))) in (found.0, inr found.1, found.2)

-- ---- fewer kids

module _ (kids : Piece → List Piece) where
  -- what the kids that are visited lead to, all kids do
  pub visited-reached : (root p : Piece) → Reached (ToKid (visited_kids kids)) root p → Reached (ToKid kids) root p
  visited-reached root p reached =
      reached_by (ToKid (visited_kids kids)) (ToKid kids)
      (λ p q step. Contains-In q (kids p) (In-filter-cases is_kept q (kids p) (In-Contains q (visited_kids kids p) step)).0) root p reached

  pub visited-lawful : (deepest : ℕ) → HasLawfulKids kids deepest → HasLawfulKids (visited_kids kids) deepest
  visited-lawful deepest law = record {
    lawful = λ piece. record {
      below = All-Every (IsOneBelow piece) (visited_kids kids piece) (λ kid h. Every-All (IsOneBelow piece) (kids piece) (law.lawful piece).below kid (In-filter-cases is_kept kid (kids piece) h).0);
      ascend = AllPairs-Rises IsBefore (visited_kids kids piece) (Rises-filter IsBefore is_kept (kids piece) (Rises-AllPairs IsBefore (kids piece) (law.lawful piece).ascend));
    };
    shallow = λ piece. All-Every (λ kid. length kid.dir ≤ deepest) (visited_kids kids piece) (λ kid h.
        Every-All (λ (kid : Piece). length kid.dir ≤ deepest) (kids piece) (law.shallow piece) kid (In-filter-cases is_kept kid (kids piece) h).0);
  }

  -- where no kid of a piece that is reached is left out, all are walked
  module _ {S : Type 0} (out : Piece → S) (root : Piece) (views : List (ParcelView S)) (plain : IsPlain (visited_kids kids) out root views)
      (all : (p : Piece) → In p (pieces_of views) → visited_kids kids p ≡ kids p) where
    whole : (p : Piece) → Reached (ToKid kids) root p → Contains (pieces_of views) p
    whole _ start = plain.walk.whole root start
    whole _ (next {p = p} {q = q} reached step) =
        let there : In p (pieces_of views) = In-Contains p (pieces_of views) (whole p reached) in
        let visited : Reached (ToKid (visited_kids kids)) root p = Every-All (Reached (ToKid (visited_kids kids)) root) (pieces_of views) plain.walk.reached p there in
        plain.walk.whole q (next visited (subst (λ (ks : List Piece). Contains ks q) (sym (all p there)) step))

    same-own : (ps : List Piece) → ((p : Piece) → In p ps → visited_kids kids p ≡ kids p) → map (own_view (visited_kids kids) out) ps ≡ map (own_view kids out) ps
    same-own [] same = refl
    same-own (p ∷ ps) same =
        (λ j. record { piece = p; kids = same p (inl refl) j; seen = out p } ∷ map (own_view (visited_kids kids) out) ps)
        ∙ ap (λ (vs : List (ParcelView S)). own_view kids out p ∷ vs) (same-own ps (λ q h. same q (inr h)))

    pub plain-whole : IsPlain kids out root views
    plain-whole = record {
      walk = record {
        ascend = plain.walk.ascend;
        reached = All-Every (Reached (ToKid kids) root) (pieces_of views) (λ p h.
            visited-reached root p (Every-All (Reached (ToKid (visited_kids kids)) root) (pieces_of views) plain.walk.reached p h));
        whole = whole;
      };
      own = plain.own ∙ same-own (pieces_of views) all;
    }

-- ---- the directories of a piece

abbrev is_own_directory : NamedInode → Bool
is_own_directory entry = is_directory entry.1

directories-count : (piece : Piece) (entries : List NamedInode) → length (directories_among piece entries) ≡ count_by is_own_directory entries
directories-count piece entries = length-map (filter is_own_directory entries) (λ (entry : NamedInode). piece_in piece entry.0) ∙ length-filter is_own_directory entries

module _ (tree : TreeEntries) where
  abbrev own : Piece → InodesParcel
  own piece = own_view (visited_kids (tree_kids tree)) (tree_out tree) piece

  abbrev kid_count : Piece → ℕ
  kid_count piece = length (visited_kids (tree_kids tree) piece)

  -- where as many kids were walked as there are directories, all were
  kept-all : (piece : Piece) → leaves_out (own piece) ≡ false → visited_kids (tree_kids tree) piece ≡ tree_kids tree piece
  kept-all piece none =
      filter-whole is_kept (tree_kids tree piece)
      (eqb-true (kid_count piece) (count_by is_own_directory (tree piece.dir)) (not_false (kid_count piece == count_by is_own_directory (tree piece.dir)) none)
      ∙ sym (directories-count piece (tree piece.dir)))

  -- else an entry is a directory that no manifest can hold
  left-entry : (piece : Piece) → leaves_out (own piece) ≡ true → (entry : NamedInode) × (In entry (tree piece.dir)) × (is_within_limits (child_path piece.dir entry.0) ≡ false)
  left-entry piece some =
      let kid = filter-left is_kept (tree_kids tree piece) (λ same.
      let counted : (kid_count piece == count_by is_own_directory (tree piece.dir)) ≡ true =
      eq-eqb (kid_count piece) (count_by is_own_directory (tree piece.dir)) (same ∙ directories-count piece (tree piece.dir)) in
      let bad : false ≡ true = sym (ap not counted) ∙ some in cc) in
      let one = In-map-cases (λ (entry : NamedInode). piece_in piece entry.0) kid.0 (filter is_own_directory (tree piece.dir)) kid.1 in
      (one.0, (In-filter-cases is_own_directory one.0 (tree piece.dir) one.1.0).0, ap is_kept (sym one.1.1) ∙ kid.2)

-- ---- what such a walk gives

module _ (root : Inode) (views : List InodesParcel) (new : NewLayer) (by : IsToldWithin new root views) where
  abbrev tree : TreeEntries
  tree = tree_by new by.names

  abbrev pub kept_entries : Entries
  kept_entries = ([], root) ∷ entries_under tree (suc by.deepest) []

  pub kept-entries : (ascends entry_cmp kept_entries ≡ true) × IsOf new kept_entries
  kept-entries = (told-ascend new by.names by.deepest by.told root by.rooted, told-of new by.names by.deepest by.told root by.rooted)

  -- where nothing was left out, they are the walk of all
  pub nothing-left : list_any leaves_out views ≡ false → IsToldBy new root views
  nothing-left none = record {
    names = by.names;
    deepest = by.deepest;
    told = by.told;
    rooted = by.rooted;
    walk = plain-whole (tree_kids tree) (tree_out tree) (space_root 0) views by.walk (λ p h.
        kept-all tree p (any-none leaves_out views none (own tree p) (subst (In (own tree p)) (sym by.walk.own) (In-map (own tree) p (pieces_of views) h))));
  }

  -- what is left out is an entry that no layer has
  pub left-out : list_any leaves_out views ≡ true → IsLayer kept_entries → ⊥
  left-out some layer =
      let view = any-some leaves_out views some in
      let parcel = In-map-cases (own tree) view.0 (pieces_of views) (subst (In view.0) by.walk.own view.1) in
      let piece : Piece = parcel.0 in
      let entry = left-entry tree piece (ap leaves_out (sym parcel.1.1) ∙ view.2) in
      let path : PathNames = child_path piece.dir entry.0.0 in
      let there : In (path, entry.0.1) kept_entries =
      found-In kept_entries path entry.0.1 (kept-entries.1 path ∙ entry-new new by.names by.deepest by.told piece.dir entry.0 entry.1) in
      let within : is_within_limits path ≡ true = all-one (λ (e : Entry). is_within_limits e.0) kept_entries layer.limited (path, entry.0.1) there in
      let bad : false ≡ true = sym entry.2 ∙ within in cc
