-- The parcels of a directory and of what lies under it, entry by entry, and the entries that they give.
use Rattle.std.proofs.Common.{◌≡◌, ℕ, zero, suc, ◌+◌, ◌-◌, ◌≤◌, ◌<◌, true, false, cond, List, [], ◌∷◌, ◌++◌, length, map, get_or, take, drop, refl, sym, ap, ◌∙◌, subst, append_assoc, arith, length-append}
use Rattle.std.specs.Prelude.{filter}
use Rattle.std.specs.List.{flat_map}
use Rattle.std.proofs.lemmas.List.{append-nil, map-append, drop_more, take_more, take_all, take-append-drop}
use Rattle.std.proofs.lemmas.List.Concat.{flat_map-append}
use Rattle.std.proofs.Math.ListN.{drop_of_length-le}
use Rattle.ovl_names.specs.Paths.{PathNames, child_path}
use Rattle.ovl_inode.specs.Marks.{is_directory}
use Rattle.ovl_layer.specs.Layers.{Entries}
use Rattle.ovl_layer.specs.LayerTrees.{placed, under, entries_from}
use Rattle.ovl_layer.specs.SubtreeBuilder.{CanStand}
use Rattle.ovl_layer.proofs.NodeLemmas.{placed-append, placed-under}
use Rattle.ovl_layer.proofs.SubtreeBuilderLemmas.{stand-front, stand-back, stand-placed}
use Rattle.ovl_board.specs.declared.pieces.Piece.{Piece}
use Rattle.ovl_board.specs.Pieces.{piece_in}
use Rattle.ovl_board.specs.Walks.{preorder}
use Rattle.ovl_board.specs.Parcels.{own_view}
use Rattle.ovl_board.proofs.LawsOfMembers.{get_or-In, Contains-In, In}
use Rattle.ovl_board.proofs.LawsOfWalks.{preorder_step}
use Rattle.ovl_rewrite.specs.Directories.{NamedInode, directories_among}
use Rattle.ovl_rewrite.specs.Passes.{TreeEntries, IsTree, tree_kids, tree_out, entries_under, InodesParcel, views_under, WalksUnder, StopsUnder}

module _ (tree : TreeEntries) (deepest : ℕ) where
  abbrev own : Piece → InodesParcel
  own = own_view (tree_kids tree) (tree_out tree)

  -- as many names as a path may still have below a piece
  abbrev room : Piece → ℕ
  room piece = deepest - length piece.dir

  -- the parcels, and the entries, at and under these entries of a directory
  abbrev pub views_among : Piece → List NamedInode → List InodesParcel
  views_among piece entries = map own (flat_map (λ kid. preorder (tree_kids tree) (room piece - 1) kid) (directories_among piece entries))

  abbrev told : ℕ → PathNames → NamedInode → Entries
  told depth directory entry = (child_path directory entry.0, entry.1) ∷ entries_under tree depth (child_path directory entry.0)

  abbrev pub entries_among : Piece → List NamedInode → Entries
  entries_among piece entries = flat_map (told (room piece - 1) piece.dir) entries

  room-child : (piece : Piece) (entry : NamedInode) → deepest - length (child_path piece.dir entry.0) ≡ room piece - 1
  room-child piece entry = omega (arith, length-append piece.dir (entry.0 ∷ []))

  -- a directory among the entries
  directory-views : (piece : Piece) (entry : NamedInode) (entries : List NamedInode) → is_directory entry.1 ≡ true
      → views_among piece (entry ∷ entries) ≡ views_under tree deepest (piece_in piece entry.0) ++ views_among piece entries
  directory-views piece entry entries is =
      let walked : Piece → List Piece = λ kid. preorder (tree_kids tree) (room piece - 1) kid in
      ap (λ b. map own (flat_map walked (map (λ (e : NamedInode). piece_in piece e.0) (cond b (entry ∷ filter (λ e. is_directory e.1) entries) (filter (λ e. is_directory e.1) entries))))) is
      ∙ (map-append own (walked (piece_in piece entry.0)) (flat_map walked (directories_among piece entries))
      ∙ ap (λ n. map own (preorder (tree_kids tree) n (piece_in piece entry.0)) ++ views_among piece entries) (sym (room-child piece entry)))

  -- another entry has none
  file-views : (piece : Piece) (entry : NamedInode) (entries : List NamedInode) → is_directory entry.1 ≡ false → views_among piece (entry ∷ entries) ≡ views_among piece entries
  file-views piece entry entries is =
      let walked : Piece → List Piece = λ kid. preorder (tree_kids tree) (room piece - 1) kid in
      ap (λ b. map own (flat_map walked (map (λ (e : NamedInode). piece_in piece e.0) (cond b (entry ∷ filter (λ e. is_directory e.1) entries) (filter (λ e. is_directory e.1) entries))))) is

  more-entries : (piece : Piece) (entries : List NamedInode) (entry : NamedInode)
      → entries_among piece (entries ++ entry ∷ []) ≡ entries_among piece entries ++ told (deepest - length (child_path piece.dir entry.0)) piece.dir entry
  more-entries piece entries entry =
      flat_map-append (told (room piece - 1) piece.dir) entries (entry ∷ [])
      ∙ ap (λ (rest : Entries). entries_among piece entries ++ rest)
      (append-nil (told (room piece - 1) piece.dir entry)
      ∙ ap (λ n. told n piece.dir entry) (sym (room-child piece entry)))

  module _ (is : IsTree tree deepest) where
    -- a directory's own parcel comes first, and then those of its directories
    pub views-first : (piece : Piece) → views_under tree deepest piece ≡ own piece ∷ views_among piece (tree piece.dir)
    views-first piece = ap (map own) (preorder_step (tree_kids tree) deepest is.lawful piece)

    nothing-under : (depth : ℕ) (directory : PathNames) → tree directory ≡ [] → entries_under tree depth directory ≡ []
    nothing-under zero directory none = refl
    nothing-under (suc depth) directory none = ap (flat_map (told depth directory)) none

    entries-first : (piece : Piece) → entries_under tree (room piece) piece.dir ≡ entries_among piece (tree piece.dir)
    entries-first piece = by (room piece) refl
      where
        by : (n : ℕ) → room piece ≡ n → entries_under tree n piece.dir ≡ flat_map (told (room piece - 1) piece.dir) (tree piece.dir)
        by zero e = sym (ap (flat_map (told (room piece - 1) piece.dir)) (is.bounded piece.dir (omega (arith, e))))
        by (suc n) e =
            let same : n ≡ room piece - 1 = omega (arith, e) in
            ap (λ m. flat_map (told m piece.dir) (tree piece.dir)) same

-- the parcels after those of the first `i` entries of a directory, and the entries at and under these, counted from it
abbrev pub WalksAmong : List InodesParcel → List InodesParcel → ℕ → Entries → Type 0
WalksAmong before after i below =
    (tree : TreeEntries) (deepest : ℕ) → IsTree tree deepest → (piece : Piece) (rest : List InodesParcel) → before ≡ views_under tree deepest piece ++ rest →
    (after ≡ views_among tree deepest piece (drop i (tree piece.dir)) ++ rest)
    × (placed piece.dir below ≡ entries_among tree deepest piece (take i (tree piece.dir)))

-- the entries under a directory are those of its first `i` entries and those of the others
parted : (tree : TreeEntries) (deepest : ℕ) (is : IsTree tree deepest) (piece : Piece) (i : ℕ)
    → entries_under tree (deepest - length piece.dir) piece.dir ≡ entries_among tree deepest piece (take i (tree piece.dir)) ++ entries_among tree deepest piece (drop i (tree piece.dir))
parted tree deepest is piece i =
    entries-first tree deepest is piece
    ∙ (ap (entries_among tree deepest piece) (sym (take-append-drop i (tree piece.dir)))
    ∙ flat_map-append (told tree deepest (room tree deepest piece - 1) piece.dir) (take i (tree piece.dir)) (drop i (tree piece.dir)))

-- no layer has them where it can't have those of the first
pub stops-among : (before after : List InodesParcel) (i : ℕ) (below : Entries) → WalksAmong before after i below → (CanStand below → ⊥) → StopsUnder before
stops-among before after i below walked none tree deepest is piece rest is_under can =
    let first : Entries = entries_among tree deepest piece (take i (tree piece.dir)) in
    let here : CanStand first = stand-front first (entries_among tree deepest piece (drop i (tree piece.dir))) (subst CanStand (parted tree deepest is piece i) can) in
    none (stand-placed piece.dir below (subst CanStand (sym (walked tree deepest is piece rest is_under).1) here))

module _ (before : List InodesParcel) (view : InodesParcel) (later : List InodesParcel) (first : before ≡ view ∷ later) where
  head : (tree : TreeEntries) (deepest : ℕ) (is : IsTree tree deepest) (piece : Piece) (rest : List InodesParcel) → before ≡ views_under tree deepest piece ++ rest
      → (view ≡ own tree deepest piece) × (later ≡ views_among tree deepest piece (tree piece.dir) ++ rest)
  head tree deepest is piece rest is_under =
      let whole : view ∷ later ≡ own tree deepest piece ∷ (views_among tree deepest piece (tree piece.dir) ++ rest) = sym first ∙ (is_under ∙ ap (λ (views : List InodesParcel). views ++ rest) (views-first tree deepest is piece)) in
      (ap (λ (views : List InodesParcel). elim views as (λ _. InodesParcel) [ [] ↦ view | v ∷ vs ↦ v ]) whole, ap (drop 1) whole)

  pub walk-starts : WalksAmong before later 0 []
  walk-starts tree deepest is piece rest is_under = ((head tree deepest is piece rest is_under).1, refl)

  pub walk-ends : (after : List InodesParcel) (i : ℕ) (below : Entries) → length view.seen ≤ i → WalksAmong before after i below → WalksUnder before after below
  walk-ends after i below end walked tree deepest is piece rest is_under =
      let known = walked tree deepest is piece rest is_under in
      let count : length (tree piece.dir) ≤ i = omega (arith, end, ap (λ (v : InodesParcel). length v.seen) (head tree deepest is piece rest is_under).0) in (
        known.0 ∙ ap (λ (more : List NamedInode). views_among tree deepest piece more ++ rest) (drop_of_length-le (tree piece.dir) count),
        known.1 ∙ (ap (entries_among tree deepest piece) (take_all i (tree piece.dir) count) ∙ sym (entries-first tree deepest is piece)),
      )

  module _ (after : List InodesParcel) (i : ℕ) (entry : NamedInode) (inside : i < length view.seen) (is_entry : entry ≡ get_or view.seen i entry) (mid : Entries) (walked : WalksAmong before after i mid) where
    -- the entry at the place, and those after it
    record At (tree : TreeEntries) (deepest : ℕ) (piece : Piece) (rest : List InodesParcel) : Type 0 where
      pub among : In entry (tree piece.dir)
      pub longer : take (i + 1) (tree piece.dir) ≡ take i (tree piece.dir) ++ entry ∷ []
      pub onward : drop i (tree piece.dir) ≡ entry ∷ drop (i + 1) (tree piece.dir)
      pub left : after ≡ views_among tree deepest piece (entry ∷ drop (i + 1) (tree piece.dir)) ++ rest
      pub done : placed piece.dir mid ≡ entries_among tree deepest piece (take i (tree piece.dir))

    at : (tree : TreeEntries) (deepest : ℕ) → IsTree tree deepest → (piece : Piece) (rest : List InodesParcel) → before ≡ views_under tree deepest piece ++ rest → At tree deepest piece rest
    at tree deepest is piece rest is_under =
        let top = head tree deepest is piece rest is_under in
        let seen : view.seen ≡ tree piece.dir = ap (λ (v : InodesParcel). v.seen) top.0 in
        let within : i < length (tree piece.dir) = omega (arith, inside, ap length seen) in
        let own_entry : entry ≡ get_or (tree piece.dir) i entry = is_entry ∙ ap (λ (entries : List NamedInode). get_or entries i entry) seen in
        let onward : drop i (tree piece.dir) ≡ entry ∷ drop (i + 1) (tree piece.dir) = drop_more (tree piece.dir) i entry within ∙ ap (λ (e : NamedInode). e ∷ drop (i + 1) (tree piece.dir)) (sym own_entry) in
        let known = walked tree deepest is piece rest is_under in
        record {
          among = subst (λ (e : NamedInode). In e (tree piece.dir)) (sym own_entry) (get_or-In (tree piece.dir) i entry within);
          longer = take_more (tree piece.dir) i entry within ∙ ap (λ (e : NamedInode). take i (tree piece.dir) ++ e ∷ []) (sym own_entry);
          onward = onward;
          left = known.0 ∙ ap (λ (entries : List NamedInode). views_among tree deepest piece entries ++ rest) onward;
          done = known.1;
        }

    -- the entries with one more and those below it
    grown : (tree : TreeEntries) (deepest : ℕ) (piece : Piece) (rest : List InodesParcel) (a : At tree deepest piece rest) (kids : Entries)
        → placed (child_path piece.dir entry.0) kids ≡ entries_under tree (deepest - length (child_path piece.dir entry.0)) (child_path piece.dir entry.0)
        → placed piece.dir (mid ++ under entry.0 (entries_from entry.1 kids)) ≡ entries_among tree deepest piece (take (i + 1) (tree piece.dir))
    grown tree deepest piece rest a kids are =
        let path : PathNames = child_path piece.dir entry.0 in
        let branch : placed piece.dir (under entry.0 (entries_from entry.1 kids)) ≡ told tree deepest (deepest - length path) piece.dir entry =
        placed-under piece.dir entry.0 (entries_from entry.1 kids) ∙ (λ j. (append-nil path j, entry.1) ∷ are j) in
        placed-append piece.dir mid (under entry.0 (entries_from entry.1 kids))
        ∙ ((λ j. a.done j ++ branch j)
        ∙ (sym (more-entries tree deepest piece (take i (tree piece.dir)) entry) ∙ ap (entries_among tree deepest piece) (sym a.longer)))

    -- the parcels that are left, where the entry is a directory: those at and under it first
    left-first : (tree : TreeEntries) (deepest : ℕ) (piece : Piece) (rest : List InodesParcel) → At tree deepest piece rest → is_directory entry.1 ≡ true
        → after ≡ views_under tree deepest (piece_in piece entry.0) ++ (views_among tree deepest piece (drop (i + 1) (tree piece.dir)) ++ rest)
    left-first tree deepest piece rest a directory =
        a.left
        ∙ (ap (λ (views : List InodesParcel). views ++ rest) (directory-views tree deepest piece entry (drop (i + 1) (tree piece.dir)) directory)
        ∙ append_assoc (views_under tree deepest (piece_in piece entry.0)) (views_among tree deepest piece (drop (i + 1) (tree piece.dir))) rest)

    pub walk-directory : is_directory entry.1 ≡ true → (further : List InodesParcel) (kids : Entries)
        → WalksUnder after further kids → WalksAmong before further (i + 1) (mid ++ under entry.0 (entries_from entry.1 kids))
    walk-directory directory further kids below tree deepest is piece rest is_under =
        let a = at tree deepest is piece rest is_under in
        let more : List InodesParcel = views_among tree deepest piece (drop (i + 1) (tree piece.dir)) in
        let done = below tree deepest is (piece_in piece entry.0) (more ++ rest) (left-first tree deepest piece rest a directory) in
        (done.0, grown tree deepest piece rest a kids done.1)

    pub walk-file : is_directory entry.1 ≡ false → (kids : Entries) → kids ≡ [] → WalksAmong before after (i + 1) (mid ++ under entry.0 (entries_from entry.1 kids))
    walk-file file kids none tree deepest is piece rest is_under =
        let a = at tree deepest is piece rest is_under in
        let path : PathNames = child_path piece.dir entry.0 in
        let nothing = nothing-under tree deepest is (deepest - length path) path (is.files piece.dir entry (Contains-In entry (tree piece.dir) a.among) file) in (
          a.left ∙ ap (λ (views : List InodesParcel). views ++ rest) (file-views tree deepest piece entry (drop (i + 1) (tree piece.dir)) file),
          grown tree deepest piece rest a kids (ap (placed path) none ∙ sym nothing),
        )

    -- no layer has what lies under the directory where none has what lies under the entry
    pub stops-directory : is_directory entry.1 ≡ true → StopsUnder after → StopsUnder before
    stops-directory directory stops tree deepest is piece rest is_under can =
        let a = at tree deepest is piece rest is_under in
        let path : PathNames = child_path piece.dir entry.0 in
        let others : List NamedInode = drop (i + 1) (tree piece.dir) in
        let under_it : Entries = entries_under tree (room tree deepest piece - 1) path in
        let behind : CanStand (entries_among tree deepest piece (entry ∷ others)) =
        subst (λ (es : List NamedInode). CanStand (entries_among tree deepest piece es)) a.onward
        (stand-back (entries_among tree deepest piece (take i (tree piece.dir))) (entries_among tree deepest piece (drop i (tree piece.dir))) (subst CanStand (parted tree deepest is piece i) can)) in
        let own : CanStand under_it = stand-back ((path, entry.1) ∷ []) under_it (stand-front ((path, entry.1) ∷ under_it) (entries_among tree deepest piece others) behind) in
        stops tree deepest is (piece_in piece entry.0) (views_among tree deepest piece others ++ rest) (left-first tree deepest piece rest a directory)
        (subst (λ (n : ℕ). CanStand (entries_under tree n path)) (sym (room-child tree deepest piece entry)) own)
