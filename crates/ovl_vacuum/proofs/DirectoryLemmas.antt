-- The directories of a layer as pieces: their kids are lawful.
use Rattle.std.proofs.Common.{◌≡◌, ◌≤◌, inl, inr, Bool, true, false, cond, Option, Some, None, List, [], ◌∷◌, length, map, refl, sym, ap, ◌∙◌, subst}
use Rattle.std.specs.Prelude.{filter}
use Rattle.std.specs.List.{cons_option, list_all}
use Rattle.std.specs.Ordering.{is_lt}
use Rattle.std.specs.declared.cmp.Ordering.TheVariants.{Less}
use Rattle.std.specs.Cmp.Lexicographic.{nat_list_cmp_total, pointwise_decides, bytes_decides}
use Rattle.ovl_names.specs.Names.{PathName, name_cmp}
use Rattle.ovl_names.specs.Order.{ascends}
use Rattle.ovl_names.specs.Paths.{PathNames, child_path, path_eq, path_cmp, depth_limit}
use Rattle.ovl_names.proofs.Ascending.{both, is_lt-Less}
use Rattle.ovl_inode.specs.declared.inodes.Inode.{Inode}
use Rattle.ovl_layer.specs.Layers.{Entries, Entry, entry_at, entry_cmp, name_below, names_below, IsLayer}
use Rattle.ovl_lookup.proofs.LawsOfKids.{below-path}
use Rattle.ovl_lookup.proofs.LawsOfWalks.{entry-limited, name_below-child}
use Rattle.ovl_board.specs.declared.pieces.Piece.{Piece}
use Rattle.ovl_board.specs.Pieces.{piece_in, HasLawfulKids}
use Rattle.ovl_board.proofs.LawsOfMembers.{In, Every, Rises, All-Every, In-map-cases, In-filter-cases, Rises-filter}
use Rattle.ovl_board.proofs.LawsOfPieces.{siblings, entries-lawful}

-- ---- the paths of a layer

abbrev pub paths_of : Entries → List PathNames
paths_of layer = map (λ (entry : Entry). entry.0) layer

abbrev pub PathBefore : PathNames → PathNames → Type 0
PathBefore one other = path_cmp one other ≡ Less

pub path-entry : (layer : Entries) (path : PathNames) → In path (paths_of layer) → (inode : Inode) × (entry_at layer path ≡ Some inode)
path-entry [] path h = absurd h
path-entry (entry ∷ layer) path h = by (path-entry layer path) (path_eq path entry.0) refl h
  where
    by : (In path (paths_of layer) → (inode : Inode) × (entry_at layer path ≡ Some inode)) → (b : Bool) → path_eq path entry.0 ≡ b → In path (paths_of (entry ∷ layer)) → (inode : Inode) × (cond b (Some entry.1) (entry_at layer path) ≡ Some inode)
    by later true e h = (entry.1, refl)
    by later false e (inl same) = let bad : false ≡ true = sym e ∙ (pointwise_decides bytes_decides path entry.0).1 same in cc
    by later false e (inr h) = later h

pub entry-path : (layer : Entries) (path : PathNames) (inode : Inode) → entry_at layer path ≡ Some inode → In path (paths_of layer)
entry-path [] path inode here = let bad : None ≡ Some inode = here in cc
entry-path (entry ∷ layer) path inode here = by (entry-path layer path inode) (path_eq path entry.0) refl here
  where
    by : (entry_at layer path ≡ Some inode → In path (paths_of layer)) → (b : Bool) → path_eq path entry.0 ≡ b → cond b (Some entry.1) (entry_at layer path) ≡ Some inode → In path (paths_of (entry ∷ layer))
    by later true e here = inl ((pointwise_decides bytes_decides path entry.0).0 e)
    by later false e here = inr (later here)

each-later : (entry : Entry) (layer : Entries) → list_all (λ later. is_lt (entry_cmp entry later)) layer ≡ true → Every (PathBefore entry.0) (paths_of layer)
each-later entry [] all path h = absurd h
each-later entry (other ∷ layer) all path h = by (each-later entry layer parts.1 path) h
  where
    parts : (is_lt (entry_cmp entry other) ≡ true) × (list_all (λ later. is_lt (entry_cmp entry later)) layer ≡ true)
    parts = both {a = is_lt (entry_cmp entry other)} {b = list_all (λ later. is_lt (entry_cmp entry later)) layer} all

    by : (In path (paths_of layer) → PathBefore entry.0 path) → In path (paths_of (other ∷ layer)) → PathBefore entry.0 path
    by later (inl same) = ap (path_cmp entry.0) same ∙ is_lt-Less (entry_cmp entry other) parts.0
    by later (inr h) = later h

pub paths-rise : (layer : Entries) → ascends entry_cmp layer ≡ true → Rises PathBefore (paths_of layer)
paths-rise [] up = tt
paths-rise (entry ∷ layer) up =
    let parts = both {a = list_all (λ later. is_lt (entry_cmp entry later)) layer} {b = ascends entry_cmp layer} up in
    (each-later entry layer parts.0, paths-rise layer parts.1)

-- ---- the names in a directory

-- a name is one of them exactly if its path is one of the layer's
pub name-In : (layer : Entries) (directory : PathNames) (name : PathName) → In name (names_below layer directory) → In (child_path directory name) (paths_of layer)
name-In [] directory name h = absurd h
name-In (entry ∷ layer) directory name h = by (name-In layer directory name) (name_below directory entry.0) refl h
  where
    by : (In name (names_below layer directory) → In (child_path directory name) (paths_of layer)) → (own : Option PathName) → name_below directory entry.0 ≡ own → In name (cons_option own (names_below layer directory)) → In (child_path directory name) (paths_of (entry ∷ layer))
    by later None e h = inr (later h)
    by later (Some own) e (inl same) = inl (ap (child_path directory) same ∙ sym (below-path directory entry.0 own e))
    by later (Some own) e (inr h) = inr (later h)

pub In-name : (layer : Entries) (directory : PathNames) (name : PathName) → In (child_path directory name) (paths_of layer) → In name (names_below layer directory)
In-name [] directory name h = absurd h
In-name (entry ∷ layer) directory name (inl same) =
    subst (λ (own : Option PathName). In name (cons_option own (names_below layer directory))) (sym (ap (name_below directory) (sym same) ∙ name_below-child directory name)) (inl refl)
In-name (entry ∷ layer) directory name (inr h) = by (name_below directory entry.0) (In-name layer directory name h)
  where
    by : (own : Option PathName) → In name (names_below layer directory) → In name (cons_option own (names_below layer directory))
    by None later = later
    by (Some own) later = inr later

abbrev NameBefore : PathName → PathName → Type 0
NameBefore one other = name_cmp one other ≡ Less

names-rise : (layer : Entries) (directory : PathNames) → Rises PathBefore (paths_of layer) → Rises NameBefore (names_below layer directory)
names-rise [] directory up = tt
names-rise (entry ∷ layer) directory up = by (names-rise layer directory up.1) (name_below directory entry.0) refl
  where
    by : Rises NameBefore (names_below layer directory) → (own : Option PathName) → name_below directory entry.0 ≡ own → Rises NameBefore (cons_option own (names_below layer directory))
    by rest None e = rest
    by rest (Some name) e = (
      (λ later h. siblings name_cmp nat_list_cmp_total directory name later
          (ap (λ (p : PathNames). path_cmp p (child_path directory later)) (sym (below-path directory entry.0 name e)) ∙ up.0 (child_path directory later) (name-In layer directory later h))),
      rest,
    )

-- ---- the pieces of those that pass a test are lawful kids

module _ (layer : Entries) (test : PathNames → Bool) where
  abbrev pub kids_that : Piece → List Piece
  kids_that piece = map (piece_in piece) (filter (λ name. test (child_path piece.dir name)) (names_below layer piece.dir))

  -- a kid is a path of the layer that passes
  pub kid-path : (piece kid : Piece) → In kid (kids_that piece) → (name : PathName) × (In (child_path piece.dir name) (paths_of layer) × ((test (child_path piece.dir name) ≡ true) × (kid ≡ piece_in piece name)))
  kid-path piece kid h =
      let one = In-map-cases (piece_in piece) kid (filter (λ name. test (child_path piece.dir name)) (names_below layer piece.dir)) h in
      let there = In-filter-cases (λ name. test (child_path piece.dir name)) one.0 (names_below layer piece.dir) one.1.0 in
      (one.0, (name-In layer piece.dir one.0 there.0, (there.1, one.1.1)))

  pub kids-lawful : IsLayer layer → HasLawfulKids kids_that depth_limit
  kids-lawful is = record {
    lawful = λ piece. entries-lawful (λ name. name) piece (filter (λ name. test (child_path piece.dir name)) (names_below layer piece.dir))
        (Rises-filter NameBefore (λ name. test (child_path piece.dir name)) (names_below layer piece.dir)
        (names-rise layer piece.dir (paths-rise layer is.in_order)));
    shallow = λ piece. All-Every (λ kid. length kid.dir ≤ depth_limit) (kids_that piece) (λ kid h.
        let one = kid-path piece kid h in
        let entry = path-entry layer (child_path piece.dir one.0) one.1.0 in
        subst (λ (p : Piece). length p.dir ≤ depth_limit) (sym one.1.1.1) (entry-limited layer (child_path piece.dir one.0) entry.0 is entry.1));
  }
