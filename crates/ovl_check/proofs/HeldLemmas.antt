-- What a directory of a layer directly holds.
use Rattle.std.proofs.Common.{◌≡◌, ℕ, zero, suc, arith, ◌<◌, inl, inr, Bool, true, false, cond, Option, Some, None, List, [], ◌∷◌, ◌++◌, length, get_or, map, refl, sym, ap, ◌∙◌, subst}
use Rattle.std.specs.Prelude.{◌||◌, not, filter}
use Rattle.std.specs.List.{list_any, flat_map}
use Rattle.std.specs.Option.{option_map}
use Rattle.std.proofs.Math.Bool.{or-true}
use Rattle.std.proofs.lemmas.List.Folds.{flat_map-map}
use Rattle.std.proofs.lemmas.Simd.{map-map}
use Rattle.ovl_names.specs.Names.{PathName}
use Rattle.ovl_names.specs.Paths.{PathNames, child_path}
use Rattle.ovl_inode.specs.declared.inodes.Inode.{Inode}
use Rattle.ovl_inode.specs.Attributes.{origin_name}
use Rattle.ovl_inode.specs.declared.marks.Mark.{Mark}
use Rattle.ovl_inode.specs.Marks.{mark_of, is_directory, has_attribute}
use Rattle.ovl_layer.specs.Layers.{Entries, IsLayer, entry_at, is_directory_at, names_below, has_parent}
use Rattle.ovl_layer.specs.Sheets.{path_at}
use Rattle.ovl_layer.specs.RowsBelow.{NamedRow, LiesBelow}
use Rattle.ovl_lookup.proofs.LawsOfPaths.{length-child, parent_path-child}
use Rattle.ovl_board.specs.declared.pieces.Piece.{Piece}
use Rattle.ovl_board.proofs.LawsOfMembers.{In, In-map, In-flat_map-cases, get_or-In}
use Rattle.ovl_check.specs.declared.directories.Child.{Child}
use Rattle.ovl_check.specs.declared.findings.Finding.{Finding}
use Rattle.ovl_check.specs.Checks.{CheckView, layer_at, findings_alone, findings_at_path}
use Rattle.ovl_check.specs.Conditions.{has_origin_at}
use Rattle.ovl_check.specs.Facts.{held, held_in, child_seen, found_at_child}
use Rattle.ovl_blobs.proofs.Ascent.{list_all-Every}
use Rattle.ovl_blobs.proofs.ListFacts.{filter-map}
use Rattle.ovl_check.proofs.ListFacts.{any-map}
use Rattle.ovl_check.proofs.LayerFacts.{below-In}

-- ---- by name

module _ (layer : Entries) (directory : PathNames) where
  abbrev at_name : PathName → Option Inode
  at_name name = entry_at layer (child_path directory name)

  abbrev held_at : PathName → List (PathName × Inode)
  held_at name = held name (at_name name)

  abbrev is_there : PathName → Bool
  is_there name = is_directory_at layer (child_path directory name)

  any-held : (test : Inode → Bool) (names : List PathName) → list_any (λ e. test e.1) (flat_map held_at names) ≡ list_any (λ name. elim (at_name name) as (λ _. Bool) [ Some inode ↦ test inode | None ↦ false ]) names
  any-held test [] = refl
  any-held test (name ∷ names) = by (at_name name) (any-held test names)
    where
      by : (found : Option Inode)
          → list_any (λ e. test e.1) (flat_map held_at names) ≡ list_any (λ name. elim (at_name name) as (λ _. Bool) [ Some inode ↦ test inode | None ↦ false ]) names
          → list_any (λ e. test e.1) (held name found ++ flat_map held_at names) ≡ ((elim found as (λ _. Bool) [ Some inode ↦ test inode | None ↦ false ]) || list_any (λ name. elim (at_name name) as (λ _. Bool) [ Some inode ↦ test inode | None ↦ false ]) names)
      by None later = later
      by (Some inode) later = ap (λ b. test inode || b) later

  kids-held : (piece : PathName → Piece) (names : List PathName) → map (λ e. piece e.0) (filter (λ e. is_directory e.1) (flat_map held_at names)) ≡ map piece (filter is_there names)
  kids-held piece [] = refl
  kids-held piece (name ∷ names) = by (at_name name) (kids-held piece names)
    where
      by : (found : Option Inode)
          → map (λ e. piece e.0) (filter (λ e. is_directory e.1) (flat_map held_at names)) ≡ map piece (filter is_there names)
          → map (λ e. piece e.0) (filter (λ e. is_directory e.1) (held name found ++ flat_map held_at names)) ≡ map piece (cond (elim found as (λ _. Bool) [ Some inode ↦ is_directory inode | None ↦ false ]) (name ∷ filter is_there names) (filter is_there names))
      by None later = later
      by (Some inode) later = here (is_directory inode)
        where
          here : (b : Bool) → map (λ e. piece e.0) (cond b ((name, inode) ∷ filter (λ e. is_directory e.1) (flat_map held_at names)) (filter (λ e. is_directory e.1) (flat_map held_at names))) ≡ map piece (cond b (name ∷ filter is_there names) (filter is_there names))
          here true = ap (λ kids. piece name ∷ kids) later
          here false = later

  -- what is found at those that are no directories
  module _ (found : PathName × Inode → List Finding) where
    abbrev found_at : PathName → List Finding
    found_at name = elim (at_name name) as (λ _. List Finding) [ Some inode ↦ found (name, inode) | None ↦ [] ]

    abbrev found_in : PathName × Inode → List Finding
    found_in e = cond (is_directory e.1) [] (found e)

    files-held : (names : List PathName) → flat_map found_in (flat_map held_at names) ≡ flat_map found_at (filter (λ name. not (is_there name)) names)
    files-held [] = refl
    files-held (name ∷ names) = by (at_name name) refl (files-held names)
      where
        by : (o : Option Inode) → at_name name ≡ o → flat_map found_in (flat_map held_at names) ≡ flat_map found_at (filter (λ name. not (is_there name)) names)
            → flat_map found_in (held name o ++ flat_map held_at names) ≡ flat_map found_at (cond (not (elim o as (λ _. Bool) [ Some inode ↦ is_directory inode | None ↦ false ])) (name ∷ filter (λ name. not (is_there name)) names) (filter (λ name. not (is_there name)) names))
        by None e later = later ∙ sym (ap (λ o. (elim o as (λ _. List Finding) [ Some inode ↦ found (name, inode) | None ↦ [] ]) ++ flat_map found_at (filter (λ name. not (is_there name)) names)) e)
        by (Some inode) e later = here (is_directory inode)
          where
            here : (b : Bool) → cond b [] (found (name, inode)) ++ flat_map found_in (flat_map held_at names) ≡ flat_map found_at (cond (not b) (name ∷ filter (λ name. not (is_there name)) names) (filter (λ name. not (is_there name)) names))
            here true = later
            here false = (λ j. sym (ap (λ o. elim o as (λ _. List Finding) [ Some inode ↦ found (name, inode) | None ↦ [] ]) e) j ++ later j)

  there-held : (e : PathName × Inode) (names : List PathName) → In e (flat_map held_at names) → at_name e.0 ≡ Some e.1
  there-held e names h = let c = In-flat_map-cases held_at e names h in by c.0 (at_name c.0) refl c.2
    where
      by : (name : PathName) (o : Option Inode) → at_name name ≡ o → In e (held name o) → at_name e.0 ≡ Some e.1
      by name None q h = absurd h
      by name (Some inode) q (inl same) = ap (λ (x : PathName × Inode). at_name x.0) same ∙ (q ∙ ap (λ (x : PathName × Inode). Some x.1) (sym same))
      by name (Some inode) q (inr h) = absurd h

  -- below what is no directory there is nothing
  pub names_below-none : IsLayer layer → is_directory_at layer directory ≡ false → names_below layer directory ≡ []
  names_below-none is none = by (names_below layer directory) (λ name h. h)
    where
      never : (name : PathName) → In name (names_below layer directory) → ⊥
      never name h =
          let entry = below-In layer directory name h in
          let has : has_parent layer (child_path directory name) ≡ true = ap (has_parent layer) (sym entry.1.1) ∙ list_all-Every (λ e. has_parent layer e.0) layer is.closed entry.0 entry.1.0 in
          let bad : false ≡ true =
          sym ((λ j. length-child directory name j || is_directory_at layer (parent_path-child directory name j)) ∙ none) ∙ has in
          absurd (cc)

      by : (names : List PathName) → ((name : PathName) → In name names → In name (names_below layer directory)) → names ≡ []
      by [] from = refl
      by (name ∷ names) from = absurd (never name (from name (inl refl)))

-- ---- by the rows of a sheet, one after another

-- what these rows directly below a directory hold
abbrev pub held_rows : Entries → PathNames → List NamedRow → List (PathName × Inode)
held_rows layer directory rows = flat_map (λ name. held name (entry_at layer (child_path directory name))) (map (λ row. row.1) rows)

pub held-row : (layer : Entries) (directory : PathNames) (row : NamedRow) (rows : List NamedRow) (inode : Inode) → LiesBelow layer directory row → entry_at layer (path_at layer row.0) ≡ Some inode → held_rows layer directory (row ∷ rows) ≡ ((row.1, inode) ∷ []) ++ held_rows layer directory rows
held-row layer directory row rows inode below there =
    ap (λ found. held row.1 found ++ held_rows layer directory rows) (ap (entry_at layer) (sym below.1) ∙ there)

-- the mark of a row
pub marked-row : (layer : Entries) (path : PathNames) (inode : Inode) (mark : Mark) → entry_at layer path ≡ Some inode → option_map mark_of (entry_at layer path) ≡ Some mark → mark ≡ mark_of inode
marked-row layer path inode mark here marked =
    ap (λ (o : Option Mark). elim o as (λ _. Mark) [ Some m ↦ m | None ↦ mark ]) (sym marked ∙ ap (option_map mark_of) here)

-- ---- by the children that were gathered

module _ (layer : Entries) (directory : PathNames) (children : List Child) (same : map child_seen children ≡ held_in layer directory) where
  pub child-there : (k : ℕ) (d : Child) → k < length children → entry_at layer (child_path directory (get_or children k d).name.now) ≡ Some (get_or children k d).inode.now
  child-there k d inside =
      there-held layer directory (child_seen (get_or children k d)) (names_below layer directory)
      (subst (In (child_seen (get_or children k d))) same (In-map child_seen (get_or children k d) children (get_or-In children k d inside)))

  pub origin-children : list_any (λ child. has_attribute child.inode.now origin_name) children ≡ list_any (λ name. has_origin_at layer (child_path directory name)) (names_below layer directory)
  origin-children =
      let test : Inode → Bool = λ inode. has_attribute inode origin_name in
      sym (any-map child_seen (λ e. test e.1) children)
      ∙ (ap (list_any (λ e. test e.1)) same
      ∙ any-held layer directory test (names_below layer directory))

  pub kids-children : (piece : PathName → Piece) → map (λ child. piece child.name.now) (filter (λ child. is_directory child.inode.now) children) ≡ map piece (filter (λ name. is_directory_at layer (child_path directory name)) (names_below layer directory))
  kids-children piece =
      let first : PathName × Inode → Piece = λ e. piece e.0 in
      let test : PathName × Inode → Bool = λ e. is_directory e.1 in
      sym (map-map first child_seen (filter (λ child. is_directory child.inode.now) children))
      ∙ (ap (map first) (sym (filter-map child_seen test children))
      ∙ (ap (λ es. map first (filter test es)) same
      ∙ kids-held layer directory piece (names_below layer directory)))

  pub files-children : (work : CheckView) (i : ℕ) → layer ≡ layer_at work.stack i → flat_map (λ child. found_at_child work i directory (child_seen child)) children ≡ flat_map (λ name. findings_at_path work i (child_path directory name)) (filter (λ name. not (is_directory_at (layer_at work.stack i) (child_path directory name))) (names_below (layer_at work.stack i) directory))
  files-children work i is =
      sym (flat_map-map (found_at_child work i directory) child_seen children)
      ∙ (ap (flat_map (found_at_child work i directory)) same
      ∙ (files-held layer directory (λ e. findings_alone work i (child_path directory e.0, e.1)) (names_below layer directory)
      ∙ ap (λ (l : Entries). flat_map (λ name. elim (entry_at l (child_path directory name)) as (λ _. List Finding) [ Some inode ↦ findings_alone work i (child_path directory name, inode) | None ↦ [] ]) (filter (λ name. not (is_directory_at l (child_path directory name))) (names_below l directory))) is))

-- an element that passes a test
pub any-at : {X : Type 0} (test : X → Bool) (xs : List X) (k : ℕ) (d : X) → k < length xs → test (get_or xs k d) ≡ true → list_any test xs ≡ true
any-at test [] k d inside passes = absurd (omega arith)
any-at test (x ∷ xs) zero d inside passes = ap (λ b. b || list_any test xs) passes
any-at test (x ∷ xs) (suc k) d inside passes = ap (λ b. test x || b) (any-at test xs k d (omega arith) passes) ∙ or-true (test x)
