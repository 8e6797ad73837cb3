-- The entries of a directory of a new layer: all that it has there, in order; those that are directories are lawful kids.
use Rattle.std.proofs.Common.{◌≡◌, ℕ, ◌≤◌, inl, inr, Bool, true, false, cond, Option, Some, None, List, [], ◌∷◌, length, map, refl, sym, ap, ◌∙◌, subst, arith}
use Rattle.std.specs.Prelude.{filter}
use Rattle.std.specs.Option.{option_map}
use Rattle.std.specs.List.{cons_option, filter_map}
use Rattle.std.specs.Map.{lookup}
use Rattle.std.specs.Cmp.Lexicographic.{bytes_decides}
use Rattle.ovl_names.specs.Names.{PathName, name_eq, name_cmp}
use Rattle.ovl_names.specs.Paths.{PathNames, child_path}
use Rattle.ovl_inode.specs.declared.inodes.Inode.{Inode}
use Rattle.ovl_inode.specs.Marks.{is_directory}
use Rattle.ovl_board.specs.declared.pieces.Piece.{Piece}
use Rattle.ovl_board.specs.Pieces.{piece_in, HasLawfulKids}
use Rattle.ovl_board.proofs.LawsOfMembers.{In, Rises, All-Every, In-map-cases, In-filter-cases, Rises-filter}
use Rattle.ovl_board.proofs.LawsOfPieces.{entries-lawful}
use Rattle.ovl_rewrite.specs.Directories.{NamedInode}
use Rattle.ovl_rewrite.specs.Passes.{TreeEntries, tree_kids, tree_out}
use Rattle.ovl_rewrite.specs.NewLayers.{NewLayer, is_directory_found, has_directory, named_entry, tree_by, AreNamesOf, AreEntriesOf, TellsLayer}
use Rattle.ovl_rewrite.proofs.Ascents.{NameBefore, rising-ascend, rising-names, any-In}

abbrev pub EntryBefore : NamedInode → NamedInode → Type 0
EntryBefore one other = NameBefore one.0 other.0

-- ---- what is found under a name

found-entry : (name : PathName) (entries : List NamedInode) (inode : Inode) → lookup (name_eq name) entries ≡ Some inode → In (name, inode) entries
found-entry name [] inode e = let bad : None ≡ Some inode = e in cc
found-entry name (entry ∷ entries) inode e = by (found-entry name entries inode) (name_eq name entry.0) refl e
  where
    by : (lookup (name_eq name) entries ≡ Some inode → In (name, inode) entries) → (b : Bool) → name_eq name entry.0 ≡ b → cond b (Some entry.1) (lookup (name_eq name) entries) ≡ Some inode → In (name, inode) (entry ∷ entries)
    by later true s e = let own : entry.1 ≡ inode = cc in inl (λ j. ((bytes_decides name entry.0).0 s j, sym own j))
    by later false s e = inr (later e)

none-found : (name : PathName) (entries : List NamedInode) (inode : Inode) → lookup (name_eq name) entries ≡ None → In (name, inode) entries → ⊥
none-found name [] inode e h = absurd h
none-found name (entry ∷ entries) inode e h = by (none-found name entries inode) (name_eq name entry.0) refl e h
  where
    by : (lookup (name_eq name) entries ≡ None → In (name, inode) entries → ⊥) → (b : Bool) → name_eq name entry.0 ≡ b → cond b (Some entry.1) (lookup (name_eq name) entries) ≡ None → In (name, inode) (entry ∷ entries) → ⊥
    by later true s e h = let bad : Some entry.1 ≡ None = e in cc
    by later false s e (inl same) = let bad : false ≡ true = sym s ∙ (bytes_decides name entry.0).1 (ap (λ (n : NamedInode). n.0) same) in cc
    by later false s e (inr h) = later e h

names-rise : (entries : List NamedInode) → Rises EntryBefore entries → Rises NameBefore (map (λ entry. entry.0) entries)
names-rise [] up = tt
names-rise (entry ∷ entries) up = (
  (λ name h.
      let other = In-map-cases (λ (e : NamedInode). e.0) name entries h in
      subst (NameBefore entry.0) (sym other.1.1) (up.0 other.0 other.1.0)),
  names-rise entries up.1,
)

module _ (new : NewLayer) where
  -- ---- the entries of some names

  abbrev listed : PathNames → List PathName → List NamedInode
  listed directory names = filter_map (named_entry new directory) names

  listed-cases : (directory : PathNames) (names : List PathName) (entry : NamedInode) → In entry (listed directory names) → In entry.0 names × (new (child_path directory entry.0) ≡ Some entry.1)
  listed-cases directory [] entry h = absurd h
  listed-cases directory (name ∷ names) entry h = by (listed-cases directory names entry) (new (child_path directory name)) refl h
    where
      by : (In entry (listed directory names) → In entry.0 names × (new (child_path directory entry.0) ≡ Some entry.1)) → (found : Option Inode) → new (child_path directory name) ≡ found
          → In entry (cons_option (option_map (λ inode. (name, inode)) found) (listed directory names)) → In entry.0 (name ∷ names) × (new (child_path directory entry.0) ≡ Some entry.1)
      by later None e h = let more = later h in (inr more.0, more.1)
      by later (Some inode) e (inl same) =
          let own : entry.0 ≡ name = ap (λ (n : NamedInode). n.0) same in
          (inl own, ap (λ (n : PathName). new (child_path directory n)) own ∙ (e ∙ ap (λ (n : NamedInode). Some n.1) (sym same)))
      by later (Some inode) e (inr h) = let more = later h in (inr more.0, more.1)

  listed-there : (directory : PathNames) (names : List PathName) (name : PathName) (inode : Inode) → In name names → new (child_path directory name) ≡ Some inode → In (name, inode) (listed directory names)
  listed-there directory [] name inode h here = absurd h
  listed-there directory (other ∷ names) name inode (inl same) here =
      subst (λ (o : Option NamedInode). In (name, inode) (cons_option o (listed directory names)))
      (sym (ap (named_entry new directory) (sym same) ∙ ap (option_map (λ i. (name, i))) here)) (inl refl)
  listed-there directory (other ∷ names) name inode (inr h) here = by (named_entry new directory other) (listed-there directory names name inode h here)
    where
      by : (o : Option NamedInode) → In (name, inode) (listed directory names) → In (name, inode) (cons_option o (listed directory names))
      by None later = later
      by (Some entry) later = inr later

  listed-rise : (directory : PathNames) (names : List PathName) → Rises NameBefore names → Rises EntryBefore (listed directory names)
  listed-rise directory [] up = tt
  listed-rise directory (name ∷ names) up = by (new (child_path directory name)) (listed-rise directory names up.1)
    where
      by : (found : Option Inode) → Rises EntryBefore (listed directory names) → Rises EntryBefore (cons_option (option_map (λ inode. (name, inode)) found) (listed directory names))
      by None later = later
      by (Some inode) later = ((λ entry h. up.0 entry.0 (listed-cases directory names entry h).0), later)

  module _ (names : PathNames → List PathName) (deepest : ℕ) (told : AreNamesOf new names deepest) where
    abbrev tree : TreeEntries
    tree = tree_by new names

    -- ---- the entries of a directory: all that there is, in order

    pub entry-new : (directory : PathNames) (entry : NamedInode) → In entry (tree directory) → new (child_path directory entry.0) ≡ Some entry.1
    entry-new directory entry h = (listed-cases directory (names directory) entry h).1

    pub new-entry : (directory : PathNames) (name : PathName) (inode : Inode) → new (child_path directory name) ≡ Some inode → In (name, inode) (tree directory)
    new-entry directory name inode here = listed-there directory (names directory) name inode (any-In name (names directory) (told.named directory name inode here)) here

    pub entries-rise : (directory : PathNames) → Rises EntryBefore (tree directory)
    entries-rise directory = listed-rise directory (names directory) (rising-names (names directory) (told.in_order directory))

    entries-told : (directory : PathNames) → AreEntriesOf new directory (tree directory)
    entries-told directory = record {
      in_order = rising-ascend name_cmp (map (λ entry. entry.0) (tree directory)) (names-rise (tree directory) (entries-rise directory));
      same = λ name. by name (lookup (name_eq name) (tree directory)) refl (new (child_path directory name)) refl;
    }
      where
        by : (name : PathName) (found : Option Inode) → lookup (name_eq name) (tree directory) ≡ found → (here : Option Inode) → new (child_path directory name) ≡ here → lookup (name_eq name) (tree directory) ≡ new (child_path directory name)
        by name (Some inode) e here h = e ∙ sym (entry-new directory (name, inode) (found-entry name (tree directory) inode e))
        by name None e None h = e ∙ sym h
        by name None e (Some inode) h = absurd (none-found name (tree directory) inode e (new-entry directory name inode h))

    -- visits of these directories give the new layer
    pub layer-told : TellsLayer new (tree_kids tree) (tree_out tree)
    layer-told = record { output = λ piece. entries-told piece.dir; directories = λ piece. refl }

    -- ---- the directories among them are lawful kids

    abbrev is_kid : NamedInode → Bool
    is_kid entry = is_directory entry.1

    kid-entry : (piece kid : Piece) → In kid (tree_kids tree piece) → (entry : NamedInode) × (has_directory new (child_path piece.dir entry.0) ≡ true) × (kid ≡ piece_in piece entry.0)
    kid-entry piece kid h =
        let one = In-map-cases (λ (entry : NamedInode). piece_in piece entry.0) kid (filter is_kid (tree piece.dir)) h in
        let there = In-filter-cases is_kid one.0 (tree piece.dir) one.1.0 in
        (one.0, ap is_directory_found (entry-new piece.dir one.0 there.0) ∙ there.1, one.1.1)

    pub kids-lawful : (most : ℕ) → deepest ≤ most → HasLawfulKids (tree_kids tree) most
    kids-lawful most deep = record {
      lawful = λ piece. entries-lawful (λ (entry : NamedInode). entry.0) piece (filter is_kid (tree piece.dir)) (Rises-filter EntryBefore is_kid (tree piece.dir) (entries-rise piece.dir));
      shallow = λ piece. All-Every (λ kid. length kid.dir ≤ most) (tree_kids tree piece) (λ kid h.
          let one = kid-entry piece kid h in
          let short : length (child_path piece.dir one.0.0) ≤ deepest = told.shallow (child_path piece.dir one.0.0) one.1 in
          subst (λ (p : Piece). length p.dir ≤ most) (sym one.2) (omega (arith, short, deep)));
    }
