-- A layer of a stack: its entries one by one, and the directories in a directory.
use Rattle.std.proofs.Common.{◌≡◌, ℕ, zero, suc, ◌≤◌, ◌<◌, arith, ◌⊎◌, inl, inr, Bool, true, false, Option, Some, None, List, [], ◌∷◌, length, refl, sym, ap, ◌∙◌, subst}
use Rattle.std.specs.Prelude.{filter, slice_get, unwrap_or, All}
use Rattle.std.specs.List.{cons_option}
use Rattle.std.specs.Cmp.Lexicographic.{nat_list_cmp_total}
use Rattle.std.specs.declared.cmp.Ordering.TheVariants.{Less}
use Rattle.ovl_names.specs.Names.{PathName, name_cmp}
use Rattle.ovl_names.specs.Paths.{PathNames, child_path, path_cmp, depth_limit}
use Rattle.ovl_layer.specs.Layers.{Entries, Entry, IsLayer, entry_cmp, is_directory_at, name_below, names_below}
use Rattle.ovl_lookup.specs.Stacks.{all_layers}
use Rattle.ovl_lookup.proofs.LawsOfWalks.{directory-limited}
use Rattle.ovl_lookup.proofs.LawsOfPaths.{all-first, all-rest}
use Rattle.ovl_lookup.proofs.LawsOfKids.{below-path}
use Rattle.ovl_board.specs.declared.pieces.Piece.{Piece}
use Rattle.ovl_board.specs.Pieces.{piece_in, HasLawfulKids}
use Rattle.ovl_board.proofs.LawsOfPieces.{siblings, entries-lawful}
use Rattle.ovl_board.proofs.LawsOfMembers.{In, Rises, All-Every, In-map-cases, In-filter-cases, Rises-filter}
use Rattle.ovl_check.specs.Checks.{CheckView, layer_at, check_kids}
use Rattle.ovl_blobs.proofs.Ascent.{Rises-ascends}

-- a layer of a stack is one, and past the last there is nothing
pub layer_or_none : (layers : List Entries) → All IsLayer layers → (i : ℕ) → (unwrap_or (slice_get layers i) [] ≡ []) ⊎ IsLayer (unwrap_or (slice_get layers i) [])
layer_or_none [] each i = inl refl
layer_or_none (layer ∷ layers) each zero = inr (all-first IsLayer layer layers each)
layer_or_none (layer ∷ layers) each (suc i) = layer_or_none layers (all-rest IsLayer layer layers each) i

pub layer_at-is : (layers : List Entries) → All IsLayer layers → (i : ℕ) → i < length layers → IsLayer (unwrap_or (slice_get layers i) [])
layer_at-is [] each i inside = absurd (omega arith)
layer_at-is (layer ∷ layers) each zero inside = all-first IsLayer layer layers each
layer_at-is (layer ∷ layers) each (suc i) inside = layer_at-is layers (all-rest IsLayer layer layers each) i (omega arith)

-- ---- the names in a directory

cons_cases : {X : Type 0} (x : X) (o : Option X) (xs : List X) → In x (cons_option o xs) → (o ≡ Some x) ⊎ In x xs
cons_cases x None xs h = inr h
cons_cases x (Some y) xs (inl e) = inl (ap Some (sym e))
cons_cases x (Some y) xs (inr h) = inr h

pub below-In : (layer : Entries) (directory : PathNames) (name : PathName) → In name (names_below layer directory) → (entry : Entry) × (In entry layer × (entry.0 ≡ child_path directory name))
below-In [] directory name h = absurd h
below-In (entry ∷ layer) directory name h = elim (cons_cases name (name_below directory entry.0) (names_below layer directory) h) [
  | inl e ↦ (entry, (inl refl, below-path directory entry.0 name e))
  | inr k ↦ let r = below-In layer directory name k in (r.0, (inr r.1.0, r.1.1))
]

abbrev NameBefore : PathName → PathName → Type 0
NameBefore a b = name_cmp a b ≡ Less

names-rise : (layer : Entries) (directory : PathNames) → Rises (λ a b. entry_cmp a b ≡ Less) layer → Rises NameBefore (names_below layer directory)
names-rise [] directory up = tt
names-rise (entry ∷ layer) directory up = by (names-rise layer directory up.1) (name_below directory entry.0) refl
  where
    by : Rises NameBefore (names_below layer directory) → (o : Option PathName) → name_below directory entry.0 ≡ o → Rises NameBefore (cons_option o (names_below layer directory))
    by rest None e = rest
    by rest (Some name) e = (
      (λ later h.
          let other = below-In layer directory later h in
          siblings name_cmp nat_list_cmp_total directory name later
          ((λ j. path_cmp (sym (below-path directory entry.0 name e) j) (sym other.1.1 j)) ∙ up.0 other.0 other.1.0)),
      rest,
    )

-- ---- kids are lawful, and no deeper than a layer

module _ (work : CheckView) (each : All IsLayer (all_layers work.stack)) where
  pub kid-directory : (p q : Piece) → In q (check_kids work p) → (name : PathName) × (In name (names_below (layer_at work.stack p.space) p.dir) × ((is_directory_at (layer_at work.stack p.space) (child_path p.dir name) ≡ true) × (q ≡ piece_in p name)))
  kid-directory p q h =
      let layer = layer_at work.stack p.space in
      let test : PathName → Bool = λ name. is_directory_at layer (child_path p.dir name) in
      let one = In-map-cases (piece_in p) q (filter test (names_below layer p.dir)) h in
      let there = In-filter-cases test one.0 (names_below layer p.dir) one.1.0 in
      (one.0, (there.0, (there.1, one.1.1)))

  pub layer-ascends : (i : ℕ) → Rises (λ a b. entry_cmp a b ≡ Less) (layer_at work.stack i)
  layer-ascends i = elim (layer_or_none (all_layers work.stack) each i) [
    | inl none ↦ subst (Rises (λ a b. entry_cmp a b ≡ Less)) (sym none) tt
    | inr is ↦ Rises-ascends entry_cmp (layer_at work.stack i) is.in_order
  ]

  within : (i : ℕ) (path : PathNames) → is_directory_at (layer_at work.stack i) path ≡ true → length path ≤ depth_limit
  within i path is = elim (layer_or_none (all_layers work.stack) each i) [
    | inl none ↦ (let bad : false ≡ true = sym (ap (λ (l : Entries). is_directory_at l path) none) ∙ is in absurd (cc))
    | inr layer ↦ directory-limited (layer_at work.stack i) path layer is
  ]

  pub check_kids-lawful : HasLawfulKids (check_kids work) depth_limit
  check_kids-lawful = record {
    lawful = λ p. entries-lawful (λ name. name) p (filter (λ name. is_directory_at (layer_at work.stack p.space) (child_path p.dir name)) (names_below (layer_at work.stack p.space) p.dir))
        (Rises-filter NameBefore (λ name. is_directory_at (layer_at work.stack p.space) (child_path p.dir name)) (names_below (layer_at work.stack p.space) p.dir)
        (names-rise (layer_at work.stack p.space) p.dir (layer-ascends p.space)));
    shallow = λ p. All-Every (λ kid. length kid.dir ≤ depth_limit) (check_kids work p) (λ q h.
        let kid = kid-directory p q h in
        subst (λ (x : Piece). length x.dir ≤ depth_limit) (sym kid.1.1.1) (within p.space (child_path p.dir kid.0) kid.1.1.0));
  }
