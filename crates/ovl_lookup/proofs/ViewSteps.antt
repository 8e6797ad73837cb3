-- The steps of passes over layers and over the places of a view.
use Rattle.std.proofs.Common.{◌≡◌, ℕ, zero, suc, ◌+◌, Bool, true, false, cond, Option, Some, None, is_some, List, [], ◌∷◌, ◌++◌, drop, map, refl, sym, ap, ◌∙◌, add-one, arith}
use Rattle.std.specs.Prelude.{◌||◌, not, filter, slice_get}
use Rattle.std.proofs.lemmas.List.{map-append}
use Rattle.std.proofs.lemmas.List.Elements.{filter-append}
use Rattle.ovl_names.specs.Names.{PathName}
use Rattle.ovl_names.specs.Paths.{PathNames}
use Rattle.ovl_inode.specs.declared.inodes.Inode.{Inode}
use Rattle.ovl_inode.specs.declared.marks.Mark.{Mark}
use Rattle.ovl_inode.specs.Marks.{mark_of, is_directory, is_whiteout}
use Rattle.ovl_layer.specs.Layers.{Entries, entry_at, is_directory_at}
use Rattle.ovl_lookup.specs.Stacks.{StackView}
use Rattle.ovl_lookup.specs.Walk.{walk}
use Rattle.ovl_lookup.specs.Passes.{IsPast}
use Rattle.ovl_lookup.specs.Trace.{things_found}
use Rattle.ovl_lookup.specs.Views.{ReachedDirectory, reached, entry_in, entered, below_entry, reached_below, found_below}
use Rattle.ovl_lookup.specs.Merged.{is_nothing}
use Rattle.ovl_lookup.specs.ViewPasses.{First, look_from_top, looks_from_tops}
use Rattle.ovl_lookup.proofs.ViewLemmas.{reached-past, reached_below_by, found_below_by}

-- what a list has from a place on
drop-next : {X : Type 0} (xs : List X) (i : ℕ) (x : X) → slice_get xs i ≡ Some x → drop i xs ≡ x ∷ drop (suc i) xs
drop-next [] i x here = let bad : None ≡ Some x = here in cc
drop-next (first ∷ xs) zero x here = let same : first ≡ x = cc in ap (λ y. y ∷ xs) same
drop-next (first ∷ xs) (suc i) x here = drop-next xs i x here

pub drop-here : {X : Type 0} (xs : List X) (i : ℕ) (x : X) → slice_get xs i ≡ Some x → drop i xs ≡ x ∷ drop (i + 1) xs
drop-here xs i x here = rw add-one (drop-next xs i x here)

-- ---- the layers from `i` on, of which the first is `layer`
module _ (layers : List Entries) (i : ℕ) (layer : Entries) (here : slice_get layers i ≡ Some layer) (path : PathNames) where
  -- it has a directory there
  pub arrives-directory : (next : PathNames) (closed : Bool) → is_directory_at layer path ≡ true → next ≡ (walk layer path).next → closed ≡ (walk layer path).closed → reached (drop i layers) i path ≡ record { layer = i; path = path; next = next; closed = closed } ∷ cond closed [] (reached (drop (i + 1) layers) (i + 1) next)
  arrives-directory next closed holds is_next is_closed =
      ap (λ (ls : List Entries). reached ls i path) (drop-here layers i layer here)
      ∙ ((λ j. cond (holds j) (record { layer = i; path = path; next = sym is_next j; closed = sym is_closed j } ∷ cond (sym is_closed j) [] (reached (drop (i + 1) layers) (suc i) (sym is_next j))) (cond (is_some (entry_at layer path) || (walk layer path).closed) [] (reached (drop (i + 1) layers) (suc i) (walk layer path).next)))
      ∙ rw add-one refl)

  -- it has none, and the walk goes on in the layers below, unless they are hidden there
  pub arrives-past : (next : PathNames) (hidden : Bool) → IsPast layer path next hidden → reached (drop i layers) i path ≡ cond hidden [] (reached (drop (i + 1) layers) (i + 1) next)
  arrives-past next hidden past =
      ap (λ (ls : List Entries). reached ls i path) (drop-here layers i layer here)
      ∙ (reached-past layer (drop (i + 1) layers) i path next hidden past ∙ rw add-one refl)

-- ---- the places from `k` on, of which the first is `place`
module _ (all : List Entries) (name : PathName) (places : List ReachedDirectory) (k : ℕ) (place : ReachedDirectory) (here : slice_get places k ≡ Some place) where
  below-by : (found : Option Inode) → entry_in all name place ≡ found → reached_below all name (drop k places) ≡ reached_below_by all name place (drop (k + 1) places) found
  below-by found e = ap (reached_below all name) (drop-here places k place here) ∙ ap (reached_below_by all name place (drop (k + 1) places)) e

  pub below-none : entry_in all name place ≡ None → reached_below all name (drop k places) ≡ reached_below all name (drop (k + 1) places)
  below-none e = below-by None e

  pub below-file : (inode : Inode) → entry_in all name place ≡ Some inode → is_directory inode ≡ false → reached_below all name (drop k places) ≡ []
  below-file inode e file =
      below-by (Some inode) e
      ∙ ap (λ b. cond b (entered name (mark_of inode) place ∷ below_entry (mark_of inode) name (reached (drop (suc place.layer) all) (suc place.layer)) (λ other. reached_below all other (drop (k + 1) places))) []) file

  pub below-directory : (inode : Inode) (mark : Mark) → entry_in all name place ≡ Some inode → is_directory inode ≡ true → mark_of inode ≡ mark → reached_below all name (drop k places) ≡ entered name mark place ∷ below_entry mark name (reached (drop (place.layer + 1) all) (place.layer + 1)) (λ other. reached_below all other (drop (k + 1) places))
  below-directory inode mark e holds m =
      let next : suc place.layer ≡ place.layer + 1 = omega arith in
      below-by (Some inode) e
      ∙ ((λ j. cond (holds j) (entered name (m j) place ∷ below_entry (m j) name (reached (drop (suc place.layer) all) (suc place.layer)) (λ other. reached_below all other (drop (k + 1) places))) [])
      ∙ ap (λ n. entered name mark place ∷ below_entry mark name (reached (drop n all) n) (λ other. reached_below all other (drop (k + 1) places))) next)

  found-by : (found : Option Inode) → entry_in all name place ≡ found → found_below all name (drop k places) ≡ found_below_by all name place (drop (k + 1) places) found
  found-by found e = ap (found_below all name) (drop-here places k place here) ∙ ap (found_below_by all name place (drop (k + 1) places)) e

  pub found-none : entry_in all name place ≡ None → found_below all name (drop k places) ≡ found_below all name (drop (k + 1) places)
  found-none e = found-by None e

  pub found-whiteout : (inode : Inode) → entry_in all name place ≡ Some inode → is_whiteout inode ≡ true → found_below all name (drop k places) ≡ []
  found-whiteout inode e w =
      found-by (Some inode) e
      ∙ ap (λ b. cond b [] (inode ∷ below_entry (mark_of inode) name (things_found (drop (suc place.layer) all)) (λ other. found_below all other (drop (k + 1) places)))) w

  pub found-entry : (inode : Inode) (mark : Mark) → entry_in all name place ≡ Some inode → is_whiteout inode ≡ false → mark_of inode ≡ mark → found_below all name (drop k places) ≡ inode ∷ below_entry mark name (things_found (drop (place.layer + 1) all)) (λ other. found_below all other (drop (k + 1) places))
  found-entry inode mark e w m =
      let next : suc place.layer ≡ place.layer + 1 = omega arith in
      found-by (Some inode) e
      ∙ ((λ j. cond (w j) [] (inode ∷ below_entry (m j) name (things_found (drop (suc place.layer) all)) (λ other. found_below all other (drop (k + 1) places))))
      ∙ ap (λ n. inode ∷ below_entry mark name (things_found (drop n all)) (λ other. found_below all other (drop (k + 1) places))) next)

-- the looks at one more name
pub looks-next : (stack : StackView) (places : List ReachedDirectory) (tops : List (PathName × First)) (top : PathName × First) → looks_from_tops stack places (tops ++ top ∷ []) ≡ looks_from_tops stack places tops ++ cond (not (is_nothing (look_from_top stack places top).1)) (look_from_top stack places top ∷ []) []
looks-next stack places tops top =
    ap (filter (λ e. not (is_nothing e.1))) (map-append (look_from_top stack places) tops (top ∷ []))
    ∙ filter-append (λ e. not (is_nothing e.1)) (map (look_from_top stack places) tops) (look_from_top stack places top ∷ [])
