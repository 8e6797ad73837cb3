-- What is shown at a name in a view, place by place.
use Rattle.std.proofs.Common.{◌≡◌, ℕ, ◌+◌, ◌-◌, ◌<◌, length, arith, Bool, true, false, cond, Option, Some, None, List, [], ◌∷◌, ◌++◌, get_or, take, drop, map, refl, sym, ap, ◌∙◌, subst, zero}
use Rattle.std.specs.Prelude.{◌&&◌, not, slice_get, IsSomeAnd}
use Rattle.std.proofs.lemmas.List.{length-map, map-append, drop-map, take_more}
use Rattle.ovl_names.specs.Names.{PathName}
use Rattle.std.specs.Option.{option_map}
use Rattle.std.proofs.lemmas.Option.{slice_get_read, get_or_from_slice_get, slice_get-map}
use Rattle.ovl_names.specs.Paths.{PathNames}
use Rattle.ovl_inode.specs.declared.inodes.Inode.{Inode}
use Rattle.ovl_inode.specs.declared.marks.Mark.{Mark}
use Rattle.ovl_inode.specs.Inodes.{visible}
use Rattle.ovl_inode.specs.Marks.{mark_of, is_whiteout, is_metacopy, is_regular, has_metacopy}
use Rattle.ovl_layer.specs.Layers.{Entries, entry_at, names_below}
use Rattle.ovl_layer.specs.Sheets.{path_at}
use Rattle.ovl_layer.specs.RowsBelow.{NamedRow, LiesBelow}
use Rattle.ovl_lookup.specs.declared.looks.Look.{Look}
use Rattle.ovl_lookup.specs.declared.looks.Look.TheVariants.{Nothing, Shown, Broken}
use Rattle.ovl_lookup.specs.declared.tops.Top.{Top}
use Rattle.ovl_lookup.specs.declared.views.DirPlace.{DirPlace}
use Rattle.ovl_lookup.specs.Stacks.{StackView}
use Rattle.ovl_lookup.specs.Trace.{things_found}
use Rattle.ovl_lookup.specs.Merged.{data_of, shown_of, is_nothing, without_blob}
use Rattle.ovl_lookup.specs.Passes.{data_below, shown_with}
use Rattle.ovl_lookup.specs.Views.{ReachedDirectory, entry_in, below_entry, found_below}
use Rattle.ovl_lookup.specs.ViewPasses.{First, AreTops, top_told, tops_told, look_from_top, looks_from_tops}
use Rattle.ovl_lookup.specs.DirViews.{place_in, places_in}
use Rattle.ovl_lookup.proofs.LawsOfInodes.{bare_file}
use Rattle.ovl_lookup.proofs.LawsOfFound.{data_of-metacopy, data_of-bad, data_below-metacopy, data_below-other, shown_of-full, any_found, shown-any}
use Rattle.ovl_lookup.proofs.WalkFacts.{take-rest}
use Rattle.ovl_lookup.proofs.ViewSteps.{found-whiteout, found-entry, looks-next}
use Rattle.ovl_lookup.specs.NamedLists.{names_of}
use Rattle.ovl_lookup.proofs.TopLemmas.{IsFirst, all-first, names_in, StandHere, stand-more}
use Rattle.ovl_lookup.proofs.DirViewLemmas.{entry-here}

-- ---- a file that lacks its contents

-- its data among what is found is that below metacopy files
pub lacking-data : (data_only : List Entries) (inode : Inode) (below : List Inode) → (is_regular inode && has_metacopy inode) ≡ true → data_of data_only (inode ∷ below) ≡ data_below data_only None (inode ∷ below)
lacking-data data_only inode below lacks = by (is_metacopy inode) refl
  where
    by : (b : Bool) → is_metacopy inode ≡ b → data_of data_only (inode ∷ below) ≡ data_below data_only None (inode ∷ below)
    by true meta = data_of-metacopy data_only inode below meta (bare_file inode lacks).0 (bare_file inode lacks).1 ∙ sym (data_below-metacopy data_only None inode below meta)
    by false meta = data_of-bad data_only inode below meta (bare_file inode lacks).0 (bare_file inode lacks).1 ∙ sym (data_below-other data_only None inode below meta (bare_file inode lacks).1)

abbrev by_data : Inode → Option Inode → Look
by_data inode found = elim found as (λ _. Look) [ Some contents ↦ Shown (record (visible inode) { kind = contents.kind }) | None ↦ Broken (record (visible inode) { kind = without_blob inode.kind }) ]

by-data : (inode : Inode) (found : Option Inode) → by_data inode found ≡ shown_with inode found
by-data inode None = refl
by-data inode (Some contents) = refl

-- what is shown of it, by its data
pub shown-lacking : (data_only : List Entries) (inode : Inode) (below : List Inode) → (is_regular inode && has_metacopy inode) ≡ true → shown_of data_only (inode ∷ below) ≡ shown_with inode (data_of data_only (inode ∷ below))
shown-lacking data_only inode below lacks = ap (λ b. cond b (by_data inode (data_of data_only (inode ∷ below))) (Shown (visible inode))) lacks ∙ by-data inode (data_of data_only (inode ∷ below))

-- ---- the places of a view from one on

pub slice-places : (stack : StackView) (places : List DirPlace) (i : ℕ) → places_in stack (take (length places - i) (drop i places)) ≡ drop i (places_in stack places)
slice-places stack places i = ap (places_in stack) (take-rest places i) ∙ sym (drop-map (λ own. place_in stack own) i places)

module _ (data_only layers : List Entries) (name : PathName) (places : List ReachedDirectory) (k : ℕ) (place : ReachedDirectory) (at : slice_get places k ≡ Some place) (inode : Inode) (mark : Mark) (here : entry_in layers name place ≡ Some inode) (marked : mark ≡ mark_of inode) where
  abbrev next_lookup : List Inode
  next_lookup = below_entry mark name (things_found (drop (place.layer + 1) layers)) (λ other. found_below layers other (drop (k + 1) places))

  abbrev left : List Inode
  left = found_below layers name (drop k places)

  found-here : is_whiteout inode ≡ false → left ≡ inode ∷ next_lookup
  found-here w = found-entry layers name places k place at inode mark here w (sym marked)

  -- what is shown at the name, where that is the first place that has it
  pub whiteout-shows : is_whiteout inode ≡ true → shown_of data_only left ≡ Nothing
  whiteout-shows w = ap (shown_of data_only) (found-whiteout layers name places k place at inode here w)

  pub full-shows : is_whiteout inode ≡ false → (is_regular inode && has_metacopy inode) ≡ false → shown_of data_only left ≡ Shown (visible inode)
  full-shows w full = ap (shown_of data_only) (found-here w) ∙ shown_of-full data_only inode next_lookup full

  pub entry-shows : is_whiteout inode ≡ false → not (is_nothing (shown_of data_only left)) ≡ true
  entry-shows w = shown-any data_only left ∙ ap any_found (found-here w)

-- the place that is first, which has something at a name
pub first-entry : (layers : List Entries) (name : PathName) (places : List ReachedDirectory) (inode : Inode) → IsSomeAnd (slice_get places zero) (λ place. entry_in layers name place ≡ Some inode) → (place : ReachedDirectory) × (slice_get places zero ≡ Some place) × (entry_in layers name place ≡ Some inode)
first-entry layers name [] inode is = absurd is
first-entry layers name (place ∷ rest) inode is = (place, refl, is)

-- ---- the names at which something is shown

pub names-next : (stack : StackView) (places : List ReachedDirectory) (tops : List (PathName × First)) (top : PathName × First) (shown : Bool) → shown ≡ not (is_nothing (look_from_top stack places top).1) → map (λ e. e.0) (looks_from_tops stack places (tops ++ top ∷ [])) ≡ map (λ e. e.0) (looks_from_tops stack places tops) ++ cond shown (top.0 ∷ []) []
names-next stack places tops top shown is =
    ap (map (λ e. e.0)) (looks-next stack places tops top)
    ∙ (map-append (λ e. e.0) (looks_from_tops stack places tops) (cond (not (is_nothing (look_from_top stack places top).1)) (look_from_top stack places top ∷ []) [])
    ∙ ap (λ names. map (λ e. e.0) (looks_from_tops stack places tops) ++ names) (by (not (is_nothing (look_from_top stack places top).1)) ∙ ap (λ b. cond b (top.0 ∷ []) []) (sym is)))
  where
    by : (b : Bool) → map (λ (e : PathName × Look). e.0) (cond b (look_from_top stack places top ∷ []) []) ≡ cond b (top.0 ∷ []) []
    by true = refl
    by false = refl

-- ---- the names of a place

pub names-here : (stack : StackView) (place : DirPlace) (layer : Entries) → slice_get stack.layers place.layer ≡ Some layer → names_in stack.layers (place_in stack place) ≡ names_below layer (path_at layer place.row)
names-here stack place layer at = λ j. elim (at j) as (λ _. List PathName) [ Some own ↦ names_below own (elim (at j) as (λ _. PathNames) [ Some entries ↦ path_at entries place.row | None ↦ [] ]) | None ↦ [] ]

-- a row directly below a place
module _ (stack : StackView) (place : DirPlace) (layer : Entries) (at : slice_get stack.layers place.layer ≡ Some layer) where
  -- its inode is at its name
  pub row-stands : (row : NamedRow) (inode : Inode) → LiesBelow layer (path_at layer place.row) row → entry_at layer (path_at layer row.0) ≡ Some inode → entry_in stack.layers row.1 (place_in stack place) ≡ Some inode
  row-stands row inode below stands = entry-here stack row.1 place layer at ∙ (ap (entry_at layer) (sym below.1) ∙ stands)

  pub row-told : (number : ℕ) (tops : List Top) (top : Top) → StandHere stack.layers number (place_in stack place) (tops_told tops) → top.place ≡ number → entry_in stack.layers top.name.now (place_in stack place) ≡ Some top.inode.now
      → StandHere stack.layers number (place_in stack place) (tops_told (tops ++ top ∷ []))
  row-told number tops top stand placed own =
      subst (StandHere stack.layers number (place_in stack place)) (sym (map-append top_told tops (top ∷ [])))
      (subst (λ n. StandHere stack.layers number (place_in stack place) (tops_told tops ++ (top.name.now, record { place = n; inode = top.inode.now }) ∷ [])) (sym placed)
      (stand-more stack.layers number (place_in stack place) (tops_told tops) top.name.now top.inode.now stand own))

pub row-named : (tops : List Top) (top : Top) → names_of (tops_told (tops ++ top ∷ [])) ≡ names_of (tops_told tops) ++ top.name.now ∷ []
row-named tops top = ap names_of (map-append top_told tops (top ∷ [])) ∙ map-append (λ t. t.0) (tops_told tops) (top_told top ∷ [])

-- ---- the pass over the names

not-cond : {X : Type 0} (b : Bool) (one other : X) → cond b one other ≡ cond (not b) other one
not-cond true one other = refl
not-cond false one other = refl

-- the names of a pass over the places of a view
pub tops-lent : (stack : StackView) (lent places : List DirPlace) (items tops : List Top) → lent ≡ places → items ≡ tops → AreTops stack.layers 0 (places_in stack lent) (tops_told tops) → AreTops stack.layers 0 (places_in stack places) (tops_told items)
tops-lent stack lent places items tops same is are =
    subst (λ (ts : List Top). AreTops stack.layers 0 (places_in stack places) (tops_told ts)) (sym is)
    (subst (λ (ps : List DirPlace). AreTops stack.layers 0 (places_in stack ps) (tops_told tops)) same are)

module _ (stack : StackView) (places : List DirPlace) (tops : List Top) (are : AreTops stack.layers 0 (places_in stack places) (tops_told tops)) (j : ℕ) (top : Top) (inside : j < length tops) (here : top ≡ get_or tops j top) where
  abbrev told : List (PathName × First)
  told = tops_told (take j tops)

  first : IsFirst stack.layers top.name.now (top_told top).1 0 (places_in stack places)
  first = subst (λ (t : PathName × First). IsFirst stack.layers t.0 t.1 0 (places_in stack places)) same (all-first stack.layers 0 (places_in stack places) (tops_told tops) are j (top_told top) (omega (arith, inside, length-map tops top_told)))
    where
      at : slice_get tops j ≡ Some top
      at = slice_get_read tops (length tops) j top refl inside here

      same : get_or (tops_told tops) j (top_told top) ≡ top_told top
      same = get_or_from_slice_get (tops_told tops) j (top_told top) (top_told top) (slice_get-map top_told tops j ∙ ap (option_map top_told) at)

  number : top.place ≡ first.past
  number = omega (arith, first.number)

  -- its number is that of a place
  pub top-inside : top.place < length places
  top-inside = omega (arith, number, first.inside, length-map places (λ own. place_in stack own))

  module _ (behind : List DirPlace) (rest : behind ≡ drop top.place places) where
    behind-is : places_in stack behind ≡ drop top.place (places_in stack places)
    behind-is = ap (places_in stack) rest ∙ sym (drop-map (λ own. place_in stack own) top.place places)

    -- which has its inode
    pub top-stands : IsSomeAnd (slice_get (places_in stack behind) zero) (λ place. entry_in stack.layers top.name.now place ≡ Some top.inode.now)
    top-stands = subst (λ (ps : List ReachedDirectory). IsSomeAnd (slice_get ps zero) (λ place. entry_in stack.layers top.name.now place ≡ Some top.inode.now)) (sym (behind-is ∙ ap (λ n. drop n (places_in stack places)) number)) first.here

  told-more : tops_told (take (j + 1) tops) ≡ told ++ top_told top ∷ []
  told-more = ap tops_told (take_more tops j top inside ∙ ap (λ (t : Top). take j tops ++ t ∷ []) (sym here)) ∙ map-append top_told (take j tops) (top ∷ [])

  abbrev shown : Look
  shown = shown_of stack.data_only (found_below stack.layers top.name.now (drop top.place (places_in stack places)))

  pub looks-more : (behind : List DirPlace) → behind ≡ drop top.place places → (look : Look) → look ≡ shown_of stack.data_only (found_below stack.layers top.name.now (places_in stack behind))
      → looks_from_tops stack (places_in stack places) told ++ cond (is_nothing look) [] ((top.name.now, look) ∷ []) ≡ looks_from_tops stack (places_in stack places) (tops_told (take (j + 1) tops))
  looks-more behind rest look is =
      let same : look ≡ shown = is ∙ ap (λ (ps : List ReachedDirectory). shown_of stack.data_only (found_below stack.layers top.name.now ps)) (behind-is behind rest) in
      ap (λ (last : List (PathName × Look)). looks_from_tops stack (places_in stack places) told ++ last) (ap (λ (l : Look). cond (is_nothing l) [] ((top.name.now, l) ∷ [])) same ∙ not-cond (is_nothing shown) [] ((top.name.now, shown) ∷ []))
      ∙ sym (ap (looks_from_tops stack (places_in stack places)) told-more ∙ looks-next stack (places_in stack places) told (top_told top))

  -- something is shown where the inode is no whiteout
  is-shown : (b : Bool) → is_whiteout top.inode.now ≡ b → not b ≡ not (is_nothing shown)
  is-shown b e = by b e (first-entry stack.layers top.name.now (drop top.place (places_in stack places)) top.inode.now stands)
    where
      stands : IsSomeAnd (slice_get (drop top.place (places_in stack places)) zero) (λ place. entry_in stack.layers top.name.now place ≡ Some top.inode.now)
      stands = subst (λ (ps : List ReachedDirectory). IsSomeAnd (slice_get ps zero) (λ place. entry_in stack.layers top.name.now place ≡ Some top.inode.now)) (behind-is (drop top.place places) refl) (top-stands (drop top.place places) refl)

      by : (b : Bool) → is_whiteout top.inode.now ≡ b → (place : ReachedDirectory) × (slice_get (drop top.place (places_in stack places)) zero ≡ Some place) × (entry_in stack.layers top.name.now place ≡ Some top.inode.now) → not b ≡ not (is_nothing shown)
      by true w own = sym (ap (λ (look : Look). not (is_nothing look)) (whiteout-shows stack.data_only stack.layers top.name.now (drop top.place (places_in stack places)) zero own.0 own.1 top.inode.now (mark_of top.inode.now) own.2 refl w))
      by false w own = sym (entry-shows stack.data_only stack.layers top.name.now (drop top.place (places_in stack places)) zero own.0 own.1 top.inode.now (mark_of top.inode.now) own.2 refl w)

  pub names-more : (b : Bool) → b ≡ is_whiteout top.inode.now → map (λ e. e.0) (looks_from_tops stack (places_in stack places) (tops_told (take (j + 1) tops))) ≡ map (λ e. e.0) (looks_from_tops stack (places_in stack places) told) ++ cond (not b) (top.name.now ∷ []) []
  names-more b e = ap (λ (ts : List (PathName × First)). map (λ e. e.0) (looks_from_tops stack (places_in stack places) ts)) told-more ∙ names-next stack (places_in stack places) told (top_told top) (not b) (is-shown b (sym e))
