-- Views of directories over a stack, place by place.
use Rattle.std.proofs.Common.{◌≡◌, ℕ, ◌+◌, ◌<◌, length, arith, Bool, true, false, cond, Option, Some, None, get_or, List, [], ◌∷◌, ◌++◌, drop, refl, sym, ap, ◌∙◌, subst, append_assoc}
use Rattle.std.specs.Prelude.{unwrap_or, slice_get, IsSomeAnd}
use Rattle.std.specs.Option.{option_map}
use Rattle.std.proofs.lemmas.Option.{slice_get-map, slice_get-get_or, slice_get_within}
use Rattle.std.proofs.lemmas.List.{append-nil, map_push}
use Rattle.std.proofs.lemmas.List.Elements.{All-push}
use Rattle.std.specs.List.{All}
use Rattle.ovl_names.specs.Names.{PathName}
use Rattle.ovl_names.specs.Paths.{PathNames, child_path}
use Rattle.ovl_inode.specs.declared.inodes.Inode.{Inode}
use Rattle.ovl_inode.specs.Marks.{mark_of, is_directory}
use Rattle.ovl_inode.specs.declared.marks.Mark.{Mark}
use Rattle.ovl_inode.specs.declared.marks.Mark.TheVariants.{Whiteout, DirOpaque, DirMoved, DirBad, DirPlain, Meta, MetaBad, Leaf}
use Rattle.ovl_inode.specs.declared.marks.Redirect.TheVariants.{To, Beside}
use Rattle.ovl_layer.specs.Layers.{Entries, IsLayer, entry_at}
use Rattle.ovl_layer.specs.Sheets.{path_at}
use Rattle.ovl_lookup.specs.declared.steps.Step.{Step}
use Rattle.ovl_lookup.specs.declared.views.DirPlace.{DirPlace}
use Rattle.ovl_lookup.specs.declared.views.PlaceEntry.{PlaceEntry}
use Rattle.ovl_lookup.specs.Walk.{turn, is_shut, mark_at}
use Rattle.ovl_lookup.specs.Passes.{IsArrivalAt}
use Rattle.ovl_lookup.specs.Stacks.{StackView}
use Rattle.ovl_lookup.specs.Views.{ReachedDirectory, reached, is_reached, entry_in, entered, below_entry, reached_below}
use Rattle.ovl_lookup.specs.NextLookups.{path_on, name_on}
use Rattle.ovl_lookup.specs.DirViews.{IsEntryIn, place_below, place_in, places_in, IsPlaceOver}
use Rattle.ovl_lookup.proofs.ViewLemmas.{views-go_on}
use Rattle.ovl_lookup.proofs.ViewSteps.{arrives-directory, arrives-past, below-directory}
use Rattle.ovl_lookup.proofs.LawsOfWalks.{is_shut-entered, mark_at-child, turn-entered, walk-whole}

same_some : {X : Type 0} (one other : X) → Some one ≡ Some other → one ≡ other
same_some one other e = ap (λ o. unwrap_or o one) e

-- what is at a name in a place, by the place's layer
pub entry-here : (stack : StackView) (name : PathName) (place : DirPlace) (layer : Entries) → slice_get stack.layers place.layer ≡ Some layer → entry_in stack.layers name (place_in stack place) ≡ entry_at layer (child_path (path_at layer place.row) name)
entry-here stack name place layer at = λ j. elim (at j) as (λ _. Option Inode) [ Some own ↦ entry_at own (child_path (elim (at j) as (λ _. PathNames) [ Some entries ↦ path_at entries place.row | None ↦ [] ]) name) | None ↦ None ]

-- ---- places that were added

-- the place that a layer has, by its row
abbrev pub places_of : ℕ → Option ℕ → List DirPlace
places_of layer None = []
places_of layer (Some row) = (record { layer = layer; row = row }) ∷ []

-- a place, by what there is of its layer
abbrev placed_by : DirPlace → Option Entries → ReachedDirectory
placed_by place layer = record {
  layer = place.layer;
  path = elim layer as (λ _. PathNames) [ Some entries ↦ path_at entries place.row | None ↦ [] ];
  next = elim layer as (λ _. PathNames) [ Some entries ↦ turn entries (path_at entries place.row) | None ↦ [] ];
  closed = elim layer as (λ _. Bool) [ Some entries ↦ is_shut entries (path_at entries place.row) | None ↦ false ];
}

module _ (stack : StackView) where
  pub places-push : (places : List DirPlace) (own : DirPlace) → places_in stack (places ++ own ∷ []) ≡ places_in stack places ++ place_in stack own ∷ []
  places-push places own = map_push (place_in stack) places own

  -- one more place, and then the rest
  pub pushed : (old so_far new : List DirPlace) (own : DirPlace) (rest more : List ReachedDirectory) → new ≡ so_far ++ own ∷ [] → places_in stack so_far ++ place_in stack own ∷ rest ≡ places_in stack old ++ more → places_in stack new ++ rest ≡ places_in stack old ++ more
  pushed old so_far new own rest more is same =
      ap (λ (ps : List DirPlace). places_in stack ps ++ rest) is
      ∙ (ap (λ (ps : List ReachedDirectory). ps ++ rest) (places-push so_far own)
      ∙ (append_assoc (places_in stack so_far) (place_in stack own ∷ []) rest ∙ same))

  -- a row of a layer is a place
  pub row-over : (place : DirPlace) (layer : Entries) → slice_get stack.layers place.layer ≡ Some layer → place.row < length layer → IsPlaceOver stack place
  row-over place layer at inside = subst (λ (o : Option Entries). IsSomeAnd o (λ own. place.row < length own)) (sym at) inside

  place-is : (place : DirPlace) (layer : Entries) (path : PathNames) → slice_get stack.layers place.layer ≡ Some layer → path_at layer place.row ≡ path → place_in stack place ≡ record { layer = place.layer; path = path; next = turn layer path; closed = is_shut layer path }
  place-is place layer path at is =
      ap (placed_by place) at
      ∙ (λ j. record { layer = place.layer; path = is j; next = turn layer (is j); closed = is_shut layer (is j) })

  -- a layer that has the directory, or doesn't, and then the layers below it
  directory-step : (i : ℕ) (layer : Entries) (path : PathNames) (row : ℕ) (next : PathNames) (closed : Bool) → slice_get stack.layers i ≡ Some layer → IsArrivalAt layer path (Some row) next closed
      → (old so_far new : List DirPlace) (more : List ReachedDirectory) → new ≡ so_far ++ (record { layer = i; row = row }) ∷ [] → places_in stack so_far ++ reached (drop i stack.layers) i path ≡ places_in stack old ++ more
      → places_in stack new ++ cond closed [] (reached (drop (i + 1) stack.layers) (i + 1) next) ≡ places_in stack old ++ more
  directory-step i layer path row next closed at arrival old so_far new more is same =
      let own : DirPlace = record { layer = i; row = row } in
      let rest : List ReachedDirectory = cond closed [] (reached (drop (i + 1) stack.layers) (i + 1) next) in
      let step = walk-whole layer path arrival.directory in
      let turned : turn layer path ≡ next = sym (arrival.next ∙ ap (λ (s : Step). s.next) step) in
      let shut : is_shut layer path ≡ closed = sym (arrival.closed ∙ ap (λ (s : Step). s.closed) step) in
      pushed old so_far new own rest more is
      ((λ j. places_in stack so_far ++ place-is own layer path at arrival.here j ∷ rest)
      ∙ ((λ j. places_in stack so_far ++ (record { layer = i; path = path; next = turned j; closed = shut j }) ∷ rest)
      ∙ (ap (λ (ps : List ReachedDirectory). places_in stack so_far ++ ps) (sym (arrives-directory stack.layers i layer at path next closed arrival.directory arrival.next arrival.closed))
      ∙ same)))

  past-step : (i : ℕ) (layer : Entries) (path : PathNames) (next : PathNames) (closed : Bool) → slice_get stack.layers i ≡ Some layer → IsArrivalAt layer path None next closed
      → (old so_far : List DirPlace) (more : List ReachedDirectory) → places_in stack so_far ++ reached (drop i stack.layers) i path ≡ places_in stack old ++ more
      → places_in stack so_far ++ cond closed [] (reached (drop (i + 1) stack.layers) (i + 1) next) ≡ places_in stack old ++ more
  past-step i layer path next closed at arrival old so_far more same =
      ap (λ (ps : List ReachedDirectory). places_in stack so_far ++ ps) (sym (arrives-past stack.layers i layer at path next closed arrival)) ∙ same

  over-push : (old so_far new : List DirPlace) (own : DirPlace) (layer : Entries) → slice_get stack.layers own.layer ≡ Some layer → own.row < length layer → new ≡ so_far ++ own ∷ [] → (All (IsPlaceOver stack) old → All (IsPlaceOver stack) so_far) → All (IsPlaceOver stack) old → All (IsPlaceOver stack) new
  over-push old so_far new own layer at inside is over all =
      subst (λ (ps : List DirPlace). All (IsPlaceOver stack) ps) (sym is) (All-push (IsPlaceOver stack) so_far own (over all) (row-over own layer at inside))

  -- the walk of a layer has arrived: its place is added where it has the directory, and the layers below go on where it isn't closed
  pub arrival-step : (i : ℕ) (layer : Entries) (path : PathNames) (row : Option ℕ) (next : PathNames) (closed shut : Bool) → slice_get stack.layers i ≡ Some layer → IsArrivalAt layer path row next closed → closed ≡ shut → (old so_far new : List DirPlace) (more : List ReachedDirectory)
      → new ≡ so_far ++ places_of i row → (All (IsPlaceOver stack) old → All (IsPlaceOver stack) so_far) → places_in stack so_far ++ reached (drop i stack.layers) i path ≡ places_in stack old ++ more
      → (places_in stack new ++ cond shut [] (reached (drop (i + 1) stack.layers) (i + 1) next) ≡ places_in stack old ++ more) × (All (IsPlaceOver stack) old → All (IsPlaceOver stack) new)
  arrival-step i layer path row next closed shut at arrival is_shut old so_far new more is over same =
      let rest : List ReachedDirectory = reached (drop (i + 1) stack.layers) (i + 1) next in
      let step = by row arrival is in
      (ap (λ b. places_in stack new ++ cond b [] rest) (sym is_shut) ∙ step.0, step.1)
    where
      by : (o : Option ℕ) → IsArrivalAt layer path o next closed → new ≡ so_far ++ places_of i o
          → (places_in stack new ++ cond closed [] (reached (drop (i + 1) stack.layers) (i + 1) next) ≡ places_in stack old ++ more) × (All (IsPlaceOver stack) old → All (IsPlaceOver stack) new)
      by (Some own) here pushed = (
        directory-step i layer path own next closed at here old so_far new more pushed same,
        over-push old so_far new (record { layer = i; row = own }) layer at here.inside pushed over,
      )
      by None here kept =
          let e : new ≡ so_far = kept ∙ append-nil so_far in (
            subst (λ (ps : List DirPlace). places_in stack ps ++ cond closed [] (reached (drop (i + 1) stack.layers) (i + 1) next) ≡ places_in stack old ++ more) (sym e) (past-step i layer path next closed at here old so_far more same),
            λ all. subst (λ (ps : List DirPlace). All (IsPlaceOver stack) ps) (sym e) (over all),
          )

-- ---- what goes on below an entry

module _ {X : Type 0} (name : PathName) (from_root : PathNames → List X) (beside : PathName → List X) where
  pub on-path : (mark : Mark) (origin : PathNames) → path_on mark ≡ Some origin → below_entry mark name from_root beside ≡ from_root origin
  on-path (DirMoved (To own)) origin e = ap from_root (same_some own origin e)
  on-path (Meta (Some (To own))) origin e = ap from_root (same_some own origin e)
  on-path (DirMoved (Beside own)) origin e = let bad : None ≡ Some origin = e in cc
  on-path (Meta (Some (Beside own))) origin e = let bad : None ≡ Some origin = e in cc
  on-path (Meta None) origin e = let bad : None ≡ Some origin = e in cc
  on-path Whiteout origin e = let bad : None ≡ Some origin = e in cc
  on-path DirOpaque origin e = let bad : None ≡ Some origin = e in cc
  on-path DirBad origin e = let bad : None ≡ Some origin = e in cc
  on-path DirPlain origin e = let bad : None ≡ Some origin = e in cc
  on-path MetaBad origin e = let bad : None ≡ Some origin = e in cc
  on-path Leaf origin e = let bad : None ≡ Some origin = e in cc

  pub on-name : (mark : Mark) (own : PathName) → name_on mark name ≡ Some own → below_entry mark name from_root beside ≡ beside own
  on-name DirPlain own e = ap beside (same_some name own e)
  on-name (DirMoved (Beside other)) own e = ap beside (same_some other own e)
  on-name (Meta None) own e = ap beside (same_some name own e)
  on-name (Meta (Some (Beside other))) own e = ap beside (same_some other own e)
  on-name (DirMoved (To origin)) own e = let bad : None ≡ Some own = e in cc
  on-name (Meta (Some (To origin))) own e = let bad : None ≡ Some own = e in cc
  on-name Whiteout own e = let bad : None ≡ Some own = e in cc
  on-name DirOpaque own e = let bad : None ≡ Some own = e in cc
  on-name DirBad own e = let bad : None ≡ Some own = e in cc
  on-name MetaBad own e = let bad : None ≡ Some own = e in cc
  on-name Leaf own e = let bad : None ≡ Some own = e in cc

  pub on-none : (mark : Mark) → path_on mark ≡ None → name_on mark name ≡ None → below_entry mark name from_root beside ≡ []
  on-none Whiteout p n = refl
  on-none DirOpaque p n = refl
  on-none DirBad p n = refl
  on-none MetaBad p n = refl
  on-none Leaf p n = refl
  on-none DirPlain p n = let bad : Some name ≡ None = n in cc
  on-none (Meta None) p n = let bad : Some name ≡ None = n in cc
  on-none (DirMoved (Beside own)) p n = let bad : Some own ≡ None = n in cc
  on-none (Meta (Some (Beside own))) p n = let bad : Some own ≡ None = n in cc
  on-none (DirMoved (To origin)) p n = let bad : Some origin ≡ None = p in cc
  on-none (Meta (Some (To origin))) p n = let bad : Some origin ≡ None = p in cc

-- ---- the places below an entry of a place

-- the place of a number as a slice of them is read
abbrev pub place_read : List DirPlace → ℕ → DirPlace
place_read places k = get_or places k (record { layer = 0; row = 0 })

pub place-read : (stack : StackView) (places : List DirPlace) (k : ℕ) → k < length places → slice_get (places_in stack places) k ≡ Some (place_in stack (place_read places k))
place-read stack places k inside =
    slice_get-map (place_in stack) places k ∙ ap (option_map (place_in stack)) (slice_get-get_or places k (record { layer = 0; row = 0 }) inside)

module _ (stack : StackView) (name : PathName) (places : List DirPlace) (k : ℕ) (inside : k < length places) where
  abbrev own : DirPlace
  own = place_read places k

  abbrev left : ℕ → List ReachedDirectory
  left n = drop n (places_in stack places)

  -- the directory of the name there
  entered-there : (entry : PlaceEntry) → IsEntryIn stack name own entry → place_in stack (place_below own entry) ≡ entered name entry.mark.now (place_in stack own)
  entered-there entry is = by (slice_get stack.layers own.layer) is.row is.inode
    where
      by : (o : Option Entries) → IsSomeAnd o (λ layer. (entry.row < length layer) × (path_at layer entry.row ≡ child_path (path_at layer own.row) name))
          → elim o as (λ _. Option Inode) [ Some layer ↦ entry_at layer (child_path (placed_by own o).path name) | None ↦ None ] ≡ Some entry.inode.now
          → placed_by (place_below own entry) o ≡ entered name entry.mark.now (placed_by own o)
      by None row here = absurd row
      by (Some layer) row here =
          let path : PathNames = path_at layer own.row in
          let marked : mark_at layer (child_path path name) ≡ Some entry.mark.now = mark_at-child layer path name entry.mark.now (ap (option_map mark_of) here ∙ ap (λ (m : Mark). Some m) (sym is.mark)) in
          (λ j. record { layer = own.layer; path = row.1 j; next = turn layer (row.1 j); closed = is_shut layer (row.1 j) })
          ∙ (λ j. record { layer = own.layer; path = child_path path name; next = turn-entered layer path name entry.mark.now marked j; closed = is_shut-entered layer path name entry.mark.now marked j })

  over-there : (entry : PlaceEntry) → IsEntryIn stack name own entry → IsPlaceOver stack (place_below own entry)
  over-there entry is = by (slice_get stack.layers own.layer) is.row
    where
      by : (o : Option Entries) → IsSomeAnd o (λ layer. (entry.row < length layer) × (path_at layer entry.row ≡ child_path (path_at layer own.row) name)) → IsSomeAnd o (λ layer. entry.row < length layer)
      by None row = absurd row
      by (Some layer) row = row.0

  over-below : (entry : PlaceEntry) → IsEntryIn stack name own entry → (old so_far new : List DirPlace) → new ≡ so_far ++ place_below own entry ∷ [] → (All (IsPlaceOver stack) old → All (IsPlaceOver stack) so_far) → All (IsPlaceOver stack) old → All (IsPlaceOver stack) new
  over-below entry is old so_far new pushes over all =
      subst (λ (ps : List DirPlace). All (IsPlaceOver stack) ps) (sym pushes) (All-push (IsPlaceOver stack) so_far (place_below own entry) (over all) (over-there entry is))

  below-step : (entry : PlaceEntry) → IsEntryIn stack name own entry → is_directory entry.inode.now ≡ true
      → (old so_far new : List DirPlace) (rest more : List ReachedDirectory) → new ≡ so_far ++ place_below own entry ∷ []
      → below_entry entry.mark.now name (reached (drop (own.layer + 1) stack.layers) (own.layer + 1)) (λ other. reached_below stack.layers other (left (k + 1))) ≡ rest
      → places_in stack so_far ++ reached_below stack.layers name (left k) ≡ places_in stack old ++ more
      → places_in stack new ++ rest ≡ places_in stack old ++ more
  below-step entry is holds old so_far new rest more pushes next_lookup same =
      pushed stack old so_far new (place_below own entry) rest more pushes
      ((λ j. places_in stack so_far ++ entered-there entry is j ∷ sym next_lookup j)
      ∙ (ap (λ (ps : List ReachedDirectory). places_in stack so_far ++ ps) (sym (below-directory stack.layers name (places_in stack places) k (place_in stack own) (place-read stack places k inside) entry.inode.now entry.mark.now is.inode holds (sym is.mark)))
      ∙ same))

  -- the place that was pushed is over the stack, and what its mark leads to comes after it
  pub below-pushed : (entry : PlaceEntry) → IsEntryIn stack name own entry → is_directory entry.inode.now ≡ true → (old so_far new : List DirPlace) (more : List ReachedDirectory) → new ≡ so_far ++ place_below own entry ∷ []
      → (All (IsPlaceOver stack) old → All (IsPlaceOver stack) so_far) → places_in stack so_far ++ reached_below stack.layers name (left k) ≡ places_in stack old ++ more
      → ((rest : List ReachedDirectory) → below_entry entry.mark.now name (reached (drop (own.layer + 1) stack.layers) (own.layer + 1)) (λ other. reached_below stack.layers other (left (k + 1))) ≡ rest → places_in stack new ++ rest ≡ places_in stack old ++ more)
      × (All (IsPlaceOver stack) old → All (IsPlaceOver stack) new)
  below-pushed entry is holds old so_far new more pushes over same = (
    λ rest next_lookup. below-step entry is holds old so_far new rest more pushes next_lookup same,
    over-below entry is old so_far new pushes over,
  )

-- the layer of a place is one of the stack
layer-inside : (stack : StackView) (place : DirPlace) → IsPlaceOver stack place → place.layer < length stack.layers
layer-inside stack place over = by (slice_get stack.layers place.layer) refl over
  where
    by : (o : Option Entries) → slice_get stack.layers place.layer ≡ o → IsSomeAnd o (λ layer. place.row < length layer) → place.layer < length stack.layers
    by None e over = absurd over
    by (Some layer) e over = slice_get_within stack.layers place.layer layer e

over-read : (stack : StackView) (places : List DirPlace) (k : ℕ) → All (IsPlaceOver stack) places → k < length places → IsPlaceOver stack (place_read places k)
over-read stack places k all inside = all k (record { layer = 0; row = 0 }) inside

pub layer-read : (stack : StackView) (places : List DirPlace) (k : ℕ) → All (IsPlaceOver stack) places → k < length places → (place_read places k).layer < length stack.layers
layer-read stack places k all inside = layer-inside stack (place_read places k) (over-read stack places k all inside)

-- the places below those of a view, by a name, are where walks come to with it
pub child-places : (stack : StackView) (from : ℕ) (path : PathNames) (name : PathName) (none places items : List DirPlace) → All IsLayer stack.layers → none ≡ [] → places_in stack places ≡ reached (drop from stack.layers) from path
    → places_in stack items ≡ places_in stack none ++ reached_below stack.layers name (places_in stack places) → places_in stack items ≡ reached (drop from stack.layers) from (child_path path name)
child-places stack from path name none places items each empty below adds =
    adds ∙ ((λ j. places_in stack (empty j) ++ reached_below stack.layers name (below j)) ∙ sym (views-go_on stack each from path name))

-- a view has a place exactly if a directory is shown
pub no-places : (stack : StackView) (places : List DirPlace) (more : List ReachedDirectory) → places_in stack places ≡ more → length places ≡ 0 → is_reached more ≡ false
no-places stack [] more same none = ap is_reached (sym same)
no-places stack (place ∷ places) more same none = absurd (omega (arith, none))

pub some-places : (stack : StackView) (places : List DirPlace) (more : List ReachedDirectory) → places_in stack places ≡ more → 0 < length places → is_reached more ≡ true
some-places stack [] more same some = absurd (omega (arith, some))
some-places stack (place ∷ places) more same some = ap is_reached (sym same)
