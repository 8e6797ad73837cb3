-- Views of directories: how they go on with one more name, and what they show.
use Rattle.std.proofs.Common.{◌≡◌, ℕ, zero, suc, Bool, true, false, cond, Option, Some, None, is_some, List, [], ◌∷◌, drop, refl, sym, ap, ◌∙◌, inl, inr, ◌⊎◌}
use Rattle.std.specs.Prelude.{◌||◌, ◌&&◌, slice_get}
use Rattle.std.specs.List.{cons_option, All}
use Rattle.ovl_names.specs.Names.{PathName}
use Rattle.ovl_names.specs.Paths.{PathNames, child_path}
use Rattle.ovl_inode.specs.declared.inodes.Inode.{Inode}
use Rattle.ovl_inode.specs.declared.marks.Mark.{Mark}
use Rattle.ovl_inode.specs.declared.marks.Mark.TheVariants.{Whiteout, DirOpaque, DirMoved, DirBad, DirPlain, Meta, MetaBad, Leaf}
use Rattle.ovl_inode.specs.declared.marks.Redirect.TheVariants.{To, Beside}
use Rattle.ovl_inode.specs.Marks.{mark_of, is_directory, is_whiteout, has_metacopy}
use Rattle.ovl_layer.specs.Layers.{Entries, IsLayer, entry_at, is_directory_at}
use Rattle.ovl_lookup.specs.declared.steps.Step.{Step}
use Rattle.ovl_lookup.specs.Walk.{walk, nothing_found}
use Rattle.ovl_lookup.specs.Trace.{things_found}
use Rattle.ovl_lookup.specs.Merged.{shown_of, is_shown_directory}
use Rattle.ovl_lookup.specs.Laws.{ViewsGoOn, ViewsFind, ViewsShow}
use Rattle.ovl_lookup.specs.NextLookups.{next_on, closed_on}
use Rattle.ovl_lookup.specs.Passes.{IsPast, entered_path, entered_closed}
use Rattle.ovl_lookup.specs.Views.{ReachedDirectory, reached, is_reached, entry_in, entered, below_entry, reached_below, found_below}
use Rattle.ovl_lookup.proofs.LawsOfPaths.{all-first, all-rest}
use Rattle.ovl_lookup.proofs.LawsOfInodes.{directory-kind, directory-marked}
use Rattle.ovl_lookup.proofs.LawsOfWalks.{Beyond, directory-entry, directory_found, entered-on, hides-alike, marked-whiteout, nothing-below, past-beyond, walk-child, walk-child_directory, walk-child_end, walk-end, walk-finds, walk-whole}
use Rattle.ovl_lookup.proofs.LawsOfFound.{shown_of-full, things_found-step}
use Rattle.ovl_lookup.proofs.LawsOfLooks.{file-shown, found-by, found_by}

-- ---- the first of the layers from a number on

pub layer-here : {X : Type 0} (all : List X) (i : ℕ) (x : X) (xs : List X) → x ∷ xs ≡ drop i all → (slice_get all i ≡ Some x) × (xs ≡ drop (suc i) all)
layer-here [] zero x xs e = let bad : x ∷ xs ≡ [] = e in cc
layer-here [] (suc i) x xs e = let bad : x ∷ xs ≡ [] = e in cc
layer-here (y ∷ all) zero x xs e = let same : x ≡ y = cc in (ap Some (sym same), ap (drop 1) e)
layer-here (y ∷ all) (suc i) x xs e = layer-here all i x xs e

-- ---- below an entry, by its mark: `f` goes on in the layers below, `h` in the view

module _ {X : Type 0} (f : PathNames → List X) (h : PathName → List ReachedDirectory → List X) (r : PathNames → List ReachedDirectory) (none : (name : PathName) → h name [] ≡ []) (later : (path : PathNames) (name : PathName) → f (child_path path name) ≡ h name (r path)) where
  goes-on : (shut : Bool) (next : PathNames) (name : PathName) → cond shut [] (f (child_path next name)) ≡ h name (cond shut [] (r next))
  goes-on true next name = sym (none name)
  goes-on false next name = later next name

  mark-on : (mark : Mark) (shut : Bool) (next : PathNames) (name : PathName) → cond (closed_on mark name shut) [] (f (next_on mark next name)) ≡ below_entry mark name f (λ other. h other (cond shut [] (r next)))
  mark-on DirPlain shut next name = goes-on shut next name
  mark-on (DirMoved (Beside other)) shut next name = goes-on shut next other
  mark-on (DirMoved (To origin)) shut next name = refl
  mark-on (Meta None) shut next name = goes-on shut next name
  mark-on (Meta (Some (Beside other))) shut next name = goes-on shut next other
  mark-on (Meta (Some (To origin))) shut next name = refl
  mark-on Whiteout shut next name = refl
  mark-on DirOpaque shut next name = refl
  mark-on DirBad shut next name = refl
  mark-on MetaBad shut next name = refl
  mark-on Leaf shut next name = refl

-- ---- a view, and what is found, layer by layer

-- a view from a layer on, by what is at the path there and how its walk goes on
abbrev pub reached_by : List Entries → ℕ → PathNames → Option Inode → Step → List ReachedDirectory
reached_by layers i path entry step =
    cond (directory_found entry) (record { layer = i; path = path; next = step.next; closed = step.closed } ∷ cond step.closed [] (reached layers (suc i) step.next))
    (cond (is_some entry || step.closed) [] (reached layers (suc i) step.next))

pub reached-by : (layer : Entries) (layers : List Entries) (i : ℕ) (path : PathNames) (entry : Option Inode) (step : Step) → entry_at layer path ≡ entry → walk layer path ≡ step → reached (layer ∷ layers) i path ≡ reached_by layers i path entry step
reached-by layer layers i path entry step here walked = λ j. reached_by layers i path (here j) (walked j)

-- past a path at which a layer has no directory it goes on in the layers below, unless they are hidden there
pub reached-past : (layer : Entries) (layers : List Entries) (i : ℕ) (path next : PathNames) (hidden : Bool) → IsPast layer path next hidden → reached (layer ∷ layers) i path ≡ cond hidden [] (reached layers (suc i) next)
reached-past layer layers i path next hidden past =
    (λ j. cond (past.none j) (record { layer = i; path = path; next = step.next; closed = step.closed } ∷ cond step.closed [] (reached layers (suc i) step.next)) (cond (sym past.ended j) [] (reached layers (suc i) step.next)))
    ∙ by hidden past.next
  where
    step : Step
    step = walk layer path

    by : (b : Bool) → (b ≡ false → next ≡ step.next) → cond b [] (reached layers (suc i) step.next) ≡ cond b [] (reached layers (suc i) next)
    by true on = refl
    by false on = ap (reached layers (suc i)) (sym (on refl))

-- a view with one more name, and what is found, by what is at the name in the first place
abbrev pub reached_below_by : List Entries → PathName → ReachedDirectory → List ReachedDirectory → Option Inode → List ReachedDirectory
reached_below_by all name place rest found =
    elim found as (λ _. List ReachedDirectory) [
      | Some inode ↦ cond (is_directory inode) (entered name (mark_of inode) place ∷ below_entry (mark_of inode) name (reached (drop (suc place.layer) all) (suc place.layer)) (λ other. reached_below all other rest)) []
      | None ↦ reached_below all name rest
    ]

abbrev pub found_below_by : List Entries → PathName → ReachedDirectory → List ReachedDirectory → Option Inode → List Inode
found_below_by all name place rest found =
    elim found as (λ _. List Inode) [
      | Some inode ↦ cond (is_whiteout inode) [] (inode ∷ below_entry (mark_of inode) name (things_found (drop (suc place.layer) all)) (λ other. found_below all other rest))
      | None ↦ found_below all name rest
    ]

-- the layers of a stack from `layer`, of number `i`, on
module _ (all : List Entries) (layer : Entries) (layers : List Entries) (i : ℕ) (path : PathNames) (name : PathName) (is : IsLayer layer) (here : slice_get all i ≡ Some layer) (rest : layers ≡ drop (suc i) all) where
  abbrev place : ReachedDirectory
  place = record { layer = i; path = path; next = (walk layer path).next; closed = (walk layer path).closed }

  abbrev rest_of : List ReachedDirectory
  rest_of = cond (walk layer path).closed [] (reached layers (suc i) (walk layer path).next)

  entry-in : entry_in all name place ≡ entry_at layer (child_path path name)
  entry-in = ap (λ (o : Option Entries). elim o as (λ _. Option Inode) [ Some own ↦ entry_at own (child_path path name) | None ↦ None ]) here

  abbrev step-at : Inode → Bool → Mark → Step
  step-at inode white mark = record { found = cond white None (Some inode); next = next_on mark (walk layer path).next name; closed = closed_on mark name (walk layer path).closed }

  pub reached-here : is_directory_at layer path ≡ true → reached (layer ∷ layers) i path ≡ place ∷ rest_of
  reached-here holds = ap (λ b. cond b (place ∷ rest_of) (cond (is_some (entry_at layer path) || (walk layer path).closed) [] (reached layers (suc i) (walk layer path).next))) holds

  view-here : (found : Option Inode) → is_directory_at layer path ≡ true → entry_at layer (child_path path name) ≡ found → reached_below all name (reached (layer ∷ layers) i path) ≡ reached_below_by all name place rest_of found
  view-here found holds e = ap (reached_below all name) (reached-here holds) ∙ ap (reached_below_by all name place rest_of) (entry-in ∙ e)

  found-here : (found : Option Inode) → is_directory_at layer path ≡ true → entry_at layer (child_path path name) ≡ found → found_below all name (reached (layer ∷ layers) i path) ≡ found_below_by all name place rest_of found
  found-here found holds e = ap (found_below all name) (reached-here holds) ∙ ap (found_below_by all name place rest_of) (entry-in ∙ e)

  -- ---- the view with one more name
  module _ (later : (p : PathNames) (n : PathName) → reached layers (suc i) (child_path p n) ≡ reached_below all n (reached layers (suc i) p)) where
    view-none : is_directory_at layer path ≡ true → entry_at layer (child_path path name) ≡ None → reached (layer ∷ layers) i (child_path path name) ≡ reached_below all name (reached (layer ∷ layers) i path)
    view-none holds e =
        reached-by layer layers i (child_path path name) None (nothing_found (child_path (walk layer path).next name) (walk layer path).closed) e (walk-child_end layer path name is None holds e refl [])
        ∙ (goes-on (reached layers (suc i)) (reached_below all) (reached layers (suc i)) (λ n. refl) later (walk layer path).closed (walk layer path).next name
        ∙ sym (view-here None holds e))

    view-entry : is_directory_at layer path ≡ true → (inode : Inode) → entry_at layer (child_path path name) ≡ Some inode → (d : Bool) → is_directory inode ≡ d → reached (layer ∷ layers) i (child_path path name) ≡ reached_below all name (reached (layer ∷ layers) i path)
    view-entry holds inode e true d =
        let on = entered-on (walk layer path).next name (mark_of inode) (directory-marked inode d) (walk layer path).closed in
        let step : Step = record { found = Some inode; next = entered_path (mark_of inode) (walk layer path).next name; closed = entered_closed (mark_of inode) (walk layer path).closed } in
        reached-by layer layers i (child_path path name) (Some inode) step e (walk-child_directory layer path name is inode e d)
        ∙ (ap (λ b. cond b (entered name (mark_of inode) place ∷ cond step.closed [] (reached layers (suc i) step.next)) []) d
        ∙ (ap (λ views. entered name (mark_of inode) place ∷ views)
        ((λ j. cond (on.1 j) [] (reached layers (suc i) (on.0 j)))
        ∙ mark-on (reached layers (suc i)) (reached_below all) (reached layers (suc i)) (λ n. refl) later (mark_of inode) (walk layer path).closed (walk layer path).next name
        ∙ ap (λ (more : List Entries). below_entry (mark_of inode) name (reached more (suc i)) (λ other. reached_below all other rest_of)) rest)
        ∙ sym (view-here (Some inode) holds e
        ∙ ap (λ b. cond b (entered name (mark_of inode) place ∷ below_entry (mark_of inode) name (reached (drop (suc i) all) (suc i)) (λ other. reached_below all other rest_of)) []) d)))
    view-entry holds inode e false d =
        reached-by layer layers i (child_path path name) (Some inode) (walk layer (child_path path name)) e refl
        ∙ (ap (λ b. cond b (record { layer = i; path = child_path path name; next = (walk layer (child_path path name)).next; closed = (walk layer (child_path path name)).closed } ∷ cond (walk layer (child_path path name)).closed [] (reached layers (suc i) (walk layer (child_path path name)).next)) []) d
        ∙ sym (view-here (Some inode) holds e
        ∙ ap (λ b. cond b (entered name (mark_of inode) place ∷ below_entry (mark_of inode) name (reached (drop (suc i) all) (suc i)) (λ other. reached_below all other rest_of)) []) d))

    view-past : (next_lookup : PathNames) (hidden : Bool) → IsPast layer path next_lookup hidden → reached (layer ∷ layers) i (child_path path name) ≡ reached_below all name (reached (layer ∷ layers) i path)
    view-past next_lookup hidden past =
        reached-by layer layers i (child_path path name) None (nothing_found (child_path next_lookup name) hidden) (nothing-below layer path name [] is past.none) (past.below name [])
        ∙ (goes-on (reached layers (suc i)) (reached_below all) (reached layers (suc i)) (λ n. refl) later hidden next_lookup name
        ∙ ap (reached_below all name) (sym (reached-past layer layers i path next_lookup hidden past)))

  -- ---- what is found with one more name
  module _ (later : (p : PathNames) (n : PathName) → things_found layers (child_path p n) ≡ found_below all n (reached layers (suc i) p)) where
    found-on : (shut : Bool) (next : PathNames) → cond shut [] (things_found layers (child_path next name)) ≡ found_below all name (cond shut [] (reached layers (suc i) next))
    found-on shut next = goes-on (things_found layers) (found_below all) (reached layers (suc i)) (λ n. refl) later shut next name

    found-none : is_directory_at layer path ≡ true → entry_at layer (child_path path name) ≡ None → things_found (layer ∷ layers) (child_path path name) ≡ found_below all name (reached (layer ∷ layers) i path)
    found-none holds e =
        found-by layer layers (child_path path name) (nothing_found (child_path (walk layer path).next name) (walk layer path).closed) (walk-child_end layer path name is None holds e refl [])
        ∙ (found-on (walk layer path).closed (walk layer path).next
        ∙ sym (found-here None holds e))

    -- the first thing found is this inode, and then what the layers below have
    found-inode : is_directory_at layer path ≡ true → (inode : Inode) → entry_at layer (child_path path name) ≡ Some inode → is_whiteout inode ≡ false → things_found (layer ∷ layers) (child_path path name) ≡ inode ∷ below_entry (mark_of inode) name (things_found layers) (λ other. found_below all other rest_of) → things_found (layer ∷ layers) (child_path path name) ≡ found_below all name (reached (layer ∷ layers) i path)
    found-inode holds inode e w found =
        found
        ∙ (ap (λ (more : List Entries). inode ∷ below_entry (mark_of inode) name (things_found more) (λ other. found_below all other rest_of)) rest
        ∙ sym (found-here (Some inode) holds e
        ∙ ap (λ b. cond b [] (inode ∷ below_entry (mark_of inode) name (things_found (drop (suc i) all)) (λ other. found_below all other rest_of))) w))

    found-entry : is_directory_at layer path ≡ true → (inode : Inode) → entry_at layer (child_path path name) ≡ Some inode → (w : Bool) → is_whiteout inode ≡ w → things_found (layer ∷ layers) (child_path path name) ≡ found_below all name (reached (layer ∷ layers) i path)
    found-entry holds inode e true w =
        found-by layer layers (child_path path name) (step-at inode (is_whiteout inode) (mark_of inode)) (walk-child layer path name is inode e)
        ∙ ((λ j. found_by (step-at inode (w j) (marked-whiteout inode w j)) layers)
        ∙ sym (found-here (Some inode) holds e
        ∙ ap (λ b. cond b [] (inode ∷ below_entry (mark_of inode) name (things_found (drop (suc i) all)) (λ other. found_below all other rest_of))) w))
    found-entry holds inode e false w =
        found-inode holds inode e w
        (found-by layer layers (child_path path name) (step-at inode (is_whiteout inode) (mark_of inode)) (walk-child layer path name is inode e)
        ∙ (ap (λ b. found_by (step-at inode b (mark_of inode)) layers) w
        ∙ ap (λ found. inode ∷ found) (mark-on (things_found layers) (found_below all) (reached layers (suc i)) (λ n. refl) later (mark_of inode) (walk layer path).closed (walk layer path).next name)))

    found-past : (next_lookup : PathNames) (hidden : Bool) → IsPast layer path next_lookup hidden → things_found (layer ∷ layers) (child_path path name) ≡ found_below all name (reached (layer ∷ layers) i path)
    found-past next_lookup hidden past =
        found-by layer layers (child_path path name) (nothing_found (child_path next_lookup name) hidden) (past.below name [])
        ∙ (found-on hidden next_lookup ∙ ap (found_below all name) (sym (reached-past layer layers i path next_lookup hidden past)))

pub reached-child : (all ls : List Entries) (i : ℕ) (path : PathNames) (name : PathName) → ls ≡ drop i all → All IsLayer ls → reached ls i (child_path path name) ≡ reached_below all name (reached ls i path)
reached-child all [] i path name whole each = refl
reached-child all (layer ∷ layers) i path name whole each = by (λ p n. reached-child all layers (suc i) p n (layer-here all i layer layers whole).1 (all-rest IsLayer layer layers each)) (walk-end layer path is)
  where
    is : IsLayer layer
    is = all-first IsLayer layer layers each

    by : ((p : PathNames) (n : PathName) → reached layers (suc i) (child_path p n) ≡ reached_below all n (reached layers (suc i) p)) → (is_directory_at layer path ≡ true) ⊎ Beyond layer path → reached (layer ∷ layers) i (child_path path name) ≡ reached_below all name (reached (layer ∷ layers) i path)
    by later (inl holds) = inside (entry_at layer (child_path path name)) refl
      where
        inside : (found : Option Inode) → entry_at layer (child_path path name) ≡ found → reached (layer ∷ layers) i (child_path path name) ≡ reached_below all name (reached (layer ∷ layers) i path)
        inside None e = view-none all layer layers i path name is (layer-here all i layer layers whole).0 (layer-here all i layer layers whole).1 later holds e
        inside (Some inode) e = view-entry all layer layers i path name is (layer-here all i layer layers whole).0 (layer-here all i layer layers whole).1 later holds inode e (is_directory inode) refl
    by later (inr b) =
        let past = past-beyond layer path is b in
        view-past all layer layers i path name is (layer-here all i layer layers whole).0 (layer-here all i layer layers whole).1 later past.0 past.1 past.2

pub found-child : (all ls : List Entries) (i : ℕ) (path : PathNames) (name : PathName) → ls ≡ drop i all → All IsLayer ls → things_found ls (child_path path name) ≡ found_below all name (reached ls i path)
found-child all [] i path name whole each = refl
found-child all (layer ∷ layers) i path name whole each = by (λ p n. found-child all layers (suc i) p n (layer-here all i layer layers whole).1 (all-rest IsLayer layer layers each)) (walk-end layer path is)
  where
    is : IsLayer layer
    is = all-first IsLayer layer layers each

    by : ((p : PathNames) (n : PathName) → things_found layers (child_path p n) ≡ found_below all n (reached layers (suc i) p)) → (is_directory_at layer path ≡ true) ⊎ Beyond layer path → things_found (layer ∷ layers) (child_path path name) ≡ found_below all name (reached (layer ∷ layers) i path)
    by later (inl holds) = inside (entry_at layer (child_path path name)) refl
      where
        inside : (found : Option Inode) → entry_at layer (child_path path name) ≡ found → things_found (layer ∷ layers) (child_path path name) ≡ found_below all name (reached (layer ∷ layers) i path)
        inside None e = found-none all layer layers i path name is (layer-here all i layer layers whole).0 (layer-here all i layer layers whole).1 later holds e
        inside (Some inode) e = found-entry all layer layers i path name is (layer-here all i layer layers whole).0 (layer-here all i layer layers whole).1 later holds inode e (is_whiteout inode) refl
    by later (inr b) =
        let past = past-beyond layer path is b in
        found-past all layer layers i path name is (layer-here all i layer layers whole).0 (layer-here all i layer layers whole).1 later past.0 past.1 past.2

-- ---- a directory is shown exactly if some layer has one

first-shown : (data_only : List Entries) (inode : Inode) (below : List Inode) → is_shown_directory (shown_of data_only (inode ∷ below)) ≡ is_directory inode
first-shown data_only inode below = by (is_directory inode) refl
  where
    by : (d : Bool) → is_directory inode ≡ d → is_shown_directory (shown_of data_only (inode ∷ below)) ≡ is_directory inode
    by true d = ap is_shown_directory (shown_of-full data_only inode below (ap (λ b. b && has_metacopy inode) (directory-kind inode.kind d)))
    by false d = file-shown data_only inode below d ∙ sym d

pub directory-reached : (data_only ls : List Entries) (i : ℕ) (path : PathNames) → All IsLayer ls → is_shown_directory (shown_of data_only (things_found ls path)) ≡ is_reached (reached ls i path)
directory-reached data_only [] i path each = refl
directory-reached data_only (layer ∷ layers) i path each = by (λ p. directory-reached data_only layers (suc i) p (all-rest IsLayer layer layers each)) (walk-end layer path is)
  where
    is : IsLayer layer
    is = all-first IsLayer layer layers each

    next : PathNames
    next = (walk layer path).next

    first : (inode : Inode) → (walk layer path).found ≡ Some inode → is_shown_directory (shown_of data_only (things_found (layer ∷ layers) path)) ≡ is_directory inode
    first inode finds =
        ap (λ found. is_shown_directory (shown_of data_only found))
        (things_found-step layer layers path ∙ ap (λ (o : Option Inode). cons_option o (cond (walk layer path).closed [] (things_found layers (walk layer path).next))) finds)
        ∙ first-shown data_only inode (cond (walk layer path).closed [] (things_found layers (walk layer path).next))

    by : ((p : PathNames) → is_shown_directory (shown_of data_only (things_found layers p)) ≡ is_reached (reached layers (suc i) p)) → (is_directory_at layer path ≡ true) ⊎ Beyond layer path → is_shown_directory (shown_of data_only (things_found (layer ∷ layers) path)) ≡ is_reached (reached (layer ∷ layers) i path)
    by later (inl holds) =
        let entry = directory-entry layer path holds in
        first entry.0 (ap (λ (s : Step). s.found) (walk-whole layer path holds) ∙ entry.1)
        ∙ (ap directory_found (sym entry.1) ∙ (holds
        ∙ sym (ap is_reached (reached-by layer layers i path (Some entry.0) (walk layer path) entry.1 refl ∙ ap (λ b. cond b (record { layer = i; path = path; next = (walk layer path).next; closed = (walk layer path).closed } ∷ cond (walk layer path).closed [] (reached layers (suc i) (walk layer path).next)) []) (ap directory_found (sym entry.1) ∙ holds)))))
    by later (inr b) = let past = past-beyond layer path is b in ending past.0 past.1 past.2
      where
        ending : (next_lookup : PathNames) (hidden : Bool) → IsPast layer path next_lookup hidden → is_shown_directory (shown_of data_only (things_found (layer ∷ layers) path)) ≡ is_reached (reached (layer ∷ layers) i path)
        ending next_lookup hidden past = found (walk layer path).found refl ∙ ap is_reached (sym (reached-past layer layers i path next_lookup hidden past))
          where
            goes : (closed : Bool) → (closed ≡ false → next_lookup ≡ next) → is_shown_directory (shown_of data_only (cond closed [] (things_found layers next))) ≡ is_reached (cond closed [] (reached layers (suc i) next_lookup))
            goes true on = refl
            goes false on = later next ∙ ap (λ (p : PathNames). is_reached (reached layers (suc i) p)) (sym (on refl))

            found : (o : Option Inode) → (walk layer path).found ≡ o → is_shown_directory (shown_of data_only (things_found (layer ∷ layers) path)) ≡ is_reached (cond hidden [] (reached layers (suc i) next_lookup))
            found (Some inode) finds =
                let here = (walk-finds layer path inode is finds).0 in
                first inode finds
                ∙ (ap directory_found (sym here) ∙ past.none
                ∙ ap (λ (b : Bool). is_reached (cond b [] (reached layers (suc i) next_lookup))) (sym (past.ended ∙ ap (λ (o : Option Inode). is_some o || (walk layer path).closed) here)))
            found None finds =
                let shut : (walk layer path).closed ≡ hidden = sym (past.ended ∙ (hides-alike layer path is ∙ ap (λ (o : Option Inode). is_some o || (walk layer path).closed) finds)) in
                ap (λ things. is_shown_directory (shown_of data_only things))
                (things_found-step layer layers path ∙ (λ j. cons_option (finds j) (cond (shut j) [] (things_found layers next))))
                ∙ goes hidden past.next

-- ---- the laws

drop-each : (layers : List Entries) (i : ℕ) → All IsLayer layers → All IsLayer (drop i layers)
drop-each layers zero each = each
drop-each [] (suc i) each = each
drop-each (layer ∷ layers) (suc i) each = drop-each layers i (all-rest IsLayer layer layers each)

pub views-go_on : ViewsGoOn
views-go_on stack each from path name = reached-child stack.layers (drop from stack.layers) from path name refl (drop-each stack.layers from each)

pub views-find : ViewsFind
views-find stack each from path name = found-child stack.layers (drop from stack.layers) from path name refl (drop-each stack.layers from each)

pub views-show : ViewsShow
views-show stack each from path = directory-reached stack.data_only (drop from stack.layers) from path (drop-each stack.layers from each)
