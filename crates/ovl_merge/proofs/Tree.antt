-- A merge keeps the merged tree, from its core.
use Rattle.std.proofs.Common.{◌≡◌, ℕ, Bool, true, false, cond, Option, Some, None, is_some, List, [], ◌∷◌, refl, sym, ap, ◌∙◌, inl, inr, ◌⊎◌}
use Rattle.std.specs.Prelude.{not, ◌&&◌}
use Rattle.std.specs.Option.{option_map}
use Rattle.std.specs.List.{cons_option, list_all, All}
use Rattle.ovl_names.specs.Paths.{PathNames, path_text}
use Rattle.ovl_names.proofs.Ascending.{both}
use Rattle.ovl_inode.specs.declared.inodes.Inode.{Inode}
use Rattle.ovl_inode.specs.declared.marks.Mark.{Mark}
use Rattle.ovl_inode.specs.Attributes.{Attributes, attribute, redirect_name, metacopy_name}
use Rattle.ovl_inode.specs.Marks.{mark_of, is_directory, is_regular, is_metacopy, is_metacopy_mark, has_metacopy, is_data}
use Rattle.ovl_inode.specs.Inodes.{visible}
use Rattle.ovl_layer.specs.Layers.{Entries, IsLayer, entry_at}
use Rattle.ovl_lookup.specs.declared.looks.Look.TheVariants.{Shown, Broken}
use Rattle.ovl_lookup.specs.declared.steps.Step.{Step}
use Rattle.ovl_lookup.specs.Walk.{walk}
use Rattle.ovl_lookup.specs.Trace.{things_found, hits_of}
use Rattle.ovl_lookup.specs.Merged.{look, shows_directory, shown_of, data_of, last_of, last_place, place_of_data, data_at_place, without_blob}
use Rattle.ovl_lookup.specs.Sound.{IsSoundStack}
use Rattle.ovl_lookup.specs.Passes.{data_below}
use Rattle.ovl_lookup.proofs.LawsOfWalks.{walk-whole, directory_found}
use Rattle.ovl_lookup.proofs.LawsOfInodes.{directory-kind, metacopy-file, bare_file, attribute-hidden, visible-twice}
use Rattle.ovl_lookup.proofs.LawsOfFound.{things_found-step, data_of-metacopy, data_below-metacopy, shown_of-full, shown_of-contents, shown_of-broken, any_found, shown-any}
use Rattle.ovl_lookup.proofs.LawsOfPaths.{all-first, all-rest}
use Rattle.ovl_lookup.specs.Words.{over}
use Rattle.ovl_merge.specs.Places.{Merge, whole, lower_path, rest_path, is_open, first_hit, is_nothing_or, is_shown_regular, goes_on, reach, reach_of, last_name}
use Rattle.ovl_merge.specs.MergeDown.{with_value, redirected, with_contents, merged_metacopy, unreached_metacopy, kept_place, merged_inode, merged_entry_of, IsMergedDown}
use Rattle.ovl_merge.specs.Laws.{after_merge, MergeKeepsTree, MergedLayerKeepsTree}
use Rattle.ovl_merge.proofs.Values.{visible-value, visible-visible, with_metacopy}
use Rattle.ovl_merge.proofs.Firsts.{found-whole, passes-found, whole-first, rest_of, hit-from}
use Rattle.ovl_merge.proofs.Inodes.{merged-is_directory, merged-visible, merged-metacopy, merged-other, redirected-cases}
use Rattle.ovl_merge.proofs.Core.{Core, kept-facts, merge-core, GoesOn, FindsNothing, GoesOnAlike, open-finds}
use Rattle.ovl_merge.proofs.SoundHits.{sound-hit, HasData}

and_false : (b : Bool) → (b && false) ≡ false
and_false true = refl
and_false false = refl

-- an inode without `metacopy` has its contents itself
full : (inode : Inode) → attribute inode.attrs metacopy_name ≡ None → (is_regular inode && has_metacopy inode) ≡ false
full inode none = ap (λ o. is_regular inode && is_some o) none ∙ and_false (is_regular inode)

-- a metacopy file is shown by its attributes, its kind and the data below it
same-shown : (data_only : List Entries) (one other : Inode) (ones others : List Inode) → is_metacopy one ≡ true → is_metacopy other ≡ true → visible one ≡ visible other → one.kind ≡ other.kind → data_of data_only (one ∷ ones) ≡ data_of data_only (other ∷ others) → shown_of data_only (one ∷ ones) ≡ shown_of data_only (other ∷ others)
same-shown data_only one other ones others meta meta' same kind contained = by (data_of data_only (other ∷ others)) refl
  where
    by : (o : Option Inode) → data_of data_only (other ∷ others) ≡ o → shown_of data_only (one ∷ ones) ≡ shown_of data_only (other ∷ others)
    by (Some contents) e =
        shown_of-contents data_only one contents ones (metacopy-file one meta).1 (contained ∙ e)
        ∙ (ap (λ (i : Inode). Shown (record i { kind = contents.kind })) same
        ∙ sym (shown_of-contents data_only other contents others (metacopy-file other meta').1 e))
    by None e =
        shown_of-broken data_only one ones (metacopy-file one meta).1 (contained ∙ e)
        ∙ ((λ j. Broken (record (same j) { kind = without_blob (kind j) }))
        ∙ sym (shown_of-broken data_only other others (metacopy-file other meta').1 e))

-- the data of a metacopy file, by what is found below it
file-data : (data_only : List Entries) (inode : Inode) (below : List Inode) → is_metacopy inode ≡ true → data_of data_only (inode ∷ below) ≡ data_below data_only (place_of_data (mark_of inode)) below
file-data data_only inode below meta = data_of-metacopy data_only inode below meta (metacopy-file inode meta).0 (bare_file inode (metacopy-file inode meta).1).1

-- where something is found below, the last metacopy file above says nothing
found-data : (data_only : List Entries) (one other : Option PathNames) (found : List Inode) → is_shown_regular (shown_of data_only found) ≡ true → data_below data_only one found ≡ data_below data_only other found
found-data data_only one other [] shown = let bad : false ≡ true = shown in cc
found-data data_only one other (inode ∷ below) shown = refl

module _ (m : Merge) (new : Entries) (each : All IsLayer (whole m).layers) (sound : IsSoundStack (whole m)) (layered : IsLayer new) (is : IsMergedDown m new) where
  upper : IsLayer m.upper
  upper = all-first IsLayer m.upper (m.lower ∷ m.rest.layers) each

  lower : IsLayer m.lower
  lower = all-first IsLayer m.lower m.rest.layers (all-rest IsLayer m.upper (m.lower ∷ m.rest.layers) each)

  core : (path : PathNames) → Core m new path
  core = merge-core m new each layered is

  -- what the new layer and the rest find, by what the new layer finds
  new-found : (path : PathNames) (inode : Inode) → (walk new path).found ≡ Some inode → things_found (new ∷ m.rest.layers) path ≡ inode ∷ cond (walk new path).closed [] (things_found m.rest.layers (walk new path).next)
  new-found path inode found = things_found-step new m.rest.layers path ∙ ap (λ (o : Option Inode). cons_option o (cond (walk new path).closed [] (things_found m.rest.layers (walk new path).next))) found

  at_nothing : (path : PathNames) → FindsNothing m new path ⊎ GoesOnAlike m new path → shown_of m.rest.data_only (things_found (new ∷ m.rest.layers) path) ≡ shown_of m.rest.data_only (things_found (whole m).layers path)
  at_nothing path (inl (old, fresh)) = ap (shown_of m.rest.data_only) (fresh ∙ sym old)
  at_nothing path (inr alike) =
      ap (shown_of m.rest.data_only)
      (open-finds new m.rest.layers path alike.found alike.opened
      ∙ (ap (things_found m.rest.layers) alike.next ∙ sym (passes-found m path alike.old)))

  directory_full : (inode : Inode) → is_directory inode ≡ true → (is_regular inode && has_metacopy inode) ≡ false
  directory_full inode is_dir = ap (λ b. b && has_metacopy inode) (directory-kind inode.kind is_dir)

  at_directory : (path : PathNames) (inode : Inode) → first_hit m path ≡ Some inode → is_directory inode ≡ true → shown_of m.rest.data_only (things_found (new ∷ m.rest.layers) path) ≡ shown_of m.rest.data_only (things_found (whole m).layers path)
  at_directory path inode hit dir =
      let x : Inode = merged_inode m path inode in
      let here : entry_at new path ≡ Some x = is path ∙ ap (merged_entry_of m path) hit in
      let made : is_directory x ≡ true = merged-is_directory m path inode dir in
      let found : (walk new path).found ≡ Some x = ap (λ (s : Step). s.found) (walk-whole new path (ap directory_found here ∙ made)) ∙ here in
      ap (shown_of m.rest.data_only) (new-found path x found)
      ∙ (shown_of-full m.rest.data_only x (cond (walk new path).closed [] (things_found m.rest.layers (walk new path).next)) (directory_full x made)
      ∙ (ap (λ (i : Inode). Shown i) (merged-visible m path inode dir)
      ∙ (sym (shown_of-full m.rest.data_only inode (rest_of (things_found (whole m).layers path)) (directory_full inode dir))
      ∙ ap (shown_of m.rest.data_only) (sym (whole-first m path inode hit)))))

  -- a file that isn't written as a metacopy file
  at_full : (path : PathNames) (inode : Inode) → (walk new path).found ≡ Some inode → attribute inode.attrs metacopy_name ≡ None → visible inode ≡ inode → shown_of m.rest.data_only (things_found (new ∷ m.rest.layers) path) ≡ Shown inode
  at_full path inode found none seen =
      ap (shown_of m.rest.data_only) (new-found path inode found)
      ∙ (shown_of-full m.rest.data_only inode (cond (walk new path).closed [] (things_found m.rest.layers (walk new path).next)) (full inode none)
      ∙ ap (λ (i : Inode). Shown i) seen)

  module _ (path : PathNames) (inode : Inode) (hit : first_hit m path ≡ Some inode) (none : is_directory inode ≡ false) where
    has : HasData m.rest.data_only inode (things_found (whole m).layers path)
    has = sound-hit m upper lower sound path inode hit none

    found : (walk new path).found ≡ Some (merged_inode m path inode)
    found = (core path).file inode hit none

    at_other : is_metacopy inode ≡ false → shown_of m.rest.data_only (things_found (new ∷ m.rest.layers) path) ≡ shown_of m.rest.data_only (things_found (whole m).layers path)
    at_other other =
        at_full path (visible inode) (found ∙ ap (λ (i : Inode). Some i) (merged-other m path inode none other)) (attribute-hidden inode.attrs metacopy_name refl) (visible-visible inode)
        ∙ (sym (shown_of-full m.rest.data_only inode (rest_of (things_found (whole m).layers path)) (has.1 other))
        ∙ ap (shown_of m.rest.data_only) (sym (whole-first m path inode hit)))

    -- a metacopy file without a reach becomes a file with its data, unless data-only layers have that
    at_filled : is_metacopy inode ≡ true → reach m path ≡ None → kept_place m path ≡ None → shown_of m.rest.data_only (things_found (new ∷ m.rest.layers) path) ≡ shown_of m.rest.data_only (things_found (whole m).layers path)
    at_filled meta e none-kept =
        let below : List Inode = rest_of (things_found (whole m).layers path) in
        let contents = has.0 meta in
        let shown : look (whole m) path ≡ Shown (record (visible inode) { kind = contents.0.kind }) =
        ap (shown_of m.rest.data_only) (whole-first m path inode hit)
        ∙ shown_of-contents m.rest.data_only inode contents.0 below (metacopy-file inode meta).1 (ap (data_of m.rest.data_only) (sym (whole-first m path inode hit)) ∙ contents.1) in
        let written : merged_inode m path inode ≡ record (visible inode) { kind = contents.0.kind } =
        merged-metacopy m path inode none meta ∙ (ap (merged_metacopy m path inode) e ∙ (ap (unreached_metacopy m path inode) none-kept ∙ ap (with_contents (visible inode)) shown)) in
        at_full path (record (visible inode) { kind = contents.0.kind }) (found ∙ ap (λ (i : Inode). Some i) written) (attribute-hidden inode.attrs metacopy_name refl)
        (ap (λ (a : Attributes). record inode { kind = contents.0.kind; attrs = a }) (visible-twice inode.attrs))
        ∙ sym shown

    -- then it stays one, and has the same data there
    at_kept : is_metacopy inode ≡ true → reach m path ≡ None → (place : PathNames) → kept_place m path ≡ Some place → shown_of m.rest.data_only (things_found (new ∷ m.rest.layers) path) ≡ shown_of m.rest.data_only (things_found (whole m).layers path)
    at_kept meta e place k =
        let below : List Inode = rest_of (things_found (whole m).layers path) in
        let x : Inode = merged_inode m path inode in
        let on = (core path).kept inode hit meta e place k in
        let facts = kept-facts m path place k in
        let made : is_metacopy x ≡ true = ap is_metacopy_mark on.1 in
        let written : x ≡ with_value (with_metacopy inode) redirect_name (path_text place) =
        merged-metacopy m path inode none meta ∙ (ap (merged_metacopy m path inode) e ∙ ap (unreached_metacopy m path inode) k) in
        let seen : visible x ≡ visible inode =
        ap visible written ∙ (visible-value (with_metacopy inode) redirect_name (path_text place) refl ∙ (visible-value (visible inode) metacopy_name [] refl ∙ visible-visible inode)) in
        let kind : x.kind ≡ inode.kind = ap (λ (i : Inode). i.kind) written in
        let empty : things_found m.rest.layers place ≡ [] = none-found (things_found m.rest.layers place) (sym (shown-any m.rest.data_only (things_found m.rest.layers place)) ∙ facts.2) in
        let new_all : things_found (new ∷ m.rest.layers) path ≡ x ∷ [] =
        new-found path x found ∙ (λ j. x ∷ cond (on.0.0 j) [] (things_found m.rest.layers (on.0.1 j))) ∙ ap (λ (xs : List Inode). x ∷ xs) empty in
        let new_data : data_of m.rest.data_only (x ∷ []) ≡ data_at_place m.rest.data_only (Some place) =
        file-data m.rest.data_only x [] made ∙ ap (λ (mark : Mark). data_at_place m.rest.data_only (place_of_data mark)) on.1 in
        let old_data : data_of m.rest.data_only (inode ∷ below) ≡ data_at_place m.rest.data_only (Some place) =
        ap (data_of m.rest.data_only) (sym (whole-first m path inode hit)) ∙ alone (things_found (whole m).layers path) place facts.0 facts.1 in
        ap (shown_of m.rest.data_only) new_all
        ∙ (same-shown m.rest.data_only x inode [] below made meta seen kind (new_data ∙ sym old_data)
        ∙ ap (shown_of m.rest.data_only) (sym (whole-first m path inode hit)))
      where
        none-found : (xs : List Inode) → any_found xs ≡ false → xs ≡ []
        none-found [] e = refl
        none-found (x ∷ xs) e = let bad : true ≡ false = e in cc

        alone : (xs : List Inode) (place : PathNames) → list_all is_metacopy xs ≡ true → last_place xs ≡ Some place → data_of m.rest.data_only xs ≡ data_at_place m.rest.data_only (Some place)
        alone xs place all last =
            ap (λ b. cond b (data_at_place m.rest.data_only (last_place xs)) (elim (last_of (hits_of xs)) as (λ _. Option Inode) [ Some i ↦ cond (is_data i) (Some i) None | None ↦ None ])) all
            ∙ ap (data_at_place m.rest.data_only) last

    -- one with a reach stays one, and finds the same data in the rest
    module _ (meta : is_metacopy inode ≡ true) (place : PathNames) (e : reach m path ≡ Some place) where
      written : merged_inode m path inode ≡ redirected m path (with_metacopy inode) place
      written = merged-metacopy m path inode none meta ∙ ap (merged_metacopy m path inode) e

      on : GoesOn (walk new path) (Some place)
      on = ((core path).copy inode hit meta place e).0

      new_all : things_found (new ∷ m.rest.layers) path ≡ merged_inode m path inode ∷ things_found m.rest.layers place
      new_all = new-found path (merged_inode m path inode) found ∙ (λ j. merged_inode m path inode ∷ cond (on.0 j) [] (things_found m.rest.layers (on.1 j)))

      goes : goes_on m path inode ≡ true
      goes = by (goes_on m path inode) refl (sym (ap (reach_of m path) hit) ∙ e)
        where
          by : (b : Bool) → goes_on m path inode ≡ b → cond b (Some (rest_path m path)) None ≡ Some place → b ≡ true
          by true k r = refl
          by false k r = let bad : None ≡ Some place = r in cc

      at_place : place ≡ rest_path m path
      at_place = by (goes_on m path inode) (sym (ap (reach_of m path) hit) ∙ e)
        where
          by : (b : Bool) → cond b (Some (rest_path m path)) None ≡ Some place → place ≡ rest_path m path
          by true r = let same : rest_path m path ≡ place = cc in sym same
          by false r = let bad : None ≡ Some place = r in cc

      opened : is_open m path ≡ true
      opened = (both {a = is_open m path} goes).0

      not_closed : (b : Bool) → not b ≡ true → b ≡ false
      not_closed true k = let bad : false ≡ true = k in cc
      not_closed false k = refl

      upper_open : (walk m.upper path).closed ≡ false
      upper_open = not_closed (walk m.upper path).closed (both {a = not (walk m.upper path).closed} {b = not (walk m.lower (lower_path m path)).closed} opened).0

      lower_open : (walk m.lower (lower_path m path)).closed ≡ false
      lower_open = not_closed (walk m.lower (lower_path m path)).closed (both {a = not (walk m.upper path).closed} {b = not (walk m.lower (lower_path m path)).closed} opened).1

      -- what the lower layer has on the way is a metacopy file too
      passed : is_nothing_or is_metacopy (walk m.lower (lower_path m path)).found ≡ true
      passed =
          let sort : (is_metacopy inode && is_nothing_or is_metacopy (walk m.lower (lower_path m path)).found && is_shown_regular (look m.rest (rest_path m path))) ≡ true =
          sym (ap (λ b. cond b (is_nothing_or is_directory (walk m.lower (lower_path m path)).found && shows_directory m.rest (rest_path m path)) (is_metacopy inode && is_nothing_or is_metacopy (walk m.lower (lower_path m path)).found && is_shown_regular (look m.rest (rest_path m path)))) none)
          ∙ (both {a = is_open m path} {b = cond (is_directory inode) (is_nothing_or is_directory (walk m.lower (lower_path m path)).found && shows_directory m.rest (rest_path m path)) (is_metacopy inode && is_nothing_or is_metacopy (walk m.lower (lower_path m path)).found && is_shown_regular (look m.rest (rest_path m path)))} goes).1 in
          (both {a = is_metacopy inode} {b = is_nothing_or is_metacopy (walk m.lower (lower_path m path)).found} (both {a = is_metacopy inode && is_nothing_or is_metacopy (walk m.lower (lower_path m path)).found} {b = is_shown_regular (look m.rest (rest_path m path))} sort).0).1

      through : (o : Option Inode) (xs : List Inode) (at : Option PathNames) → is_nothing_or is_metacopy o ≡ true → (next : Option PathNames) × (data_below m.rest.data_only at (cons_option o xs) ≡ data_below m.rest.data_only next xs)
      through None xs at k = (at, refl)
      through (Some other) xs at k = (place_of_data (mark_of other), data_below-metacopy m.rest.data_only at other xs k)

      at_rest : things_found m.rest.layers (rest_path m path) ≡ things_found m.rest.layers place
      at_rest = ap (things_found m.rest.layers) (sym at_place)

      at_copied : shown_of m.rest.data_only (things_found (new ∷ m.rest.layers) path) ≡ shown_of m.rest.data_only (things_found (whole m).layers path)
      at_copied = by (hit-from m path inode upper lower hit)
        where
          made : is_metacopy (merged_inode m path inode) ≡ true
          made = ((core path).copy inode hit meta place e).1

          hidden : (value : List ℕ) → visible (with_value (with_metacopy inode) redirect_name value) ≡ visible inode
          hidden value = visible-value (with_metacopy inode) redirect_name value refl ∙ (visible-value (visible inode) metacopy_name [] refl ∙ visible-visible inode)

          seen : visible (merged_inode m path inode) ≡ visible inode
          seen =
              ap visible written
              ∙ redirected-cases (λ i. visible i ≡ visible inode) (with_metacopy inode) place
              (visible-value (visible inode) metacopy_name [] refl ∙ visible-visible inode)
              (hidden (last_name place)) (hidden (path_text place)) m path

          kind : (merged_inode m path inode).kind ≡ inode.kind
          kind = ap (λ (i : Inode). i.kind) written ∙ redirected-cases (λ i. i.kind ≡ inode.kind) (with_metacopy inode) place refl refl refl m path

          -- the rest shows a regular file at the place
          regular_there : is_shown_regular (shown_of m.rest.data_only (things_found m.rest.layers place)) ≡ true
          regular_there =
              let sort = both {a = is_open m path} {b = cond (is_directory inode) (is_nothing_or is_directory (walk m.lower (lower_path m path)).found && shows_directory m.rest (rest_path m path)) (is_metacopy inode && is_nothing_or is_metacopy (walk m.lower (lower_path m path)).found && is_shown_regular (look m.rest (rest_path m path)))} goes in
              ap (λ (p : PathNames). is_shown_regular (look m.rest p)) at_place
              ∙ (both {a = is_metacopy inode && is_nothing_or is_metacopy (walk m.lower (lower_path m path)).found} {b = is_shown_regular (look m.rest (rest_path m path))}
              (sym (ap (λ b. cond b (is_nothing_or is_directory (walk m.lower (lower_path m path)).found && shows_directory m.rest (rest_path m path)) (is_metacopy inode && is_nothing_or is_metacopy (walk m.lower (lower_path m path)).found && is_shown_regular (look m.rest (rest_path m path)))) none) ∙ sort.1)).1

          from : (xs : List Inode) → things_found (whole m).layers path ≡ inode ∷ xs → (next : Option PathNames) × (data_below m.rest.data_only (place_of_data (mark_of inode)) xs ≡ data_below m.rest.data_only next (things_found m.rest.layers place)) → shown_of m.rest.data_only (things_found (new ∷ m.rest.layers) path) ≡ shown_of m.rest.data_only (things_found (whole m).layers path)
          from xs all contained =
              ap (shown_of m.rest.data_only) new_all
              ∙ (same-shown m.rest.data_only (merged_inode m path inode) inode (things_found m.rest.layers place) xs made meta seen kind
              (file-data m.rest.data_only (merged_inode m path inode) (things_found m.rest.layers place) made
              ∙ (found-data m.rest.data_only (place_of_data (mark_of (merged_inode m path inode))) contained.0 (things_found m.rest.layers place) regular_there
              ∙ (sym contained.1 ∙ sym (file-data m.rest.data_only inode xs meta))))
              ∙ ap (shown_of m.rest.data_only) (sym all))

          by : ((walk m.upper path).found ≡ Some inode) ⊎ (((walk m.upper path).found ≡ None) × ((walk m.upper path).closed ≡ false) × ((walk m.lower (lower_path m path)).found ≡ Some inode)) → shown_of m.rest.data_only (things_found (new ∷ m.rest.layers) path) ≡ shown_of m.rest.data_only (things_found (whole m).layers path)
          by (inl first) =
              from (cons_option (walk m.lower (lower_path m path)).found (things_found m.rest.layers (rest_path m path)))
              (found-whole m path ∙ (λ j. cons_option (first j) (cond (upper_open j) [] (cons_option (walk m.lower (lower_path m path)).found (cond (lower_open j) [] (things_found m.rest.layers (rest_path m path)))))))
              (let past = through (walk m.lower (lower_path m path)).found (things_found m.rest.layers (rest_path m path)) (place_of_data (mark_of inode)) passed in
              (past.0, past.1 ∙ ap (data_below m.rest.data_only past.0) at_rest))
          by (inr (nothing, shut, first)) =
              from (things_found m.rest.layers (rest_path m path))
              (found-whole m path ∙ (λ j. cons_option (nothing j) (cond (upper_open j) [] (cons_option (first j) (cond (lower_open j) [] (things_found m.rest.layers (rest_path m path)))))))
              (place_of_data (mark_of inode), ap (data_below m.rest.data_only (place_of_data (mark_of inode))) at_rest)

    at_file : shown_of m.rest.data_only (things_found (new ∷ m.rest.layers) path) ≡ shown_of m.rest.data_only (things_found (whole m).layers path)
    at_file = by (is_metacopy inode) refl (reach m path) refl (kept_place m path) refl
      where
        by : (b : Bool) → is_metacopy inode ≡ b → (o : Option PathNames) → reach m path ≡ o → (p : Option PathNames) → kept_place m path ≡ p → shown_of m.rest.data_only (things_found (new ∷ m.rest.layers) path) ≡ shown_of m.rest.data_only (things_found (whole m).layers path)
        by false k o e p q = at_other k
        by true k None e None q = at_filled k e q
        by true k None e (Some place) q = at_kept k e place q
        by true k (Some place) e p q = at_copied k place e

  -- every path
  path-same : (path : PathNames) → shown_of m.rest.data_only (things_found (new ∷ m.rest.layers) path) ≡ shown_of m.rest.data_only (things_found (whole m).layers path)
  path-same path = by (first_hit m path) refl
    where
      by : (o : Option Inode) → first_hit m path ≡ o → shown_of m.rest.data_only (things_found (new ∷ m.rest.layers) path) ≡ shown_of m.rest.data_only (things_found (whole m).layers path)
      by None e = at_nothing path ((core path).nothing e)
      by (Some inode) e = at (is_directory inode) refl
        where
          at : (b : Bool) → is_directory inode ≡ b → shown_of m.rest.data_only (things_found (new ∷ m.rest.layers) path) ≡ shown_of m.rest.data_only (things_found (whole m).layers path)
          at true k = at_directory path inode e k
          at false k = at_file path inode e k

pub MergedLayerKeepsTree-holds : MergedLayerKeepsTree
MergedLayerKeepsTree-holds m new each sound layered is path = path-same m new each sound layered is path

-- the new upper layer has its root, and lets everything under it pass
abbrev top_of : Inode → Entries
top_of inode = ([], visible inode) ∷ []

pub MergeKeepsTree-holds : MergeKeepsTree
MergeKeepsTree-holds m new each sound layered is path = by (entry_at m.upper []) refl
  where
    upper : IsLayer m.upper
    upper = all-first IsLayer m.upper (m.lower ∷ m.rest.layers) each

    root_full : (inode : Inode) → is_directory inode ≡ true → (is_regular inode && has_metacopy inode) ≡ false
    root_full inode is_dir = ap (λ b. b && has_metacopy inode) (directory-kind inode.kind is_dir)

    at : (inode : Inode) → entry_at m.upper [] ≡ Some inode → (p : PathNames) → look (over (top_of inode) (over new m.rest)) p ≡ look (whole m) p
    at inode here [] =
        let dir : is_directory inode ≡ true = sym (ap directory_found here) ∙ upper.rooted in
        ap (shown_of m.rest.data_only) (things_found-step (top_of inode) (new ∷ m.rest.layers) [])
        ∙ (shown_of-full m.rest.data_only (visible inode) (things_found (new ∷ m.rest.layers) []) (root_full (visible inode) dir)
        ∙ (ap (λ (i : Inode). Shown i) (visible-visible inode)
        ∙ (sym (shown_of-full m.rest.data_only inode (things_found (m.lower ∷ m.rest.layers) []) (root_full inode dir))
        ∙ ap (shown_of m.rest.data_only) (sym (things_found-step m.upper (m.lower ∷ m.rest.layers) [] ∙ ap (λ (o : Option Inode). cons_option o (things_found (m.lower ∷ m.rest.layers) [])) here)))))
    at inode here (name ∷ names) =
        ap (shown_of m.rest.data_only) (things_found-step (top_of inode) (new ∷ m.rest.layers) (name ∷ names)) ∙ path-same m new each sound layered is (name ∷ names)

    by : (o : Option Inode) → entry_at m.upper [] ≡ o → look (after_merge m new) path ≡ look (whole m) path
    by None e = let bad : false ≡ true = sym (ap directory_found e) ∙ upper.rooted in cc
    by (Some inode) e =
        ap (λ (o : Option Inode). look (over (cons_option (option_map (λ i. ([], visible i)) o) []) (over new m.rest)) path) e ∙ at inode e path
