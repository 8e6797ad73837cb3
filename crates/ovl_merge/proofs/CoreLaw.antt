-- The core in the words of only the walks.
use Rattle.std.proofs.Common.{◌≡◌, Bool, true, false, cond, Option, Some, None, is_some, List, [], ◌∷◌, refl, sym, ap, ◌∙◌, inl, inr, ◌⊎◌}
use Rattle.std.specs.Prelude.{not, ◌&&◌, is_none}
use Rattle.std.specs.List.{cons_option, All}
use Rattle.ovl_names.specs.Paths.{PathNames, is_root}
use Rattle.ovl_names.proofs.Ascending.{both}
use Rattle.ovl_inode.specs.declared.inodes.Inode.{Inode}
use Rattle.ovl_inode.specs.Attributes.{Attributes, attribute, metacopy_name}
use Rattle.ovl_inode.specs.Marks.{mark_of, is_data, is_directory, is_regular, is_metacopy, has_metacopy}
use Rattle.ovl_inode.specs.Inodes.{visible}
use Rattle.ovl_layer.specs.Layers.{Entries, IsLayer, entry_at}
use Rattle.ovl_lookup.specs.declared.looks.Look.{Look}
use Rattle.ovl_lookup.specs.declared.looks.Look.TheVariants.{Nothing, Shown, Broken}
use Rattle.ovl_lookup.specs.Stacks.{StackView}
use Rattle.ovl_lookup.specs.Walk.{walk}
use Rattle.ovl_lookup.specs.Trace.{things_found}
use Rattle.ovl_lookup.specs.Merged.{look, shown_of, data_of, shows_directory, is_nothing, place_of_data}
use Rattle.ovl_lookup.specs.Sound.{IsSoundStack}
use Rattle.ovl_lookup.specs.Passes.{data_below}
use Rattle.ovl_lookup.proofs.LawsOfInodes.{directory-kind, metacopy-file, bare_file, attribute-hidden}
use Rattle.ovl_lookup.proofs.LawsOfFound.{things_found-step, data_of-metacopy, data_below-metacopy, data_below-other, shown_of-full, shown_of-contents, shown_of-broken, data-regular}
use Rattle.ovl_lookup.proofs.LawsOfPaths.{all-first, all-rest}
use Rattle.ovl_merge.specs.Places.{Merge, whole, two_layers, lower_path, rest_path, is_open, first_hit, passes, shows_own_directory, shows_directory_at, is_nothing_or, is_shown_regular, goes_on, reach, reach_of, base, natural, gets_opaque}
use Rattle.ovl_merge.specs.MergeDown.{merged_inode, merged_metacopy, unreached_metacopy, kept_place, IsMergedDown}
use Rattle.ovl_lookup.specs.Words.{through, look_on}
use Rattle.ovl_merge.specs.Laws.{MergeHasCore}
use Rattle.ovl_lookup.proofs.LawsOfWalks.{directory_found, found-closes}
use Rattle.ovl_merge.proofs.Firsts.{hit-no_whiteout, found-whole, hit-from}
use Rattle.ovl_merge.proofs.Inodes.{bare-kind, merged-is_other, merged-metacopy, merged-other, with_contents-attrs}
use Rattle.ovl_merge.proofs.Core.{root_of, kept-facts, base-none, base-reach, Core, merge-core, GoesOn, FindsNothing, GoesOnAlike, IsShownDirectory}
use Rattle.ovl_merge.proofs.SoundHits.{sound-hit}

and_false : (b : Bool) → (b && false) ≡ false
and_false true = refl
and_false false = refl

directory-no_data : (inode : Inode) → is_directory inode ≡ true → is_data inode ≡ false
directory-no_data inode is = ap (λ b. b && not (has_metacopy inode)) (directory-kind inode.kind is)

-- ---- what is shown where walks go on

closed-look : (rest : StackView) (layer : Entries) (path : PathNames) → (walk layer path).closed ≡ true → look_on rest (through (layer ∷ []) path) ≡ Nothing
closed-look rest layer path closed = ap (λ b. look_on rest (cond b None (Some (walk layer path).next))) closed

two-closed : (m : Merge) (path : PathNames) → ((walk m.upper path).closed ≡ true) ⊎ ((walk m.lower (lower_path m path)).closed ≡ true) → look_on m.rest (through (two_layers m).layers path) ≡ Nothing
two-closed m path (inl closed) = ap (λ b. look_on m.rest (cond b None (cond (walk m.lower (lower_path m path)).closed None (Some (rest_path m path))))) closed
two-closed m path (inr closed) = by (walk m.upper path).closed
  where
    by : (b : Bool) → look_on m.rest (cond b None (cond (walk m.lower (lower_path m path)).closed None (Some (rest_path m path)))) ≡ Nothing
    by true = refl
    by false = ap (λ c. look_on m.rest (cond c None (Some (rest_path m path)))) closed

-- where nothing at all is found, nothing is shown further on
nothing-there : (found : Option Inode) (closed : Bool) (rest : StackView) (next : PathNames) → cons_option found (cond closed [] (things_found rest.layers next)) ≡ [] → look_on rest (cond closed None (Some next)) ≡ Nothing
nothing-there (Some inode) closed rest next e = let bad : inode ∷ cond closed [] (things_found rest.layers next) ≡ [] = e in cc
nothing-there None true rest next e = refl
nothing-there None false rest next e = ap (shown_of rest.data_only) e

-- where data is found below a metacopy file, nothing is found there, or first a regular file
data-shown : (data_only : List Entries) (place : Option PathNames) (found : List Inode) (contents : Inode) → data_below data_only place found ≡ Some contents → (found ≡ []) ⊎ (is_shown_regular (shown_of data_only found) ≡ true)
data-shown data_only place [] contents e = inl refl
data-shown data_only place (inode ∷ below) contents e = inr (by (is_metacopy inode) refl)
  where
    copied : (bare : (is_regular inode && has_metacopy inode) ≡ true) → is_shown_regular (shown_of data_only (inode ∷ below)) ≡ true
    copied bare = at (data_of data_only (inode ∷ below)) refl
      where
        at : (o : Option Inode) → data_of data_only (inode ∷ below) ≡ o → is_shown_regular (shown_of data_only (inode ∷ below)) ≡ true
        at (Some file) k =
            ap is_shown_regular (shown_of-contents data_only inode file below bare k)
            ∙ (both {a = is_regular file} {b = not (has_metacopy file)} (data-regular data_only (inode ∷ below) file k)).0
        at None k =
            ap is_shown_regular (shown_of-broken data_only inode below bare k)
            ∙ bare-kind inode.kind (both {a = is_regular inode} {b = has_metacopy inode} bare).0

    plain : (d : Bool) → is_data inode ≡ d → cond d (Some inode) None ≡ Some contents → is_shown_regular (shown_of data_only (inode ∷ below)) ≡ true
    plain true d k =
        let parts = both {a = is_regular inode} {b = not (has_metacopy inode)} d in
        ap is_shown_regular (shown_of-full data_only inode below (whole_file (has_metacopy inode) parts.1)) ∙ parts.0
      where
        whole_file : (b : Bool) → not b ≡ true → (is_regular inode && b) ≡ false
        whole_file true k = let bad : false ≡ true = k in cc
        whole_file false k = and_false (is_regular inode)
    plain false d k = let bad : None ≡ Some contents = k in cc

    by : (b : Bool) → is_metacopy inode ≡ b → is_shown_regular (shown_of data_only (inode ∷ below)) ≡ true
    by true k = copied (metacopy-file inode k).1
    by false k = plain (is_data inode) refl (sym (ap (λ b. cond b (data_below data_only (place_of_data (mark_of inode)) below) (cond (is_data inode) (Some inode) None)) k) ∙ e)

unshown-look : (shown : Look) → not (is_nothing shown) ≡ false → shown ≡ Nothing
unshown-look Nothing e = refl
unshown-look (Shown inode) e = let bad : true ≡ false = e in cc
unshown-look (Broken inode) e = let bad : true ≡ false = e in cc

module _ (m : Merge) (new : Entries) (each : All IsLayer (whole m).layers) (sound : IsSoundStack (whole m)) (layered : IsLayer new) (is : IsMergedDown m new) (path : PathNames) where
  upper : IsLayer m.upper
  upper = all-first IsLayer m.upper (m.lower ∷ m.rest.layers) each

  lower : IsLayer m.lower
  lower = all-first IsLayer m.lower m.rest.layers (all-rest IsLayer m.upper (m.lower ∷ m.rest.layers) each)

  core : Core m new path
  core = merge-core m new each layered is path

  -- at a shown file that is no metacopy file, both old walks and the new one are closed
  other-file : (inode : Inode) → first_hit m path ≡ Some inode → is_directory inode ≡ false → is_metacopy inode ≡ false → look_on m.rest (through (two_layers m).layers path) ≡ Nothing
  other-file inode hit none other = by (hit-from m path inode upper lower hit)
    where
      by : ((walk m.upper path).found ≡ Some inode) ⊎ (((walk m.upper path).found ≡ None) × ((walk m.upper path).closed ≡ false) × ((walk m.lower (lower_path m path)).found ≡ Some inode)) → look_on m.rest (through (two_layers m).layers path) ≡ Nothing
      by (inl found) = two-closed m path (inl (found-closes m.upper path inode upper found none other))
      by (inr (nothing, opened, found)) = two-closed m path (inr (found-closes m.lower (lower_path m path) inode lower found none other))

  -- a metacopy file without a reach: its data is in the two layers, and closes the lower walk, or it is in data-only
  -- layers, and the rest finds nothing
  module _ (inode : Inode) (hit : first_hit m path ≡ Some inode) (meta : is_metacopy inode ≡ true) (e : reach m path ≡ None) where
    abbrev Ends : Type 0
    Ends = look_on m.rest (through (two_layers m).layers path) ≡ Nothing

    file : is_directory inode ≡ false
    file = (metacopy-file inode meta).0

    not_on : (b : Bool) → cond b (Some (rest_path m path)) None ≡ None → b ≡ false
    not_on true k = let bad : Some (rest_path m path) ≡ None = k in cc
    not_on false k = refl

    stays : goes_on m path inode ≡ false
    stays = not_on (goes_on m path inode) (sym (ap (reach_of m path) hit) ∙ e)

    data_found : (found : List Inode) → things_found (whole m).layers path ≡ inode ∷ found → (contents : Inode) × (data_below m.rest.data_only (place_of_data (mark_of inode)) found ≡ Some contents)
    data_found found all =
        let has = (sound-hit m upper lower sound path inode hit file).0 meta in
        (has.0, sym (ap (data_of m.rest.data_only) all ∙ data_of-metacopy m.rest.data_only inode found meta file (bare_file inode (metacopy-file inode meta).1).1) ∙ has.1)

    -- with both walks open and nothing or a metacopy file on the way, the rest would show a regular file if anything
    no_reach : (walk m.upper path).closed ≡ false → (walk m.lower (lower_path m path)).closed ≡ false → is_nothing_or is_metacopy (walk m.lower (lower_path m path)).found ≡ true → (place : Option PathNames) (contents : Inode) → data_below m.rest.data_only place (things_found m.rest.layers (rest_path m path)) ≡ Some contents → Ends
    no_reach u l passed place contents d = by (data-shown m.rest.data_only place (things_found m.rest.layers (rest_path m path)) contents d)
      where
        by : (things_found m.rest.layers (rest_path m path) ≡ []) ⊎ (is_shown_regular (shown_of m.rest.data_only (things_found m.rest.layers (rest_path m path))) ≡ true) → Ends
        by (inl empty) = (λ j. look_on m.rest (cond (u j) None (cond (l j) None (Some (rest_path m path))))) ∙ ap (shown_of m.rest.data_only) empty
        by (inr shown) =
            let on : goes_on m path inode ≡ true = λ j. (not (u j) && not (l j)) && cond (file j) (is_nothing_or is_directory (walk m.lower (lower_path m path)).found && shows_directory m.rest (rest_path m path)) (meta j && passed j && shown j) in
            let bad : true ≡ false = sym on ∙ stays in cc

    through_lower : (o : Option Inode) (xs : List Inode) (place : Option PathNames) → is_nothing_or is_metacopy o ≡ true → (next : Option PathNames) × (data_below m.rest.data_only place (cons_option o xs) ≡ data_below m.rest.data_only next xs)
    through_lower None xs place k = (place, refl)
    through_lower (Some other) xs place k = (place_of_data (mark_of other), data_below-metacopy m.rest.data_only place other xs k)

    ends : Ends
    ends = by (walk m.upper path).closed refl (walk m.lower (lower_path m path)).closed refl (hit-from m path inode upper lower hit)
      where
        among : (walk m.upper path).closed ≡ false → (walk m.lower (lower_path m path)).closed ≡ false → (o : Option Inode) → (walk m.lower (lower_path m path)).found ≡ o → (b : Bool) → is_nothing_or is_metacopy o ≡ b → (place : Option PathNames) (contents : Inode) → data_below m.rest.data_only place (cons_option o (things_found m.rest.layers (rest_path m path))) ≡ Some contents → Ends
        among u l o f true k place contents d =
            let past = through_lower o (things_found m.rest.layers (rest_path m path)) place k in
            no_reach u l (ap (is_nothing_or is_metacopy) f ∙ k) past.0 contents (sym past.1 ∙ d)
        among u l None f false k place contents d = let bad : true ≡ false = k in cc
        among u l (Some other) f false k place contents d = sort (is_directory other) refl
          where
            sort : (b : Bool) → is_directory other ≡ b → Ends
            sort false g = two-closed m path (inr (found-closes m.lower (lower_path m path) other lower f g k))
            sort true g =
                let bad : None ≡ Some contents = sym (data_below-other m.rest.data_only place other (things_found m.rest.layers (rest_path m path)) k (directory-no_data other g)) ∙ d in cc

        by : (u : Bool) → (walk m.upper path).closed ≡ u → (l : Bool) → (walk m.lower (lower_path m path)).closed ≡ l
            → ((walk m.upper path).found ≡ Some inode) ⊎ (((walk m.upper path).found ≡ None) × ((walk m.upper path).closed ≡ false) × ((walk m.lower (lower_path m path)).found ≡ Some inode))
            → Ends
        by true u l k from = two-closed m path (inl u)
        by false u true l from = two-closed m path (inr l)
        by false u false l (inl found) =
            let all : things_found (whole m).layers path ≡ inode ∷ cons_option (walk m.lower (lower_path m path)).found (things_found m.rest.layers (rest_path m path)) =
            found-whole m path ∙ (λ j. cons_option (found j) (cond (u j) [] (cons_option (walk m.lower (lower_path m path)).found (cond (l j) [] (things_found m.rest.layers (rest_path m path)))))) in
            let has = data_found (cons_option (walk m.lower (lower_path m path)).found (things_found m.rest.layers (rest_path m path))) all in
            among u l (walk m.lower (lower_path m path)).found refl (is_nothing_or is_metacopy (walk m.lower (lower_path m path)).found) refl (place_of_data (mark_of inode)) has.0 has.1
        by false u false l (inr (nothing, opened, found)) =
            let all : things_found (whole m).layers path ≡ inode ∷ things_found m.rest.layers (rest_path m path) =
            found-whole m path ∙ (λ j. cons_option (nothing j) (cond (u j) [] (cons_option (found j) (cond (l j) [] (things_found m.rest.layers (rest_path m path)))))) in
            let has = data_found (things_found m.rest.layers (rest_path m path)) all in
            no_reach u l (ap (is_nothing_or is_metacopy) found ∙ meta) (place_of_data (mark_of inode)) has.0 has.1

  -- ---- the three cases

  goes-through : (place : Option PathNames) → GoesOn (walk new path) place → through (new ∷ []) path ≡ place
  goes-through None shut = ap (λ b. cond b None (Some (walk new path).next)) shut
  goes-through (Some place) on = λ j. cond (on.0 j) None (Some (on.1 j))

  reached : (place : PathNames) → reach m path ≡ Some place → through (new ∷ []) path ≡ Some place
  reached place e = by (first_hit m path) refl
    where
      file-meta : (inode : Inode) → first_hit m path ≡ Some inode → is_directory inode ≡ false → (b : Bool) → is_metacopy inode ≡ b → b ≡ true
      file-meta inode hit none true k = refl
      file-meta inode hit none false k =
          let off : goes_on m path inode ≡ false = (λ j. is_open m path && cond (none j) (is_nothing_or is_directory (walk m.lower (lower_path m path)).found && shows_directory m.rest (rest_path m path)) (k j && is_nothing_or is_metacopy (walk m.lower (lower_path m path)).found && is_shown_regular (look m.rest (rest_path m path)))) ∙ and_false (is_open m path) in
          let bad : None ≡ Some place = sym (ap (reach_of m path) hit ∙ ap (λ b. cond b (Some (rest_path m path)) None) off) ∙ e in cc

      by : (o : Option Inode) → first_hit m path ≡ o → through (new ∷ []) path ≡ Some place
      by None hit = let bad : None ≡ Some place = sym (ap (reach_of m path) hit) ∙ e in cc
      by (Some inode) hit = sort (is_directory inode) refl
        where
          sort : (b : Bool) → is_directory inode ≡ b → through (new ∷ []) path ≡ Some place
          sort true d = goes-through (base m path) (core.directory inode hit d) ∙ base-reach m path place e
          sort false d = goes-through (Some place) (core.copy inode hit (file-meta inode hit d (is_metacopy inode) refl) place e).0

  shown-hit : shows_own_directory m path ≡ true → IsShownDirectory m path
  shown-hit shown = by (first_hit m path) refl
    where
      by : (o : Option Inode) → first_hit m path ≡ o → IsShownDirectory m path
      by None hit = let bad : false ≡ true = sym (ap (passes is_directory) hit) ∙ shown in cc
      by (Some inode) hit = record { inode = inode; hit = hit; directory = sym (ap (passes is_directory) hit) ∙ shown }

  unreached : shows_own_directory m path ≡ true → reach m path ≡ None → shows_directory_at m.rest (through (new ∷ []) path) ≡ false
  unreached shown e = ap (shows_directory_at m.rest) (goes-through (base m path) (core.directory d.inode d.hit d.directory) ∙ base-none m path e) ∙ by (gets_opaque m path) refl (natural m path) refl
    where
      d : IsShownDirectory m path
      d = shown-hit shown

      at_root : path ≡ [] → shows_directory m.rest [] ≡ false
      at_root top =
          let passed : is_nothing_or is_directory (entry_at m.lower []) ≡ true = rooted (entry_at m.lower []) lower.rooted in
          let on : goes_on m [] (shown-hit shown).inode ≡ shows_directory m.rest [] =
          λ j. cond ((shown-hit shown).directory j) (passed j && shows_directory m.rest []) (is_metacopy (shown-hit shown).inode && is_nothing_or is_metacopy (entry_at m.lower []) && is_shown_regular (look m.rest [])) in
          let off : goes_on m path (shown-hit shown).inode ≡ false = not_on (goes_on m path (shown-hit shown).inode) (sym (ap (reach_of m path) (shown-hit shown).hit) ∙ e) in
          sym on ∙ (ap (λ (p : PathNames). goes_on m p (shown-hit shown).inode) (sym top) ∙ off)
        where
          rooted : (o : Option Inode) → directory_found o ≡ true → is_nothing_or is_directory o ≡ true
          rooted None k = refl
          rooted (Some inode) k = k

          not_on : (b : Bool) → cond b (Some (rest_path m path)) None ≡ None → b ≡ false
          not_on true k = let bad : Some (rest_path m path) ≡ None = k in cc
          not_on false k = refl

      by : (b : Bool) → gets_opaque m path ≡ b → (o : Option PathNames) → natural m path ≡ o → shows_directory_at m.rest (cond (gets_opaque m path) None (natural m path)) ≡ false
      by true g o n = ap (λ b. shows_directory_at m.rest (cond b None (natural m path))) g
      by false g None n = λ j. shows_directory_at m.rest (cond (g j) None (n j))
      by false g (Some place) n = (λ j. shows_directory_at m.rest (cond (g j) None (n j))) ∙ root (is_root path) refl
        where
          root : (b : Bool) → is_root path ≡ b → shows_directory m.rest place ≡ false
          root false r = sym (λ j. not (r j) && shown j && is_none (e j) && shows_directory_at m.rest (n j)) ∙ g
          root true r =
              let top : path ≡ [] = root_of path r in
              let same : Some [] ≡ Some place = ap (natural m) (sym top) ∙ n in
              let at : place ≡ [] = sym (let one : ◌≡◌ {A = PathNames} [] place = cc in one) in
              ap (shows_directory m.rest) at ∙ at_root top

  no-metacopy : (inode : Inode) → attribute inode.attrs metacopy_name ≡ None → is_metacopy inode ≡ false
  no-metacopy inode none = by (is_metacopy inode) refl
    where
      by : (b : Bool) → is_metacopy inode ≡ b → b ≡ false
      by false k = refl
      by true k = sym (both {a = is_regular inode} {b = has_metacopy inode} (metacopy-file inode k).1).1 ∙ ap is_some none

  -- nothing is found in the whole stack
  nothing-two : things_found (whole m).layers path ≡ [] → look_on m.rest (through (two_layers m).layers path) ≡ Nothing
  nothing-two empty = by (walk m.upper path).found (walk m.upper path).closed (sym (found-whole m path) ∙ empty)
    where
      by : (fu : Option Inode) (cu : Bool) → cons_option fu (cond cu [] (cons_option (walk m.lower (lower_path m path)).found (cond (walk m.lower (lower_path m path)).closed [] (things_found m.rest.layers (rest_path m path))))) ≡ []
          → look_on m.rest (cond cu None (cond (walk m.lower (lower_path m path)).closed None (Some (rest_path m path)))) ≡ Nothing
      by (Some inode) cu k = let bad : inode ∷ cond cu [] (cons_option (walk m.lower (lower_path m path)).found (cond (walk m.lower (lower_path m path)).closed [] (things_found m.rest.layers (rest_path m path)))) ≡ [] = k in cc
      by None true k = refl
      by None false k = nothing-there (walk m.lower (lower_path m path)).found (walk m.lower (lower_path m path)).closed m.rest (rest_path m path) k

  other : shows_own_directory m path ≡ false → reach m path ≡ None → look_on m.rest (through (new ∷ []) path) ≡ look_on m.rest (through (two_layers m).layers path)
  other shown e = by (first_hit m path) refl
    where
      none-case : FindsNothing m new path ⊎ GoesOnAlike m new path → look_on m.rest (through (new ∷ []) path) ≡ look_on m.rest (through (two_layers m).layers path)
      none-case (inl (old, fresh)) =
          nothing-there (walk new path).found (walk new path).closed m.rest (walk new path).next (sym (things_found-step new m.rest.layers path) ∙ fresh)
          ∙ sym (nothing-two old)
      none-case (inr alike) =
          (λ j. look_on m.rest (cond (alike.opened j) None (Some (alike.next j))))
          ∙ sym (λ j. look_on m.rest (cond (alike.old.upper_open j) None (cond (alike.old.lower_open j) None (Some (rest_path m path)))))

      made-bare : (inode : Inode) → first_hit m path ≡ Some inode → is_directory inode ≡ false → kept_place m path ≡ None → (b : Bool) → is_metacopy inode ≡ b → is_metacopy (merged_inode m path inode) ≡ false
      made-bare inode hit none none-kept false k = no-metacopy (merged_inode m path inode) (ap (λ (i : Inode). attribute i.attrs metacopy_name) (merged-other m path inode none k) ∙ attribute-hidden inode.attrs metacopy_name refl)
      made-bare inode hit none none-kept true k =
          no-metacopy (merged_inode m path inode)
          (ap (λ (i : Inode). attribute i.attrs metacopy_name) (merged-metacopy m path inode none k ∙ (ap (merged_metacopy m path inode) e ∙ ap (unreached_metacopy m path inode) none-kept))
          ∙ (ap (λ (a : Attributes). attribute a metacopy_name) (with_contents-attrs (visible inode) (look (whole m) path)) ∙ attribute-hidden inode.attrs metacopy_name refl))

      old-file : (inode : Inode) → first_hit m path ≡ Some inode → is_directory inode ≡ false → (b : Bool) → is_metacopy inode ≡ b → look_on m.rest (through (two_layers m).layers path) ≡ Nothing
      old-file inode hit none false k = other-file inode hit none k
      old-file inode hit none true k = ends inode hit k e

      by : (o : Option Inode) → first_hit m path ≡ o → look_on m.rest (through (new ∷ []) path) ≡ look_on m.rest (through (two_layers m).layers path)
      by None hit = none-case (core.nothing hit)
      by (Some inode) hit = file_case (sym (ap (passes is_directory) hit) ∙ shown)
        where
          file_case : is_directory inode ≡ false → look_on m.rest (through (new ∷ []) path) ≡ look_on m.rest (through (two_layers m).layers path)
          file_case none = fresh (is_metacopy inode) refl (kept_place m path) refl ∙ sym (old-file inode hit none (is_metacopy inode) refl)
            where
              full-file : (is_metacopy (merged_inode m path inode) ≡ false) → look_on m.rest (through (new ∷ []) path) ≡ Nothing
              full-file bare =
                  let made = merged-is_other m path inode none hit (hit-no_whiteout m path inode upper lower hit) in
                  closed-look m.rest new path (found-closes new path (merged_inode m path inode) layered (core.file inode hit none) made.0 bare)

              fresh : (b : Bool) → is_metacopy inode ≡ b → (o : Option PathNames) → kept_place m path ≡ o → look_on m.rest (through (new ∷ []) path) ≡ Nothing
              fresh b k None p = full-file (made-bare inode hit none p b k)
              fresh false k (Some place) p = full-file (no-metacopy (merged_inode m path inode) (ap (λ (i : Inode). attribute i.attrs metacopy_name) (merged-other m path inode none k) ∙ attribute-hidden inode.attrs metacopy_name refl))
              fresh true k (Some place) p =
                  ap (look_on m.rest) (goes-through (Some place) (core.kept inode hit k e place p).0)
                  ∙ unshown-look (look m.rest place) (kept-facts m path place p).2

pub MergeHasCore-holds : MergeHasCore
MergeHasCore-holds m lower each sound layered is path = record {
  reached = reached m lower each sound layered is path;
  unreached = unreached m lower each sound layered is path;
  other = other m lower each sound layered is path;
}
