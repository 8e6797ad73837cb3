-- What a visit of a merge reckons.
use Rattle.std.proofs.Common.{◌≡◌, ℕ, ◌<◌, subst, Bool, true, false, cond, Option, Some, None, List, [], ◌∷◌, ◌++◌, length, drop, refl, sym, ap, ◌∙◌, arith}
use Rattle.std.specs.Prelude.{slice_get, unwrap_or, IfSome}
use Rattle.std.specs.Option.{option_map}
use Rattle.std.specs.List.{cons_option, filter_map, All}
use Rattle.std.specs.Cmp.Lexicographic.{pointwise_decides, bytes_decides}
use Rattle.std.proofs.lemmas.List.{append-nil}
use Rattle.ovl_names.specs.Names.{PathName, name_eq}
use Rattle.ovl_names.specs.Paths.{PathNames, child_path, parent_path, path_eq, path_text}
use Rattle.ovl_inode.specs.declared.inodes.Inode.{Inode}
use Rattle.ovl_inode.specs.Attributes.{redirect_name, metacopy_name}
use Rattle.ovl_inode.specs.Inodes.{visible}
use Rattle.ovl_layer.specs.Layers.{Entries, IsLayer, names_below}
use Rattle.ovl_lookup.specs.declared.looks.Look.{Look}
use Rattle.ovl_lookup.specs.declared.views.DirView.{DirView}
use Rattle.ovl_lookup.specs.DirViews.{IsViewOf}
use Rattle.ovl_lookup.specs.Walk.{walk}
use Rattle.ovl_lookup.specs.Stacks.{StackView, from_layer}
use Rattle.ovl_lookup.specs.Passes.{own_names_along, kids_along}
use Rattle.ovl_names.specs.NameSets.{put_names}
use Rattle.ovl_lookup.specs.Merged.{look, AreKids}
use Rattle.ovl_lookup.specs.Words.{top_layer, lower_layers}
use Rattle.ovl_lookup.proofs.LawsOfPaths.{length-child, parent_path-child}
use Rattle.ovl_lookup.proofs.LawsOfKids.{kids-unique}
use Rattle.ovl_names.proofs.LawsOfNameSets.{put_names-append}
use Rattle.ovl_merge.specs.Places.{Merge, two_layers, merge_of, lower_path, shows_own_directory, reach, last_name}
use Rattle.ovl_merge.specs.MergeDown.{with_value, with_contents, redirected, redirected_from, merged_directory, merged_metacopy, unreached_metacopy, kept_place, merged_entry}
use Rattle.ovl_merge.specs.Directories.{named_inode, candidate_names, entries_in}
use Rattle.ovl_merge.specs.Reckoned.{name_directly_in}
use Rattle.ovl_merge.proofs.Core.{last_name-child}
use Rattle.ovl_merge.proofs.MergedEntries.{entry-stands}
use Rattle.ovl_merge.proofs.FinishLemmas.{merge-whole}

-- ---- the stack

-- its second layer
pub lower-layer : (stack : StackView) → 1 < length stack.layers → (P : Entries → Type 0) → IfSome (slice_get stack.layers 1) P → P (top_layer (lower_layers stack))
lower-layer stack several P = by stack.layers several
  where
    by : (layers : List Entries) → 1 < length layers → IfSome (slice_get layers 1) P → P (unwrap_or (slice_get (drop 1 layers) 0) [])
    by [] none h = absurd (omega (arith, none))
    by (upper ∷ []) none h = absurd (omega (arith, none))
    by (upper ∷ lower ∷ layers) several h = h

-- ---- redirects

pub same-end : (one other : PathNames) (name : PathName) → path_eq (child_path one name) (child_path other name) ≡ path_eq one other
same-end one other name = by (path_eq (child_path one name) (child_path other name)) refl (path_eq one other) refl
  where
    by : (a : Bool) → path_eq (child_path one name) (child_path other name) ≡ a → (b : Bool) → path_eq one other ≡ b → path_eq (child_path one name) (child_path other name) ≡ path_eq one other
    by true e true f = e ∙ sym f
    by false e false f = e ∙ sym f
    by true e false f =
        let paths : one ≡ other = sym (parent_path-child one name) ∙ (ap parent_path ((pointwise_decides bytes_decides (child_path one name) (child_path other name)).0 e) ∙ parent_path-child other name) in
        let bad : false ≡ true = sym f ∙ (pointwise_decides bytes_decides one other).1 paths in cc
    by false e true f =
        let bad : false ≡ true = sym e ∙ (pointwise_decides bytes_decides (child_path one name) (child_path other name)).1 (ap (λ (p : PathNames). child_path p name) ((pointwise_decides bytes_decides one other).0 f)) in cc

-- the name by which a path lies directly in a directory
pub name-in : (dir path above : PathNames) (last : PathName) → path ≡ above ++ last ∷ [] → (b : Bool) → path_eq above dir ≡ b → cond b (Some last) None ≡ name_directly_in (Some dir) path
name-in dir path above last is b same =
    let own : last_name path ≡ last = ap last_name is ∙ last_name-child above last in
    sym ((λ j. cond (path_eq (is j) (child_path dir (own j))) (Some (own j)) None) ∙ ap (λ (c : Bool). cond c (Some last) None) (same-end above dir last ∙ same))

module _ (above place : PathNames) (own : PathName) (inode : Inode) where
  abbrev far : Inode
  far = with_value inode redirect_name (path_text place)

  abbrev beside : Inode
  beside = with_value inode redirect_name (last_name place)

  told : (b : Bool) (name : PathName) → Some name ≡ cond b (Some (last_name place)) None → (b ≡ true) × (name ≡ last_name place)
  told true name e = (refl, cc)
  told false name e = let bad : Some name ≡ None = e in cc

  untold : (b : Bool) → None ≡ cond b (Some (last_name place)) None → b ≡ false
  untold true e = let bad : None ≡ Some (last_name place) = e in cc
  untold false e = refl

  -- another name isn't the entry's own
  not-own : (last_name place ≡ own → ⊥) → path_eq place (child_path above own) ≡ false
  not-own other = by (path_eq place (child_path above own)) refl
    where
      by : (b : Bool) → path_eq place (child_path above own) ≡ b → path_eq place (child_path above own) ≡ false
      by true e = absurd (other (ap last_name ((pointwise_decides bytes_decides place (child_path above own)).0 e) ∙ last_name-child above own))
      by false e = e

  own-above : (name : PathName) → Some name ≡ name_directly_in (Some above) place → name_eq name own ≡ true → inode ≡ redirected_from (Some above) own inode place
  own-above name e same =
      let t = told (path_eq place (child_path above (last_name place))) name e in
      let there : path_eq place (child_path above own) ≡ true = ap (λ (n : PathName). path_eq place (child_path above n)) (sym ((bytes_decides name own).0 same) ∙ t.1) ∙ t.0 in
      sym (ap (λ (b : Bool). cond b inode (cond (path_eq place (child_path above (last_name place))) beside far)) there)

  beside-above : (name : PathName) → Some name ≡ name_directly_in (Some above) place → name_eq name own ≡ false → with_value inode redirect_name name ≡ redirected_from (Some above) own inode place
  beside-above name e other =
      let t = told (path_eq place (child_path above (last_name place))) name e in
      let never : last_name place ≡ own → ⊥ = λ same. (let bad : false ≡ true = sym other ∙ (bytes_decides name own).1 (t.1 ∙ same) in cc) in
      ap (with_value inode redirect_name) t.1 ∙ sym (λ j. cond (not-own never j) inode (cond (t.0 j) beside far))

  far-above : None ≡ name_directly_in (Some above) place → far ≡ redirected_from (Some above) own inode place
  far-above e =
      let none = untold (path_eq place (child_path above (last_name place))) e in
      sym (λ j. cond (by (path_eq place (child_path above own)) refl none j) inode (cond (none j) beside far))
    where
      by : (b : Bool) → path_eq place (child_path above own) ≡ b → path_eq place (child_path above (last_name place)) ≡ false → path_eq place (child_path above own) ≡ false
      by false k none = k
      by true k none =
          let named : last_name place ≡ own = ap last_name ((pointwise_decides bytes_decides place (child_path above own)).0 k) ∙ last_name-child above own in
          let bad : false ≡ true = sym none ∙ (ap (λ (n : PathName). path_eq place (child_path above n)) named ∙ k) in cc

module _ (place : PathNames) (own : PathName) (inode : Inode) where
  pub redirect-own : (above : Option PathNames) (name : PathName) → Some name ≡ name_directly_in above place → name_eq name own ≡ true → inode ≡ redirected_from above own inode place
  redirect-own None name e same = let bad : Some name ≡ None = e in cc
  redirect-own (Some above) name e same = own-above above place own inode name e same

  pub redirect-beside : (above : Option PathNames) (name : PathName) → Some name ≡ name_directly_in above place → name_eq name own ≡ false → with_value inode redirect_name name ≡ redirected_from above own inode place
  redirect-beside None name e other = let bad : Some name ≡ None = e in cc
  redirect-beside (Some above) name e other = beside-above above place own inode name e other

  pub redirect-far : (above : Option PathNames) → None ≡ name_directly_in above place → with_value inode redirect_name (path_text place) ≡ redirected_from above own inode place
  redirect-far None e = refl
  redirect-far (Some above) e = far-above above place own inode e

-- of an entry in a directory, by the reach of that
pub redirected-child : (m : Merge) (above path : PathNames) (name : PathName) → path ≡ child_path above name → (inode : Inode) (place : PathNames) → redirected_from (reach m above) name inode place ≡ redirected m path inode place
redirected-child m above path name is inode place =
    sym (ap (λ (p : PathNames). redirected m p inode place) is
    ∙ (λ j. cond (length-child above name j) inode (redirected_from (reach m (parent_path-child above name j)) (last_name-child above name j) inode place)))

-- the new inodes of an entry, by the reaches of its directory and its own
module _ (m : Merge) (above path : PathNames) (name : PathName) (is : path ≡ child_path above name) (inode shown : Inode) (seen : shown ≡ visible inode) (upper own : Option PathNames) (reached : upper ≡ reach m above) where
  pub directory-told : (place : PathNames) → own ≡ Some place → redirected_from upper name shown place ≡ merged_directory m path inode own
  directory-told place e =
      (λ j. redirected_from (reached j) name (seen j) place)
      ∙ (redirected-child m above path name is (visible inode) place
      ∙ sym (ap (merged_directory m path inode) e))

  pub metacopy-told : (copied : Inode) → copied ≡ with_value shown metacopy_name [] → (place : PathNames) → own ≡ Some place → redirected_from upper name copied place ≡ merged_metacopy m path inode own
  metacopy-told copied made place e =
      (λ j. redirected_from (reached j) name (made j) place)
      ∙ ((λ j. redirected_from (reach m above) name (with_value (seen j) metacopy_name []) place)
      ∙ (redirected-child m above path name is (with_value (visible inode) metacopy_name []) place
      ∙ sym (ap (merged_metacopy m path inode) e)))

pub contents-told : (stack : StackView) → 1 < length stack.layers → (path : PathNames) (inode shown : Inode) → shown ≡ visible inode → (own : Option PathNames) → own ≡ None → (kept : Option PathNames) → kept ≡ kept_place (merge_of stack) path → kept ≡ None → (found : Look) → found ≡ look stack path
    → with_contents shown found ≡ merged_metacopy (merge_of stack) path inode own
contents-told stack several path inode shown seen own none kept is none-kept found e =
    (λ j. with_contents (seen j) (e j))
    ∙ (ap (λ (s : StackView). with_contents (visible inode) (look s path)) (sym (merge-whole stack several))
    ∙ sym (ap (merged_metacopy (merge_of stack) path inode) none ∙ ap (unreached_metacopy (merge_of stack) path inode) (sym is ∙ none-kept)))

-- one whose data lies in data-only layers
pub kept-told : (m : Merge) (path : PathNames) (inode shown : Inode) → shown ≡ visible inode → (own : Option PathNames) → own ≡ None → (kept : Option PathNames) → kept ≡ kept_place m path → (place : PathNames) → kept ≡ Some place → (copied : Inode) → copied ≡ with_value shown metacopy_name []
    → with_value copied redirect_name (path_text place) ≡ merged_metacopy m path inode own
kept-told m path inode shown seen own none kept is place some copied made =
    (λ j. with_value (made j) redirect_name (path_text place))
    ∙ ((λ j. with_value (with_value (seen j) metacopy_name []) redirect_name (path_text place))
    ∙ sym (ap (merged_metacopy m path inode) none ∙ ap (unreached_metacopy m path inode) (sym is ∙ some)))

-- ---- names

pub own-names : (m : Merge) (path : PathNames) (lower : Option PathNames) → lower ≡ cond (walk m.upper path).closed None (Some (lower_path m path))
    → elim lower [ Some place ↦ put_names (put_names [] (names_below m.upper path)) (names_below m.lower place) | None ↦ put_names [] (names_below m.upper path) ] ≡ put_names [] (own_names_along (two_layers m).layers path)
own-names m path lower is =
    ap (λ (o : Option PathNames). elim o as (λ _. List PathName) [ Some place ↦ put_names (put_names [] (names_below m.upper path)) (names_below m.lower place) | None ↦ put_names [] (names_below m.upper path) ]) is
    ∙ by (walk m.upper path).closed
  where
    last : (closed : Bool) → names_below m.lower (lower_path m path) ≡ names_below m.lower (lower_path m path) ++ cond closed [] []
    last true = sym (append-nil (names_below m.lower (lower_path m path)))
    last false = sym (append-nil (names_below m.lower (lower_path m path)))

    by : (closed : Bool) → elim (cond closed None (Some (lower_path m path))) as (λ _. List PathName) [ Some place ↦ put_names (put_names [] (names_below m.upper path)) (names_below m.lower place) | None ↦ put_names [] (names_below m.upper path) ]
        ≡ put_names [] (names_below m.upper path ++ cond closed [] (names_below m.lower (lower_path m path) ++ cond (walk m.lower (lower_path m path)).closed [] []))
    by true = ap (put_names []) (sym (append-nil (names_below m.upper path)))
    by false =
        ap (put_names (put_names [] (names_below m.upper path))) (last (walk m.lower (lower_path m path)).closed)
        ∙ sym (put_names-append [] (names_below m.upper path) (names_below m.lower (lower_path m path) ++ cond (walk m.lower (lower_path m path)).closed [] []))

-- the names in a base, by its view
pub view-kids : (stack : StackView) → All IsLayer (from_layer 2 stack).layers → (dir : PathNames) (view : DirView) → IsViewOf stack 2 dir view → (names : List PathName) → AreKids (from_layer view.from stack) view.path names
    → names ≡ kids_along (from_layer 2 stack) dir
view-kids stack each dir view of names are =
    kids-unique (from_layer 2 stack) each dir names
    (subst (λ (d : PathNames). AreKids (from_layer 2 stack) d names) of.stands
    (subst (λ (n : ℕ). AreKids (from_layer n stack) view.path names) of.starts are))

-- ---- shown directories

module _ (m : Merge) (upper : IsLayer m.upper) (lower : IsLayer m.lower) where
  -- nothing is entered where no directory is shown
  pub nothing-in : (path : PathNames) (name : PathName) → shows_own_directory m path ≡ false → merged_entry m (child_path path name) ≡ None
  nothing-in path name none = by (merged_entry m (child_path path name)) refl
    where
      by : (found : Option Inode) → merged_entry m (child_path path name) ≡ found → merged_entry m (child_path path name) ≡ None
      by None e = e
      by (Some inode) e = let bad : false ≡ true = sym none ∙ (entry-stands m upper lower path name inode e).0 in cc

  pub no-entries : (path : PathNames) → shows_own_directory m path ≡ false → entries_in m path ≡ []
  no-entries path none = by (candidate_names m path)
    where
      by : (names : List PathName) → filter_map (named_inode m path) names ≡ []
      by [] = refl
      by (name ∷ names) = ap (λ (found : Option Inode). cons_option (option_map (λ inode. (name, inode)) found) (filter_map (named_inode m path) names)) (nothing-in path name none) ∙ by names

pub not-some : {X : Type 0} → (found : Option X) → ((x : X) → found ≡ Some x → ⊥) → found ≡ None
not-some None never = refl
not-some (Some x) never = absurd (never x refl)
