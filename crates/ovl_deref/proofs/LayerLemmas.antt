-- What a dereferenced layer has at each path is what a layer may have, but for the limits.
use Rattle.std.proofs.Common.{◌≡◌, Bool, true, false, cond, Option, Some, None, [], length, refl, sym, ap, ◌∙◌, inl, inr, ◌⊎◌}
use Rattle.std.specs.Prelude.{◌||◌, ◌&&◌, not, is_some, codes, nat_le}
use Rattle.std.specs.Option.{option_map}
use Rattle.std.specs.List.{list_all, All}
use Rattle.ovl_names.specs.Names.{PathName, name_eq}
use Rattle.ovl_names.specs.Order.{ascends}
use Rattle.ovl_names.specs.Paths.{PathNames, child_path, has_names}
use Rattle.ovl_names.proofs.Ascending.{both, not_true, list_all-filter, ascends-filter}
use Rattle.ovl_inode.specs.declared.inodes.Inode.{Inode}
use Rattle.ovl_inode.specs.declared.inodes.Kind.{Kind}
use Rattle.ovl_inode.specs.Attributes.{attribute, attribute_cmp, is_attribute, visible_attributes, with_attribute, has_escaped_name, is_overlay_name, opaque_name, redirect_name, metacopy_name}
use Rattle.ovl_inode.specs.Marks.{is_directory, is_metacopy}
use Rattle.ovl_inode.specs.Sound.{is_sound_inode, is_sound_kind}
use Rattle.ovl_inode.proofs.AttributeLemmas.{are_attributes-visible, are_attributes-with}
use Rattle.ovl_inode.proofs.SoundLaws.{sound_values, sound-with}
use Rattle.ovl_layer.specs.Layers.{Entries, Entry, entry_at, entry_cmp, entry_limit, is_directory_at, is_within_limits, IsLayer}
use Rattle.ovl_lookup.specs.declared.looks.Look.{Look}
use Rattle.ovl_lookup.specs.declared.looks.Look.TheVariants.{Nothing, Shown, Broken}
use Rattle.ovl_lookup.specs.Walk.{mark_at}
use Rattle.ovl_lookup.specs.Stacks.{StackView}
use Rattle.ovl_lookup.specs.Merged.{look, is_shown_directory}
use Rattle.ovl_lookup.specs.ShownInodes.{inode_shown}
use Rattle.ovl_lookup.specs.Sound.{IsSoundStack, is_moved}
use Rattle.ovl_lookup.proofs.LawsOfEntries.{MayHave, layer-made}
use Rattle.ovl_lookup.proofs.LawsOfInodes.{metacopy-file, attribute-hidden, unescaped-filter}
use Rattle.ovl_lookup.proofs.LawsOfLooks.{ShowsParents-holds, inode-directory, inode-shows, inode-whole, shown-visible, all-over, shown-sound, shown-unescaped, shown-named}
use Rattle.ovl_lookup.proofs.LawsOfPaths.{lookup-all, parent_path-child, last-name}
use Rattle.ovl_lookup.specs.Words.{over}
use Rattle.ovl_lookup.proofs.LawsOfWalks.{entry-parent, directory-entry, directory_found, mark-child}
use Rattle.ovl_rewrite.proofs.InodeLemmas.{opaque_named, unescaped-with, directory-flag}
use Rattle.ovl_rewrite.proofs.LimitLemmas.{limit-parts}
use Rattle.ovl_deref.specs.Deref.{any_prefix, is_in_moved, unfolded, full_attributes, filled, dereferenced_inode, dereferenced_at, IsDereferenced}
use Rattle.ovl_deref.specs.Laws.{DerefGivesLayer}
use Rattle.ovl_deref.proofs.DerefLemmas.{neither, any_prefix-child, moved-directory, full-attribute}

-- ---- which paths are in a moved directory

module _ (top : Entries) where
  abbrev at_moved : PathNames → Bool
  at_moved path = any_prefix (λ prefix. is_moved (mark_at top prefix)) path

  pub in_moved-child : (path : PathNames) (name : PathName) → is_in_moved top (child_path path name) ≡ at_moved path
  in_moved-child path name = ap at_moved (parent_path-child path name)

  at_moved-parts : (path : PathNames) → at_moved path ≡ (is_in_moved top path || is_moved (mark_at top path))
  at_moved-parts path = by (last-name path)
    where
      by : (path ≡ []) ⊎ ((directory : PathNames) × (name : PathName) × (path ≡ child_path directory name)) → at_moved path ≡ (is_in_moved top path || is_moved (mark_at top path))
      by (inl e) = ap at_moved e ∙ sym (ap (λ (p : PathNames). is_in_moved top p || is_moved (mark_at top p)) e)
      by (inr (directory, name, e)) =
          ap at_moved e
          ∙ (any_prefix-child (λ prefix. is_moved (mark_at top prefix)) directory name
          ∙ (ap (λ b. b || is_moved (mark_at top (child_path directory name))) (sym (in_moved-child directory name))
          ∙ sym (ap (λ (p : PathNames). is_in_moved top p || is_moved (mark_at top p)) e)))

second : (a b : Bool) → (a || b) ≡ true → a ≡ false → b ≡ true
second true b e f = let bad : true ≡ false = f in cc
second false b e f = e

module _ (top : Entries) (below : StackView) (is : IsLayer top) (each : All IsLayer below.layers) where
  each_over : All IsLayer (over top below).layers
  each_over = all-over top below is each

  -- outside of a moved directory, by the entry there
  pub outside : (path : PathNames) → is_in_moved top path ≡ false → dereferenced_at top below path ≡ option_map (dereferenced_inode top below path) (entry_at top path)
  outside path e = ap (λ b. cond b (inode_shown (look (over top below) path)) (option_map (dereferenced_inode top below path) (entry_at top path))) e

  pub within : (path : PathNames) → is_in_moved top path ≡ true → dereferenced_at top below path ≡ inode_shown (look (over top below) path)
  within path e = ap (λ b. cond b (inode_shown (look (over top below) path)) (option_map (dereferenced_inode top below path) (entry_at top path))) e

  -- a moved entry is a directory
  pub moved_entry : (path : PathNames) → is_moved (mark_at top path) ≡ true → (inode : Inode) × (entry_at top path ≡ Some inode) × (is_directory inode ≡ true)
  moved_entry path moved = by (last-name path)
    where
      by : (path ≡ []) ⊎ ((directory : PathNames) × (name : PathName) × (path ≡ child_path directory name)) → (inode : Inode) × (entry_at top path ≡ Some inode) × (is_directory inode ≡ true)
      by (inl e) = let bad : false ≡ true = ap (λ (p : PathNames). is_moved (mark_at top p)) (sym e) ∙ moved in cc
      by (inr (directory, name, e)) = split (entry_at top path) refl
        where
          split : (found : Option Inode) → entry_at top path ≡ found → (inode : Inode) × (entry_at top path ≡ Some inode) × (is_directory inode ≡ true)
          split None f =
              let bad : false ≡ true = ap is_moved (sym (mark-child top directory name None (ap (entry_at top) (sym e) ∙ f))) ∙ (ap (λ (p : PathNames). is_moved (mark_at top p)) (sym e) ∙ moved) in cc
          split (Some inode) f =
              (inode, f, moved-directory inode (ap is_moved (sym (mark-child top directory name (Some inode) (ap (entry_at top) (sym e) ∙ f))) ∙ (ap (λ (p : PathNames). is_moved (mark_at top p)) (sym e) ∙ moved)))

  -- a directory of the top layer stays one
  pub directory_stays : (path : PathNames) → at_moved top path ≡ false → is_directory_at top path ≡ true → directory_found (dereferenced_at top below path) ≡ true
  directory_stays path free holds =
      let parts = neither (is_in_moved top path) (is_moved (mark_at top path)) (sym (at_moved-parts top path) ∙ free) in
      let found = directory-entry top path holds in
      let is_dir : is_directory found.0 ≡ true = ap directory_found (sym found.1) ∙ holds in
      ap directory_found (outside path parts.0 ∙ (λ j. option_map (λ inode. cond (parts.1 j) (unfolded inode) (cond (is_metacopy inode) (filled inode (look (over top below) path)) inode)) (found.1 j)))
      ∙ by found.0 (is_metacopy found.0) refl is_dir
    where
      by : (inode : Inode) (b : Bool) → is_metacopy inode ≡ b → is_directory inode ≡ true → is_directory (cond (is_metacopy inode) (filled inode (look (over top below) path)) inode) ≡ true
      by inode false m d = ap (λ c. is_directory (cond c (filled inode (look (over top below) path)) inode)) m ∙ d
      by inode true m d = let bad : false ≡ true = sym (metacopy-file inode m).0 ∙ d in cc

  pub parent-kept : (path : PathNames) (name : PathName) (inode : Inode) → dereferenced_at top below (child_path path name) ≡ Some inode → directory_found (dereferenced_at top below path) ≡ true
  parent-kept path name inode here = by (at_moved top path) refl
    where
      by : (b : Bool) → at_moved top path ≡ b → directory_found (dereferenced_at top below path) ≡ true
      by true m = split (is_in_moved top path) refl
        where
          shown : is_shown_directory (look (over top below) path) ≡ true
          shown = ShowsParents-holds (over top below) each_over path name
              (inode-shows (look (over top below) (child_path path name)) inode (sym (within (child_path path name) (in_moved-child top path name ∙ m)) ∙ here))

          split : (b : Bool) → is_in_moved top path ≡ b → directory_found (dereferenced_at top below path) ≡ true
          split true i = ap directory_found (within path i) ∙ inode-directory (look (over top below) path) shown
          split false i =
              let moved : is_moved (mark_at top path) ≡ true = second (is_in_moved top path) (is_moved (mark_at top path)) (sym (at_moved-parts top path) ∙ m) i in
              let found = moved_entry path moved in
              ap directory_found (outside path i ∙ (λ j. option_map (λ inode. cond (moved j) (unfolded inode) (cond (is_metacopy inode) (filled inode (look (over top below) path)) inode)) (found.1 j)))
              ∙ found.2
      by false m = split (entry_at top (child_path path name)) refl
        where
          split : (found : Option Inode) → entry_at top (child_path path name) ≡ found → directory_found (dereferenced_at top below path) ≡ true
          split None f =
              let bad : None ≡ Some inode = sym (outside (child_path path name) (in_moved-child top path name ∙ m) ∙ ap (option_map (dereferenced_inode top below (child_path path name))) f) ∙ here in cc
          split (Some i) f = directory_stays path m (entry-parent top path name i is f)

  module _ (deep : All IsLayer below.data_only) (sound : IsSoundStack (over top below)) where
    -- what it has can be stated
    unfolded_well : (inode : Inode) → is_directory inode ≡ true → is_sound_inode inode ≡ true → is_sound_inode (unfolded inode) ≡ true
    unfolded_well inode directory well =
        sound-with inode inode.kind (with_attribute (visible_attributes inode.attrs) opaque_name (codes "y")) well
        (directory-flag inode.kind (is_some (attribute (with_attribute (visible_attributes inode.attrs) opaque_name (codes "y")) metacopy_name)) directory)
        (are_attributes-with (visible_attributes inode.attrs) opaque_name (codes "y") (are_attributes-visible inode.attrs (sound_values inode well).attrs) opaque_named refl)

    full_well : (inode : Inode) (kind : Kind) → is_sound_inode inode ≡ true → is_sound_kind kind false ≡ true → is_sound_inode (record inode { kind = kind; attrs = full_attributes inode.attrs }) ≡ true
    full_well inode kind well kinds =
        let parts = both {a = list_all is_attribute inode.attrs} {b = ascends attribute_cmp inode.attrs} (sound_values inode well).attrs in
        sound-with inode kind (full_attributes inode.attrs) well
        (ap (λ o. is_sound_kind kind (is_some o)) (full-attribute inode.attrs metacopy_name false refl) ∙ kinds)
        (λ j. list_all-filter is_attribute (λ attr. not (name_eq attr.0 metacopy_name || name_eq attr.0 redirect_name)) inode.attrs parts.0 j
        && ascends-filter attribute_cmp (λ attr. not (name_eq attr.0 metacopy_name || name_eq attr.0 redirect_name)) inode.attrs parts.1 j)

    shown_kind : (path : PathNames) (inode : Inode) → look (over top below) path ≡ Shown inode → is_sound_kind inode.kind false ≡ true
    shown_kind path inode shown =
        let v = shown-visible (over top below) each_over path inode shown in
        ap (λ o. is_sound_kind inode.kind (is_some o)) (sym (ap (λ a. attribute a metacopy_name) (sym v.bare) ∙ attribute-hidden inode.attrs metacopy_name refl))
        ∙ (sound_values inode (shown-sound (over top below) each_over deep path inode shown)).kind

    inode_stated : (path : PathNames) (inode : Inode) → entry_at top path ≡ Some inode → is_sound_inode (dereferenced_inode top below path inode) ≡ true
    inode_stated path inode here = by (is_moved (mark_at top path)) refl (is_metacopy inode) (look (over top below) path) refl
      where
        well : is_sound_inode inode ≡ true
        well = lookup-all (λ (entry : Entry). is_sound_inode entry.1) path top inode is.sound here

        by : (m : Bool) → is_moved (mark_at top path) ≡ m → (c : Bool) (shown : Look) → look (over top below) path ≡ shown → is_sound_inode (cond m (unfolded inode) (cond c (filled inode shown) inode)) ≡ true
        by true m c shown s =
            let found = moved_entry path m in
            let one : Some found.0 ≡ Some inode = sym found.1 ∙ here in
            let same : found.0 ≡ inode = cc in
            unfolded_well inode (ap is_directory (sym same) ∙ found.2) well
        by false m false shown s = well
        by false m true (Shown i) s = full_well inode i.kind well (shown_kind path i s)
        by false m true Nothing s = well
        by false m true (Broken i) s = well

    inode_bare : (path : PathNames) (inode : Inode) → entry_at top path ≡ Some inode → has_escaped_name (dereferenced_inode top below path inode).attrs ≡ false
    inode_bare path inode here = by (is_moved (mark_at top path)) (is_metacopy inode) (look (over top below) path)
      where
        bare : has_escaped_name inode.attrs ≡ false
        bare = not_true (has_escaped_name inode.attrs) (lookup-all (λ (entry : Entry). not (has_escaped_name entry.1.attrs)) path top inode is.unescaped here)

        by : (m c : Bool) (shown : Look) → has_escaped_name (cond m (unfolded inode) (cond c (filled inode shown) inode)).attrs ≡ false
        by true c shown = unescaped-with (visible_attributes inode.attrs) opaque_name (codes "y") refl (unescaped-filter (λ attr. not (is_overlay_name attr.0)) inode.attrs bare)
        by false false shown = bare
        by false true (Shown i) = unescaped-filter (λ attr. not (name_eq attr.0 metacopy_name || name_eq attr.0 redirect_name)) inode.attrs bare
        by false true Nothing = bare
        by false true (Broken i) = bare

    stated : (path : PathNames) (inode : Inode) → dereferenced_at top below path ≡ Some inode → MayHave path inode
    stated path inode here = by (is_in_moved top path) refl
      where
        by : (b : Bool) → is_in_moved top path ≡ b → MayHave path inode
        by true m =
            let some : inode_shown (look (over top below) path) ≡ Some inode = sym (within path m) ∙ here in
            let shown = inode-whole (over top below) each_over sound path inode some in
            record {
              named = shown-named (over top below) each_over path (inode-shows (look (over top below) path) inode some);
              well = shown-sound (over top below) each_over deep path inode shown;
              bare = shown-unescaped (over top below) each_over path inode shown;
            }
        by false m = split (entry_at top path) refl
          where
            split : (found : Option Inode) → entry_at top path ≡ found → MayHave path inode
            split None f = let bad : None ≡ Some inode = sym (outside path m ∙ ap (option_map (dereferenced_inode top below path)) f) ∙ here in cc
            split (Some i) f =
                let one : Some (dereferenced_inode top below path i) ≡ Some inode = sym (outside path m ∙ ap (option_map (dereferenced_inode top below path)) f) ∙ here in
                let same : dereferenced_inode top below path i ≡ inode = cc in
                record {
                  named = lookup-all (λ (entry : Entry). has_names entry.0) path top i is.named f;
                  well = ap is_sound_inode (sym same) ∙ inode_stated path i f;
                  bare = ap (λ (n : Inode). has_escaped_name n.attrs) (sym same) ∙ inode_bare path i f;
                }

    layer-but_limits : (entries : Entries) → ascends entry_cmp entries ≡ true → IsDereferenced entries top below → list_all (λ entry. is_within_limits entry.0) entries ≡ true → nat_le (length entries) entry_limit ≡ true → IsLayer entries
    layer-but_limits entries up made = layer-made (dereferenced_at top below) entries up made (directory_stays [] refl is.rooted) parent-kept stated

pub DerefGivesLayer-holds : DerefGivesLayer
DerefGivesLayer-holds top below is each deep sound entries up made kept =
    let parts = limit-parts entries kept in layer-but_limits top below is each deep sound entries up made parts.0 parts.1
