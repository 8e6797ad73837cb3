-- The entries of a merge of a sound stack are a layer, but for the limits of a manifest.
use Rattle.std.proofs.Common.{◌≡◌, ℕ, Bool, true, false, cond, Option, Some, None, is_some, List, [], ◌∷◌, length, refl, sym, ap, ◌∙◌, subst, inl, inr, ◌⊎◌}
use Rattle.std.specs.Prelude.{not, ◌&&◌, nat_le, codes}
use Rattle.std.specs.List.{list_all, All}
use Rattle.std.proofs.lemmas.List.Folds.{list_all-append}
use Rattle.ovl_names.specs.Names.{PathName, is_name}
use Rattle.ovl_names.specs.Order.{ascends}
use Rattle.ovl_names.specs.Paths.{PathNames, path_text, child_path, parent_path, has_names}
use Rattle.ovl_names.proofs.Ascending.{both, not_true}
use Rattle.ovl_inode.specs.declared.inodes.Inode.{Inode}
use Rattle.ovl_inode.specs.declared.inodes.Kind.{Kind}
use Rattle.ovl_inode.specs.Attributes.{Attributes, attribute, is_attribute_name, are_attributes, visible_attributes, with_attribute, has_escaped_name, is_escaped_name, redirect_name, metacopy_name, opaque_name}
use Rattle.ovl_inode.specs.Bytes.{are_bytes}
use Rattle.ovl_inode.specs.Marks.{is_directory, is_regular, is_metacopy, has_metacopy}
use Rattle.ovl_inode.specs.Inodes.{visible}
use Rattle.ovl_inode.specs.Sound.{is_sound_inode, is_sound_kind}
use Rattle.ovl_inode.proofs.AttributeLemmas.{are_attributes-visible, are_attributes-with}
use Rattle.ovl_inode.proofs.SoundLaws.{sound_values, sound-with, kind-full}
use Rattle.ovl_inode.proofs.OnLiterals.{inode_on_literals}
use Rattle.ovl_layer.specs.Layers.{Entry, Entries, IsLayer, entry_cmp, entry_limit, is_within_limits}
use Rattle.ovl_lookup.specs.Trace.{things_found}
use Rattle.ovl_lookup.specs.Merged.{look, shows, shown_of, data_of}
use Rattle.ovl_lookup.specs.Sound.{IsSoundStack}
use Rattle.ovl_lookup.proofs.LawsOfPaths.{parent_path-child, all-first, all-rest, last-name}
use Rattle.ovl_lookup.proofs.LawsOfEntries.{layer-made}
use Rattle.ovl_lookup.proofs.LawsOfInodes.{metacopy-file, attribute-with, data-kind, sound-visible, unescaped-filter}
use Rattle.ovl_lookup.proofs.LawsOfFound.{shown_of-contents, any_found, data-regular, found-all, data-all}
use Rattle.ovl_lookup.proofs.LawsOfLooks.{shows-found, shown-named}
use Rattle.ovl_lookup.proofs.LawsOfWalks.{directory_found}
use Rattle.ovl_rewrite.proofs.InodeLemmas.{opaque_named, unescaped-with, directory-flag}
use Rattle.ovl_rewrite.proofs.LimitLemmas.{limit-parts}
use Rattle.ovl_merge.specs.Places.{Merge, whole, two_layers, lower_path, first_hit, passes, shows_own_directory, is_hidden, reach, gets_opaque, natural, base, child_of, shows_at, last_name}
use Rattle.ovl_merge.specs.MergeDown.{with_value, with_contents, merged_directory, merged_metacopy, unreached_metacopy, kept_place, merged_inode, merged_entry, merged_entry_of, needs_whiteout, new_whiteout, IsMergedDown}
use Rattle.ovl_merge.specs.Laws.{MergeGivesLayer}
use Rattle.ovl_lookup.proofs.LawsOfNames.{name_facts, walk-named}
use Rattle.ovl_merge.proofs.ByteLemmas.{utf8-bytes}
use Rattle.ovl_merge.proofs.Redirects.{slashed-utf8}
use Rattle.ovl_merge.proofs.Values.{attribute-other, with_metacopy}
use Rattle.ovl_merge.proofs.Firsts.{whole-first, rest_of, first-cons, first_of-hits}
use Rattle.ovl_merge.proofs.Inodes.{merged-directory, merged-metacopy, merged-other, redirected-cases}
use Rattle.ovl_merge.proofs.SoundHits.{sound-hit}
use Rattle.ovl_merge.proofs.Core.{natural-child, reach-is, kept-named}
use Rattle.ovl_merge.proofs.MergedEntries.{entry-directory, entry-stands, root-entry, two}

-- ---- the values that are written

redirect_named : is_attribute_name redirect_name ≡ true
unfolding inode_on_literals
redirect_named = refl

metacopy_named : is_attribute_name metacopy_name ≡ true
unfolding inode_on_literals
metacopy_named = refl

text-bytes : (place : PathNames) → has_names place ≡ true → are_bytes (path_text place) ≡ true
text-bytes [] named = refl
text-bytes (name ∷ names) named = utf8-bytes (path_text (name ∷ names)) (slashed-utf8 (name ∷ names) named)

last-bytes : (place : PathNames) → has_names place ≡ true → are_bytes (last_name place) ≡ true
last-bytes [] named = refl
last-bytes (name ∷ []) named = utf8-bytes name (name_facts name (both {a = is_name name} named).0).utf8
last-bytes (name ∷ other ∷ names) named = last-bytes (other ∷ names) (both {a = is_name name} {b = has_names (other ∷ names)} named).1

module _ (m : Merge) (each : All IsLayer (whole m).layers) where
  pub upper : IsLayer m.upper
  upper = all-first IsLayer m.upper (m.lower ∷ m.rest.layers) each

  pub lower : IsLayer m.lower
  lower = all-first IsLayer m.lower m.rest.layers (all-rest IsLayer m.upper (m.lower ∷ m.rest.layers) each)

  pub rest : All IsLayer m.rest.layers
  rest = all-rest IsLayer m.lower m.rest.layers (all-rest IsLayer m.upper (m.lower ∷ m.rest.layers) each)

  -- ---- names

  hit-shown : (path : PathNames) (inode : Inode) → first_hit m path ≡ Some inode → shows (two_layers m) path ≡ true
  hit-shown path inode hit =
      let found = things_found (two_layers m).layers path in
      shows-found (two_layers m) path ∙ ap any_found (first-cons found inode (sym (first_of-hits found) ∙ hit))

  pub own-shown : (path : PathNames) → shows_own_directory m path ≡ true → shows (two_layers m) path ≡ true
  own-shown path own = by (first_hit m path) refl
    where
      by : (o : Option Inode) → first_hit m path ≡ o → shows (two_layers m) path ≡ true
      by None e = let bad : false ≡ true = sym (ap (passes is_directory) e) ∙ own in cc
      by (Some inode) e = hit-shown path inode e

  own-named : (path : PathNames) → shows (two_layers m) path ≡ true → has_names path ≡ true
  own-named path shown = shown-named (two_layers m) (two m upper lower) path shown

  -- the last name of a place that the rest shows is one
  place-name : (place : Option PathNames) (name : PathName) → shows_at m.rest (child_of place name) ≡ true → has_names (name ∷ []) ≡ true
  place-name None name shown = let bad : false ≡ true = shown in cc
  place-name (Some place) name shown =
      (both {a = has_names place} {b = has_names (name ∷ [])} (sym (list_all-append is_name place (name ∷ [])) ∙ shown-named m.rest rest (child_path place name) shown)).1

  hidden-named : (path : PathNames) → needs_whiteout m path ≡ true → has_names path ≡ true
  hidden-named path needs = by (last-name path)
    where
      by : (path ≡ []) ⊎ ((directory : PathNames) × (name : PathName) × (path ≡ child_path directory name)) → has_names path ≡ true
      by (inl e) = ap has_names e
      by (inr (directory, name, e)) =
          let there : needs_whiteout m (child_path directory name) ≡ true = ap (needs_whiteout m) (sym e) ∙ needs in
          let parts = both {a = is_hidden m (child_path directory name) && shows_own_directory m (parent_path (child_path directory name))} {b = shows_at m.rest (natural m (child_path directory name))} there in
          let own : shows_own_directory m directory ≡ true = ap (shows_own_directory m) (sym (parent_path-child directory name)) ∙ (both {a = is_hidden m (child_path directory name)} {b = shows_own_directory m (parent_path (child_path directory name))} parts.0).1 in
          let last = place-name (base m directory) name (ap (shows_at m.rest) (sym (natural-child m directory name)) ∙ parts.1) in
          ap has_names e ∙ (list_all-append is_name directory (name ∷ []) ∙ (λ j. own-named directory (own-shown directory own) j && last j))

  -- a reach has names
  reach-named : (path place : PathNames) → has_names path ≡ true → reach m path ≡ Some place → has_names place ≡ true
  reach-named path place named e =
      ap has_names (reach-is m path place e)
      ∙ walk-named m.lower (lower_path m path) (walk-named m.upper path named)

  -- ---- what an entry of the merge is: a new inode, or a whiteout

  entry-cases : (P : Inode → Type 0) (path : PathNames) (inode : Inode) → merged_entry m path ≡ Some inode
      → ((first : Inode) → first_hit m path ≡ Some first → P (merged_inode m path first)) → (needs_whiteout m path ≡ true → P new_whiteout) → P inode
  entry-cases P path inode here made white = by (first_hit m path) refl
    where
      needs : (b : Bool) → needs_whiteout m path ≡ b → cond b (Some new_whiteout) None ≡ Some inode → P inode
      needs true w k = let same : new_whiteout ≡ inode = cc in subst P same (white w)
      needs false w k = let bad : None ≡ Some inode = k in cc

      by : (o : Option Inode) → first_hit m path ≡ o → P inode
      by (Some first) hit =
          let some : Some (merged_inode m path first) ≡ Some inode = sym (ap (merged_entry_of m path) hit) ∙ here in
          let same : merged_inode m path first ≡ inode = cc in subst P same (made first hit)
      by None hit = needs (needs_whiteout m path) refl (sym (ap (merged_entry_of m path) hit) ∙ here)

  entry-named : (path : PathNames) (inode : Inode) → merged_entry m path ≡ Some inode → has_names path ≡ true
  entry-named path inode here = entry-cases (λ _. has_names path ≡ true) path inode here (λ first hit. own-named path (hit-shown path first hit)) (λ needs. hidden-named path needs)

  -- ---- the new inode of what is found first

  module _ (path : PathNames) (inode : Inode) (hit : first_hit m path ≡ Some inode) where
    first-all : (test : Inode → Bool) → ((layer : Entries) → IsLayer layer → list_all (λ (entry : Entry). test entry.1) layer ≡ true) → test inode ≡ true
    first-all test of =
        (both {a = test inode} {b = list_all test (rest_of (things_found (whole m).layers path))}
        (ap (list_all test) (sym (whole-first m path inode hit)) ∙ found-all test of (whole m).layers each path)).0

    bare : has_escaped_name inode.attrs ≡ false
    bare = not_true (has_escaped_name inode.attrs) (first-all (λ i. not (has_escaped_name i.attrs)) (λ layer is. is.unescaped))

    well : is_sound_inode inode ≡ true
    well = first-all is_sound_inode (λ layer is. is.sound)

    -- attributes that a manifest may state
    abbrev AreFine : Attributes → Type 0
    AreFine attrs = (are_attributes attrs ≡ true) × (has_escaped_name attrs ≡ false)

    shown-fine : AreFine (visible_attributes inode.attrs)
    shown-fine = (are_attributes-visible inode.attrs (sound_values inode well).attrs, unescaped-filter _ inode.attrs bare)

    with-fine : (attrs : Attributes) (name value : List ℕ) → AreFine attrs → is_attribute_name name ≡ true → is_escaped_name name ≡ false → are_bytes value ≡ true → AreFine (with_attribute attrs name value)
    with-fine attrs name value fine named plain bytes = (are_attributes-with attrs name value fine.0 named bytes, unescaped-with attrs name value plain fine.1)

    copied-fine : AreFine (with_metacopy inode).attrs
    copied-fine = with-fine (visible_attributes inode.attrs) metacopy_name [] shown-fine metacopy_named refl refl

    abbrev IsFine : Inode → Type 0
    IsFine new = (is_sound_inode new ≡ true) × (has_escaped_name new.attrs ≡ false)

    fine-with : (kind : Kind) (attrs : Attributes) → is_sound_kind kind (is_some (attribute attrs metacopy_name)) ≡ true → AreFine attrs → IsFine (record inode { kind = kind; attrs = attrs })
    fine-with kind attrs kinds fine = (sound-with inode kind attrs well kinds fine.0, fine.1)

    directory-fine : is_directory inode ≡ true → IsFine (merged_inode m path inode)
    directory-fine d = subst IsFine (sym (merged-directory m path inode d)) (by (reach m path) refl)
      where
        of : (attrs : Attributes) → AreFine attrs → IsFine (record inode { attrs = attrs })
        of attrs fine = fine-with inode.kind attrs (directory-flag inode.kind (is_some (attribute attrs metacopy_name)) d) fine

        opaque : (b : Bool) → IsFine (cond b (with_value (visible inode) opaque_name (codes "y")) (visible inode))
        opaque true = of (with_attribute (visible_attributes inode.attrs) opaque_name (codes "y")) (with-fine (visible_attributes inode.attrs) opaque_name (codes "y") shown-fine opaque_named refl refl)
        opaque false = of (visible_attributes inode.attrs) shown-fine

        by : (o : Option PathNames) → reach m path ≡ o → IsFine (merged_directory m path inode o)
        by None e = opaque (gets_opaque m path)
        by (Some place) e =
            let named = reach-named path place (own-named path (hit-shown path inode hit)) e in
            redirected-cases IsFine (visible inode) place (of (visible_attributes inode.attrs) shown-fine)
            (of (with_attribute (visible_attributes inode.attrs) redirect_name (last_name place)) (with-fine (visible_attributes inode.attrs) redirect_name (last_name place) shown-fine redirect_named refl (last-bytes place named)))
            (of (with_attribute (visible_attributes inode.attrs) redirect_name (path_text place)) (with-fine (visible_attributes inode.attrs) redirect_name (path_text place) shown-fine redirect_named refl (text-bytes place named)))
            m path

    module _ (deep : All IsLayer m.rest.data_only) (sound : IsSoundStack (whole m)) (file : is_directory inode ≡ false) where
      -- a metacopy file without a reach has the contents that are shown
      filled-fine : is_metacopy inode ≡ true → IsFine (with_contents (visible inode) (look (whole m) path))
      filled-fine meta =
          let below : List Inode = rest_of (things_found (whole m).layers path) in
          let has = (sound-hit m upper lower sound path inode hit file).0 meta in
          let found : data_of m.rest.data_only (inode ∷ below) ≡ Some has.0 = ap (data_of m.rest.data_only) (sym (whole-first m path inode hit)) ∙ has.1 in
          let shown : look (whole m) path ≡ _ = ap (shown_of m.rest.data_only) (whole-first m path inode hit) ∙ shown_of-contents m.rest.data_only inode has.0 below (metacopy-file inode meta).1 found in
          let all : list_all is_sound_inode (inode ∷ below) ≡ true = ap (list_all is_sound_inode) (sym (whole-first m path inode hit)) ∙ found-all is_sound_inode (λ layer is. is.sound) (whole m).layers each path in
          let kinds : is_sound_kind has.0.kind false ≡ true = data-kind has.0 (data-regular m.rest.data_only (inode ∷ below) has.0 found) (data-all is_sound_inode (λ layer is. is.sound) m.rest.data_only deep (inode ∷ below) has.0 all found) in
          subst IsFine (sym (ap (with_contents (visible inode)) shown)) (sound-visible inode has.0.kind well kinds, shown-fine.1)

      -- one with a reach stays a metacopy file
      copied-kind : (attrs : Attributes) → is_metacopy inode ≡ true → attribute attrs metacopy_name ≡ Some [] → is_sound_kind inode.kind (is_some (attribute attrs metacopy_name)) ≡ true
      copied-kind attrs meta has =
          ap (is_sound_kind inode.kind) (ap is_some has ∙ sym (both {a = is_regular inode} {b = has_metacopy inode} (metacopy-file inode meta).1).1) ∙ (sound_values inode well).kind

      copied : attribute (with_metacopy inode).attrs metacopy_name ≡ Some []
      copied = attribute-with (visible_attributes inode.attrs) metacopy_name []

      moved-fine : (value : List ℕ) → is_metacopy inode ≡ true → are_bytes value ≡ true → IsFine (with_value (with_metacopy inode) redirect_name value)
      moved-fine value meta bytes =
          fine-with inode.kind (with_attribute (with_metacopy inode).attrs redirect_name value)
          (copied-kind (with_attribute (with_metacopy inode).attrs redirect_name value) meta (attribute-other (with_metacopy inode).attrs redirect_name value metacopy_name refl ∙ copied))
          (with-fine (with_metacopy inode).attrs redirect_name value copied-fine redirect_named refl bytes)

      metacopy-fine : is_metacopy inode ≡ true → (o : Option PathNames) → reach m path ≡ o → IsFine (merged_metacopy m path inode o)
      metacopy-fine meta None e = unreached (kept_place m path) refl
        where
          unreached : (o : Option PathNames) → kept_place m path ≡ o → IsFine (unreached_metacopy m path inode o)
          unreached None k = filled-fine meta
          unreached (Some place) k = moved-fine (path_text place) meta (text-bytes place (kept-named m path place k).0)
      metacopy-fine meta (Some place) e =
          let named = reach-named path place (own-named path (hit-shown path inode hit)) e in
          redirected-cases IsFine (with_metacopy inode) place
          (fine-with inode.kind (with_metacopy inode).attrs (copied-kind (with_metacopy inode).attrs meta copied) copied-fine)
          (moved-fine (last_name place) meta (last-bytes place named)) (moved-fine (path_text place) meta (text-bytes place named)) m path

      file-fine : (b : Bool) → is_metacopy inode ≡ b → IsFine (merged_inode m path inode)
      file-fine true meta = subst IsFine (sym (merged-metacopy m path inode file meta)) (metacopy-fine meta (reach m path) refl)
      file-fine false other =
          let full = (sound-hit m upper lower sound path inode hit file).1 other in
          subst IsFine (sym (merged-other m path inode file other))
          (sound-visible inode inode.kind well (kind-full inode.kind (has_metacopy inode) full (sound_values inode well).kind), shown-fine.1)

    inode-fine : All IsLayer m.rest.data_only → IsSoundStack (whole m) → IsFine (merged_inode m path inode)
    inode-fine deep sound = by (is_directory inode) refl
      where
        by : (b : Bool) → is_directory inode ≡ b → IsFine (merged_inode m path inode)
        by true d = directory-fine d
        by false d = file-fine deep sound d (is_metacopy inode) refl

  -- ---- the layer

  module _ (deep : All IsLayer m.rest.data_only) (sound : IsSoundStack (whole m)) (entries : Entries) (up : ascends entry_cmp entries ≡ true) (is : IsMergedDown m entries) where
    parent : (directory : PathNames) (name : PathName) (inode : Inode) → merged_entry m (child_path directory name) ≡ Some inode → directory_found (merged_entry m directory) ≡ true
    parent directory name inode there = entry-directory m upper lower directory ∙ (entry-stands m upper lower directory name inode there).0

    fine : (path : PathNames) (inode : Inode) → merged_entry m path ≡ Some inode → (is_sound_inode inode ≡ true) × (has_escaped_name inode.attrs ≡ false)
    fine path inode there =
        entry-cases (λ i. (is_sound_inode i ≡ true) × (has_escaped_name i.attrs ≡ false)) path inode there (λ first hit. inode-fine path first hit deep sound) (λ needs. (refl, refl))

    layer-but_limits : list_all (λ entry. is_within_limits entry.0) entries ≡ true → nat_le (length entries) entry_limit ≡ true → IsLayer entries
    layer-but_limits =
        layer-made (merged_entry m) entries up is (root-entry m upper lower) parent
        (λ path inode there. record { named = entry-named path inode there; well = (fine path inode there).0; bare = (fine path inode there).1 })

pub MergeGivesLayer-holds : MergeGivesLayer
MergeGivesLayer-holds m each deep sound entries up is kept =
    let parts = limit-parts entries kept in layer-but_limits m each deep sound entries up is parts.0 parts.1
