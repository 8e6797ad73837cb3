-- What a flattened layer has, that it shows by itself what was shown, and that it is sound and has no marks.
use Rattle.std.proofs.Common.{◌≡◌, ◌<◌, true, false, Option, Some, None, [], length, refl, sym, ap, ◌∙◌}
use Rattle.std.specs.Prelude.{nat_le}
use Rattle.std.specs.List.{list_all, All}
use Rattle.ovl_names.specs.Names.{PathName}
use Rattle.ovl_names.specs.Order.{ascends}
use Rattle.ovl_names.specs.Paths.{PathNames, child_path}
use Rattle.ovl_inode.specs.declared.inodes.Inode.{Inode}
use Rattle.ovl_inode.specs.Inodes.{visible}
use Rattle.ovl_layer.specs.Layers.{Entries, IsLayer, entry_at, entry_cmp, entry_limit, is_within_limits}
use Rattle.ovl_lookup.specs.declared.looks.Look.{Look}
use Rattle.ovl_lookup.specs.declared.looks.Look.TheVariants.{Nothing, Shown, Broken}
use Rattle.ovl_lookup.specs.Stacks.{StackView}
use Rattle.ovl_lookup.specs.Merged.{look}
use Rattle.ovl_lookup.specs.ShownInodes.{inode_shown}
use Rattle.ovl_lookup.specs.Sound.{IsSoundStack}
use Rattle.ovl_lookup.specs.Unmarked.{alone, HasNoMarks}
use Rattle.ovl_lookup.specs.Words.{top_layer, lower_layers}
use Rattle.ovl_lookup.proofs.LawsOfEntries.{layer-made}
use Rattle.ovl_lookup.proofs.LawsOfLooks.{ShowsParents-holds, entry-directory_shown, inode-directory, inode-shows, inode-whole, is_broken, never-broken, shown-named, shown-sound, shown-unescaped, shown-visible, top-layer, top-over}
use Rattle.ovl_lookup.proofs.LawsOfUnmarked.{shown-alone, nothing-alone, sound-alone}
use Rattle.ovl_lookup.proofs.LawsOfWalks.{directory_found, directory-entry}
use Rattle.ovl_rewrite.proofs.LimitLemmas.{limit-parts}
use Rattle.ovl_flatten.specs.Flatten.{flattened_at, IsFlattened}
use Rattle.ovl_flatten.specs.Laws.{FlattenKeepsTree, FlattenIsSound, FlattenHasNoMarks, FlattenGivesLayer, FlattenIsTheOne}

-- ---- what is shown

-- what has an entry in it is a directory
pub parent-shown : (stack : StackView) → All IsLayer stack.layers → (path : PathNames) (name : PathName) (inode : Inode) → flattened_at stack (child_path path name) ≡ Some inode → directory_found (flattened_at stack path) ≡ true
parent-shown stack each path name inode here =
    inode-directory (look stack path) (ShowsParents-holds stack each path name (inode-shows (look stack (child_path path name)) inode here))

-- the root is the visible one of the topmost layer
pub root-shown : (stack : StackView) → All IsLayer stack.layers → 0 < length stack.layers → (own : Inode) → entry_at (top_layer stack) [] ≡ Some own → flattened_at stack [] ≡ Some (visible own)
root-shown stack each some own here =
    ap (λ (s : StackView). flattened_at s []) (sym (top-over stack some))
    ∙ ap inode_shown (entry-directory_shown (top_layer stack) (lower_layers stack) [] own (top-layer stack some each) here (ap directory_found (sym here) ∙ (top-layer stack some each).rooted))

root-directory : (stack : StackView) → All IsLayer stack.layers → 0 < length stack.layers → directory_found (flattened_at stack []) ≡ true
root-directory stack each some =
    let found = directory-entry (top_layer stack) [] (top-layer stack some each).rooted in
    ap directory_found (root-shown stack each some found.0 found.1)
    ∙ (ap directory_found (sym found.1) ∙ (top-layer stack some each).rooted)

-- ---- what a sound stack shows

module _ (stack : StackView) (each : All IsLayer stack.layers) (sound : IsSoundStack stack) where
  -- it is shown whole
  pub shown-whole : (path : PathNames) (inode : Inode) → flattened_at stack path ≡ Some inode → look stack path ≡ Shown inode
  shown-whole path inode some = inode-whole stack each sound path inode some

  module _ (layer : Entries) (made : IsFlattened layer stack) where
    pub unmarked : HasNoMarks layer
    unmarked path inode here = let v = shown-visible stack each path inode (shown-whole path inode (sym (made path) ∙ here)) in (v.bare, v.thing)

    pub tree-kept : IsLayer layer → (path : PathNames) → look (alone layer) path ≡ look stack path
    tree-kept is path = by (look stack path) refl (never-broken stack each sound path)
      where
        by : (shown : Look) → look stack path ≡ shown → is_broken shown ≡ false → look (alone layer) path ≡ look stack path
        by Nothing e b = nothing-alone layer is unmarked path (made path ∙ ap inode_shown e) ∙ sym e
        by (Shown inode) e b = shown-alone layer is unmarked path inode (made path ∙ ap inode_shown e) ∙ sym e
        by (Broken inode) e b = let bad : true ≡ false = b in cc

  -- ---- it is a layer, but for the limits

  pub layer-but_limits : 0 < length stack.layers → All IsLayer stack.data_only → (entries : Entries) → ascends entry_cmp entries ≡ true → IsFlattened entries stack → list_all (λ entry. is_within_limits entry.0) entries ≡ true → nat_le (length entries) entry_limit ≡ true → IsLayer entries
  layer-but_limits some deep entries up made =
      layer-made (flattened_at stack) entries up made (root-directory stack each some) (parent-shown stack each)
      (λ path inode here. record {
        named = shown-named stack each path (inode-shows (look stack path) inode here);
        well = shown-sound stack each deep path inode (shown-whole path inode here);
        bare = shown-unescaped stack each path inode (shown-whole path inode here);
      })

-- ---- the laws

pub FlattenKeepsTree-holds : FlattenKeepsTree
FlattenKeepsTree-holds stack each sound layer is made path = tree-kept stack each sound layer made is path

pub FlattenHasNoMarks-holds : FlattenHasNoMarks
FlattenHasNoMarks-holds stack each sound layer made = unmarked stack each sound layer made

pub FlattenIsSound-holds : FlattenIsSound
FlattenIsSound-holds stack each sound layer is made = sound-alone layer is (unmarked stack each sound layer made)

pub FlattenGivesLayer-holds : FlattenGivesLayer
FlattenGivesLayer-holds stack some each deep sound entries up made kept =
    let parts = limit-parts entries kept in layer-but_limits stack each sound some deep entries up made parts.0 parts.1

pub FlattenIsTheOne-holds : FlattenIsTheOne
FlattenIsTheOne-holds stack layer is bare same path = by (entry_at layer path) refl
  where
    by : (own : Option Inode) → entry_at layer path ≡ own → entry_at layer path ≡ flattened_at stack path
    by None e = e ∙ ap inode_shown (sym (nothing-alone layer is bare path e) ∙ same path)
    by (Some inode) e = e ∙ ap inode_shown (sym (shown-alone layer is bare path inode e) ∙ same path)
