-- From the parcels to the new layer.
use Rattle.std.proofs.Common.{◌≡◌, ◌<◌, Bool, true, false, cond, Some, List, [], length, refl, sym, ap, ◌∙◌, subst}
use Rattle.std.specs.Prelude.{All}
use Rattle.std.specs.Option.{option_map}
use Rattle.ovl_inode.specs.declared.inodes.Inode.{Inode}
use Rattle.ovl_inode.specs.Marks.{is_directory, is_metacopy}
use Rattle.ovl_layer.specs.Layers.{entry_at, IsLayer}
use Rattle.ovl_lookup.specs.Stacks.{StackView}
use Rattle.ovl_lookup.specs.Merged.{look}
use Rattle.ovl_lookup.specs.Sound.{IsSoundStack}
use Rattle.ovl_lookup.specs.Words.{over, top_layer, lower_layers}
use Rattle.ovl_lookup.proofs.LawsOfInodes.{metacopy-file}
use Rattle.ovl_lookup.proofs.LawsOfLooks.{top-over, top-layer, lower-layers}
use Rattle.ovl_lookup.proofs.LawsOfWalks.{directory_found}
use Rattle.ovl_rewrite.specs.Passes.{InodesParcel}
use Rattle.ovl_rewrite.specs.NewLayers.{IsToldWithin}
use Rattle.ovl_rewrite.specs.Limits.{IsLayerWithinLimits}
use Rattle.ovl_deref.specs.Deref.{filled}
use Rattle.ovl_deref.specs.Directories.{new_at, names_in, deref_depth, IsDerefWalk}
use Rattle.ovl_deref.proofs.DirectoryLemmas.{told}
use Rattle.ovl_deref.proofs.LayerLemmas.{DerefGivesLayer-holds}

module _ (stack : StackView) (each : All IsLayer stack.layers) (some : 0 < length stack.layers) where
  -- the root stays
  root-stays : (inode : Inode) → entry_at (top_layer stack) [] ≡ Some inode → new_at stack [] ≡ Some inode
  root-stays inode here = ap (option_map (λ i. cond (is_metacopy i) (filled i (look (over (top_layer stack) (lower_layers stack)) [])) i)) here ∙ by (is_metacopy inode) refl
    where
      directory : is_directory inode ≡ true
      directory = ap directory_found (sym here) ∙ (top-layer stack some each).rooted

      by : (b : Bool) → is_metacopy inode ≡ b → Some (cond (is_metacopy inode) (filled inode (look (over (top_layer stack) (lower_layers stack)) [])) inode) ≡ Some inode
      by false e = ap (λ b. Some (cond b (filled inode (look (over (top_layer stack) (lower_layers stack)) [])) inode)) e
      by true e = let bad : false ≡ true = sym (metacopy-file inode e).0 ∙ directory in cc

  -- the plain walk gives the new layer
  pub walk-tells : (root : Inode) (views : List InodesParcel) → entry_at (top_layer stack) [] ≡ Some root → IsDerefWalk stack views → IsToldWithin (new_at stack) root views
  walk-tells root views here walk = record { names = names_in stack; deepest = deref_depth stack; told = told stack each some; rooted = root-stays root here; walk = walk }

  -- over a sound stack it is a layer, but for the limits
  pub new-made : All IsLayer stack.data_only → IsSoundStack stack → IsLayerWithinLimits (new_at stack)
  new-made deep sound =
      DerefGivesLayer-holds (top_layer stack) (lower_layers stack) (top-layer stack some each) (lower-layers stack some each) deep (subst IsSoundStack (sym (top-over stack some)) sound)
