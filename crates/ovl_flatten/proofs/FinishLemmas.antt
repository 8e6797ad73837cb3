-- From the parcels to the flattened layer.
use Rattle.std.proofs.Common.{◌≡◌, ◌<◌, Some, List, [], length, sym, ap, ◌∙◌}
use Rattle.std.specs.Prelude.{All}
use Rattle.std.specs.Option.{option_map}
use Rattle.ovl_inode.specs.declared.inodes.Inode.{Inode}
use Rattle.ovl_inode.specs.Inodes.{visible}
use Rattle.ovl_layer.specs.Layers.{entry_at, IsLayer}
use Rattle.ovl_lookup.specs.Stacks.{StackView}
use Rattle.ovl_lookup.specs.Words.{top_layer}
use Rattle.ovl_lookup.proofs.LawsOfLooks.{top-layer}
use Rattle.ovl_lookup.proofs.LawsOfWalks.{directory-entry}
use Rattle.ovl_rewrite.specs.Passes.{InodesParcel}
use Rattle.ovl_rewrite.specs.NewLayers.{IsToldWithin}
use Rattle.ovl_lookup.specs.Passes.{kids_along}
use Rattle.ovl_flatten.specs.Flatten.{flattened_at}
use Rattle.ovl_flatten.specs.Directories.{flatten_depth, IsFlattenWalk}
use Rattle.ovl_flatten.proofs.DirectoryLemmas.{told}
use Rattle.ovl_flatten.proofs.FlattenLemmas.{root-shown}

module _ (stack : StackView) (each : All IsLayer stack.layers) (some : 0 < length stack.layers) where
  -- its root is the visible one of the topmost layer
  root-told : (root : Inode) → option_map visible (entry_at (top_layer stack) []) ≡ Some root → flattened_at stack [] ≡ Some root
  root-told root is =
      let own = directory-entry (top_layer stack) [] (top-layer stack some each).rooted in
      root-shown stack each some own.0 own.1 ∙ (ap (option_map visible) (sym own.1) ∙ is)

  -- the plain walk gives the flattened layer
  pub walk-tells : (root : Inode) (views : List InodesParcel) → option_map visible (entry_at (top_layer stack) []) ≡ Some root → IsFlattenWalk stack views → IsToldWithin (flattened_at stack) root views
  walk-tells root views here walk = record { names = kids_along stack; deepest = flatten_depth stack; told = told stack each; rooted = root-told root here; walk = walk }
