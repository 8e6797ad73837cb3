-- What the flattened layer has in a directory: its names are in order, and all that it has there has one of them.
use Rattle.std.proofs.Common.{◌≡◌, ◌≤◌, true, false, Option, Some, None, length, refl, ◌∙◌}
use Rattle.std.specs.Prelude.{All}
use Rattle.std.specs.List.{list_any}
use Rattle.ovl_names.specs.Names.{PathName, name_eq}
use Rattle.ovl_names.specs.Paths.{PathNames, child_path}
use Rattle.ovl_inode.specs.declared.inodes.Inode.{Inode}
use Rattle.ovl_layer.specs.Layers.{IsLayer}
use Rattle.ovl_lookup.specs.Stacks.{StackView}
use Rattle.ovl_lookup.specs.Passes.{kids_along}
use Rattle.ovl_lookup.specs.Merged.{look}
use Rattle.ovl_lookup.proofs.LawsOfWalks.{directory_found}
use Rattle.ovl_lookup.proofs.LawsOfKids.{kids-ascend, kids-same}
use Rattle.ovl_lookup.proofs.LawsOfLooks.{ShowsWithinDepth-holds, inode-shows}
use Rattle.ovl_rewrite.specs.NewLayers.{AreNamesOf, TellsLayer}
use Rattle.ovl_rewrite.proofs.DirectoryLemmas.{layer-told}
use Rattle.ovl_flatten.specs.Flatten.{flattened_at}
use Rattle.ovl_flatten.specs.Directories.{flatten_kids, flatten_out, flatten_depth}
use Rattle.ovl_flatten.proofs.FlattenLemmas.{parent-shown}

module _ (stack : StackView) (each : All IsLayer stack.layers) where
  named : (directory : PathNames) (name : PathName) (inode : Inode) → flattened_at stack (child_path directory name) ≡ Some inode → list_any (name_eq name) (kids_along stack directory) ≡ true
  named directory name inode here = kids-same stack each directory name ∙ inode-shows (look stack (child_path directory name)) inode here

  -- ---- the bound on depth

  directory-limited : (path : PathNames) → directory_found (flattened_at stack path) ≡ true → length path ≤ flatten_depth stack
  directory-limited path = by (flattened_at stack path) refl
    where
      by : (found : Option Inode) → flattened_at stack path ≡ found → directory_found found ≡ true → length path ≤ flatten_depth stack
      by None e is = let bad : false ≡ true = is in cc
      by (Some inode) e is = ShowsWithinDepth-holds stack each path (inode-shows (look stack path) inode e)

  -- its names give the flattened layer
  pub told : AreNamesOf (flattened_at stack) (kids_along stack) (flatten_depth stack)
  told = record { in_order = kids-ascend stack; named = named; closed = parent-shown stack each; shallow = directory-limited }

  -- visits give it
  pub tells : TellsLayer (flattened_at stack) (flatten_kids stack) (flatten_out stack)
  tells = layer-told (flattened_at stack) (kids_along stack) (flatten_depth stack) told
