-- What the new layer has in a directory: its names are in order, and all that it has there has one of them.
use Rattle.std.proofs.Common.{◌≡◌, ◌≤◌, ◌<◌, Bool, true, false, cond, Option, Some, None, length, refl, sym, ap, ◌∙◌, arith}
use Rattle.std.specs.Prelude.{All}
use Rattle.std.specs.Option.{option_map}
use Rattle.std.specs.List.{list_any}
use Rattle.ovl_names.specs.Names.{PathName, name_eq, name_cmp}
use Rattle.ovl_names.specs.Order.{ascends}
use Rattle.ovl_names.specs.Paths.{PathNames, child_path, depth_limit}
use Rattle.ovl_inode.specs.declared.inodes.Inode.{Inode}
use Rattle.ovl_layer.specs.Layers.{entry_at, names_below, IsLayer}
use Rattle.ovl_lookup.specs.declared.looks.Look.{Look}
use Rattle.ovl_lookup.specs.Stacks.{StackView}
use Rattle.ovl_lookup.specs.Passes.{kids_along}
use Rattle.ovl_lookup.specs.ShownInodes.{inode_shown}
use Rattle.ovl_lookup.specs.Merged.{look}
use Rattle.ovl_lookup.specs.Words.{over, top_layer, lower_layers}
use Rattle.ovl_lookup.proofs.LawsOfWalks.{entry-limited, names_below-has, directory_found}
use Rattle.ovl_lookup.proofs.LawsOfKids.{kids-ascend, kids-same, kid-names-ascend}
use Rattle.ovl_lookup.proofs.LawsOfLooks.{ShowsWithinDepth-holds, inode-shows, top-over, top-layer, lower-layers}
use Rattle.ovl_rewrite.specs.NewLayers.{AreNamesOf, TellsLayer}
use Rattle.ovl_rewrite.proofs.DirectoryLemmas.{layer-told}
use Rattle.ovl_deref.specs.Deref.{is_in_moved, dereferenced_inode}
use Rattle.ovl_deref.specs.Directories.{is_at_moved, new_at, names_in, deref_kids, deref_out, deref_depth}
use Rattle.ovl_deref.proofs.LayerLemmas.{in_moved-child, outside, within, parent-kept}

-- ---- what the new layer has in a directory

module _ (stack : StackView) (each : All IsLayer stack.layers) (some : 0 < length stack.layers) where
  top_is : IsLayer (top_layer stack)
  top_is = top-layer stack some each

  lower_are : All IsLayer (lower_layers stack).layers
  lower_are = lower-layers stack some each

  abbrev looked : PathNames → Look
  looked path = look (over (top_layer stack) (lower_layers stack)) path

  looked-same : (path : PathNames) → looked path ≡ look stack path
  looked-same path = ap (λ (s : StackView). look s path) (top-over stack some)

  -- in and outside of a moved directory
  pub new-moved : (directory : PathNames) (name : PathName) → is_at_moved (top_layer stack) directory ≡ true → new_at stack (child_path directory name) ≡ inode_shown (look stack (child_path directory name))
  new-moved directory name moved =
      within (top_layer stack) (lower_layers stack) top_is lower_are (child_path directory name) (in_moved-child (top_layer stack) directory name ∙ moved)
      ∙ ap inode_shown (looked-same (child_path directory name))

  pub new-own : (directory : PathNames) (name : PathName) → is_at_moved (top_layer stack) directory ≡ false
      → new_at stack (child_path directory name) ≡ option_map (dereferenced_inode (top_layer stack) (lower_layers stack) (child_path directory name)) (entry_at (top_layer stack) (child_path directory name))
  new-own directory name free =
      outside (top_layer stack) (lower_layers stack) top_is lower_are (child_path directory name) (in_moved-child (top_layer stack) directory name ∙ free)

  new-named : (directory : PathNames) (name : PathName) (inode : Inode) → new_at stack (child_path directory name) ≡ Some inode → list_any (name_eq name) (names_in stack directory) ≡ true
  new-named directory name inode here = by (is_at_moved (top_layer stack) directory) refl
    where
      by : (b : Bool) → is_at_moved (top_layer stack) directory ≡ b → list_any (name_eq name) (cond b (kids_along stack directory) (names_below (top_layer stack) directory)) ≡ true
      by true moved =
          kids-same stack each directory name
          ∙ inode-shows (look stack (child_path directory name)) inode (sym (new-moved directory name moved) ∙ here)
      by false free = own (entry_at (top_layer stack) (child_path directory name)) refl
        where
          own : (found : Option Inode) → entry_at (top_layer stack) (child_path directory name) ≡ found → list_any (name_eq name) (names_below (top_layer stack) directory) ≡ true
          own None e =
              let bad : None ≡ Some inode = sym (new-own directory name free ∙ ap (option_map (dereferenced_inode (top_layer stack) (lower_layers stack) (child_path directory name))) e) ∙ here in cc
          own (Some i) e = names_below-has (top_layer stack) directory name i e

  names_in-ascend : (directory : PathNames) → ascends name_cmp (names_in stack directory) ≡ true
  names_in-ascend directory = by (is_at_moved (top_layer stack) directory)
    where
      by : (b : Bool) → ascends name_cmp (cond b (kids_along stack directory) (names_below (top_layer stack) directory)) ≡ true
      by true = kids-ascend stack directory
      by false = kid-names-ascend (top_layer stack) directory top_is.in_order

  -- what has an entry in it is a directory
  new-parent : (directory : PathNames) (name : PathName) (inode : Inode) → new_at stack (child_path directory name) ≡ Some inode → directory_found (new_at stack directory) ≡ true
  new-parent directory name inode here = parent-kept (top_layer stack) (lower_layers stack) top_is lower_are directory name inode here

  -- ---- the bound on depth

  new-limited : (path : PathNames) (inode : Inode) → new_at stack path ≡ Some inode → length path ≤ deref_depth stack
  new-limited path inode here = by (is_in_moved (top_layer stack) path) refl
    where
      by : (b : Bool) → is_in_moved (top_layer stack) path ≡ b → length path ≤ deref_depth stack
      by true moved =
          ShowsWithinDepth-holds stack each path
          (inode-shows (look stack path) inode (ap inode_shown (sym (looked-same path)) ∙ (sym (within (top_layer stack) (lower_layers stack) top_is lower_are path moved) ∙ here)))
      by false free = own (entry_at (top_layer stack) path) refl
        where
          own : (found : Option Inode) → entry_at (top_layer stack) path ≡ found → length path ≤ deref_depth stack
          own None e =
              let bad : None ≡ Some inode = sym (outside (top_layer stack) (lower_layers stack) top_is lower_are path free ∙ ap (option_map (dereferenced_inode (top_layer stack) (lower_layers stack) path)) e) ∙ here in cc
          own (Some i) e = let own_bound : length path ≤ depth_limit = entry-limited (top_layer stack) path i top_is e in omega (arith, own_bound, some)

  directory-limited : (path : PathNames) → directory_found (new_at stack path) ≡ true → length path ≤ deref_depth stack
  directory-limited path = by (new_at stack path) refl
    where
      by : (found : Option Inode) → new_at stack path ≡ found → directory_found found ≡ true → length path ≤ deref_depth stack
      by None e is = let bad : false ≡ true = is in cc
      by (Some inode) e is = new-limited path inode e

  -- its names give the new layer
  pub told : AreNamesOf (new_at stack) (names_in stack) (deref_depth stack)
  told = record { in_order = names_in-ascend; named = new-named; closed = new-parent; shallow = directory-limited }

  -- visits give it
  pub tells : TellsLayer (new_at stack) (deref_kids stack) (deref_out stack)
  tells = layer-told (new_at stack) (names_in stack) (deref_depth stack) told
