-- What the new lower layer has in a directory: its names are in order, and all that it has there has one of them.
use Rattle.std.proofs.Common.{◌≡◌, ◌≤◌, inl, inr, ◌⊎◌, Bool, true, false, Option, Some, None, List, [], length, refl, sym, ap, ◌∙◌}
use Rattle.std.specs.Prelude.{◌||◌, All}
use Rattle.std.specs.List.{list_any}
use Rattle.ovl_names.specs.Names.{PathName, name_eq, name_cmp}
use Rattle.ovl_names.specs.Order.{ascends}
use Rattle.ovl_names.specs.Paths.{PathNames, child_path}
use Rattle.ovl_inode.specs.declared.inodes.Inode.{Inode}
use Rattle.ovl_layer.specs.Layers.{IsLayer}
use Rattle.ovl_lookup.specs.Stacks.{StackView}
use Rattle.ovl_lookup.specs.Passes.{own_names_along}
use Rattle.ovl_names.specs.NameSets.{put_names}
use Rattle.ovl_lookup.proofs.LawsOfKids.{kids-same}
use Rattle.ovl_names.proofs.LawsOfNameSets.{any-put, ascends-put}
use Rattle.ovl_lookup.proofs.LawsOfLooks.{ShowsWithinDepth-holds}
use Rattle.ovl_lookup.proofs.LawsOfWalks.{directory_found}
use Rattle.ovl_rewrite.specs.NewLayers.{AreNamesOf, TellsLayer}
use Rattle.ovl_merge.specs.Places.{Merge, whole, two_layers, base, child_of, shows_at, merge_of}
use Rattle.ovl_rewrite.proofs.DirectoryLemmas.{layer-told}
use Rattle.ovl_merge.specs.MergeDown.{merged_entry}
use Rattle.ovl_merge.specs.Directories.{base_names, candidate_names, merge_kids, merge_out, merge_depth}
use Rattle.ovl_merge.proofs.MergedEntries.{entry-directory, entry-stands, two}
use Rattle.ovl_merge.proofs.LayerLemmas.{upper, lower, rest, own-shown}

or_true : (b : Bool) → (b || true) ≡ true
or_true true = refl
or_true false = refl

module _ (m : Merge) (each : All IsLayer (whole m).layers) where
  -- ---- each entry has one of the names

  candidate : (directory : PathNames) (name : PathName) (inode : Inode) → merged_entry m (child_path directory name) ≡ Some inode → list_any (name_eq name) (candidate_names m directory) ≡ true
  candidate directory name inode here = parts ∙ among (entry-stands m (upper m each) (lower m each) directory name inode here).1
    where
      own : List PathName
      own = own_names_along (two_layers m).layers directory

      parts : list_any (name_eq name) (candidate_names m directory) ≡ (list_any (name_eq name) own || list_any (name_eq name) (base_names m.rest (base m directory)))
      parts =
          any-put name (put_names [] own) (base_names m.rest (base m directory))
          ∙ ap (λ b. b || list_any (name_eq name) (base_names m.rest (base m directory))) (any-put name [] own)

      based : (place : Option PathNames) → shows_at m.rest (child_of place name) ≡ true → list_any (name_eq name) (base_names m.rest place) ≡ true
      based None shown = let bad : false ≡ true = shown in cc
      based (Some place) shown = kids-same m.rest (rest m each) place name ∙ shown

      among : (list_any (name_eq name) own ≡ true) ⊎ (shows_at m.rest (child_of (base m directory) name) ≡ true) → (list_any (name_eq name) own || list_any (name_eq name) (base_names m.rest (base m directory))) ≡ true
      among (inl e) = ap (λ b. b || list_any (name_eq name) (base_names m.rest (base m directory))) e
      among (inr shown) = ap (λ b. list_any (name_eq name) own || b) (based (base m directory) shown) ∙ or_true (list_any (name_eq name) own)

  candidates-ascend : (directory : PathNames) → ascends name_cmp (candidate_names m directory) ≡ true
  candidates-ascend directory =
      ascends-put (put_names [] (own_names_along (two_layers m).layers directory)) (base_names m.rest (base m directory))
      (ascends-put [] (own_names_along (two_layers m).layers directory) refl)

  -- what has an entry in it is a shown directory
  new-parent : (directory : PathNames) (name : PathName) (inode : Inode) → merged_entry m (child_path directory name) ≡ Some inode → directory_found (merged_entry m directory) ≡ true
  new-parent directory name inode here = entry-directory m (upper m each) (lower m each) directory ∙ (entry-stands m (upper m each) (lower m each) directory name inode here).0

  -- ---- the bound on depth

  directory-limited : (path : PathNames) → directory_found (merged_entry m path) ≡ true → length path ≤ merge_depth
  directory-limited path holds =
      ShowsWithinDepth-holds (two_layers m) (two m (upper m each) (lower m each)) path
      (own-shown m each path (sym (entry-directory m (upper m each) (lower m each) path) ∙ holds))

  -- its names give the new lower layer
  pub told : AreNamesOf (merged_entry m) (candidate_names m) merge_depth
  told = record { in_order = candidates-ascend; named = candidate; closed = new-parent; shallow = directory-limited }

-- the visits of a stack's merge give it
pub tells : (stack : StackView) → All IsLayer (whole (merge_of stack)).layers → TellsLayer (merged_entry (merge_of stack)) (merge_kids stack) (merge_out stack)
tells stack each = layer-told (merged_entry (merge_of stack)) (candidate_names (merge_of stack)) merge_depth (told (merge_of stack) each)
