-- From the parcels to the new layer.
use Rattle.std.proofs.Common.{◌≡◌, ◌<◌, true, Option, Some, None, List, [], ◌∷◌, length, drop, refl, sym, ap, ◌∙◌, subst, arith}
use Rattle.std.specs.Prelude.{All, slice_get, unwrap_or}
use Rattle.std.specs.List.{cons_option}
use Rattle.std.specs.Option.{option_map}
use Rattle.ovl_names.specs.Paths.{PathNames}
use Rattle.ovl_inode.specs.declared.inodes.Inode.{Inode}
use Rattle.ovl_inode.specs.Inodes.{visible}
use Rattle.ovl_layer.specs.Layers.{Entries, Entry, entry_at, is_directory_at, IsLayer}
use Rattle.ovl_lookup.specs.declared.steps.Step.{Step}
use Rattle.ovl_lookup.specs.Walk.{walk}
use Rattle.ovl_lookup.specs.Stacks.{StackView}
use Rattle.ovl_lookup.specs.Sound.{IsSoundStack}
use Rattle.ovl_lookup.proofs.LawsOfWalks.{walk-whole, directory_found, directory-entry}
use Rattle.ovl_board.specs.declared.pieces.Piece.{Piece}
use Rattle.ovl_rewrite.specs.Directories.{NamedInode, directories_among}
use Rattle.ovl_rewrite.specs.Passes.{InodesParcel}
use Rattle.ovl_rewrite.specs.NewLayers.{IsToldWithin, IsWalkWithin}
use Rattle.ovl_merge.specs.Places.{Merge, whole, merge_of, lower_path, first_hit, reach}
use Rattle.ovl_merge.specs.MergeDown.{merged_directory, merged_entry, merged_entry_of, merged_top, IsMergedDown}
use Rattle.ovl_merge.specs.Directories.{entries_in, candidate_names, merge_depth}
use Rattle.ovl_merge.proofs.Firsts.{first_hit-steps, first_step}
use Rattle.ovl_merge.proofs.Inodes.{merged-directory}
use Rattle.ovl_merge.proofs.LayerLemmas.{upper}
use Rattle.ovl_merge.proofs.DirectoryLemmas.{told}

-- a stack of at least two layers is the whole of its merge
pub merge-whole : (stack : StackView) → 1 < length stack.layers → whole (merge_of stack) ≡ stack
merge-whole stack more = ap (λ (layers : List Entries). record stack { layers = layers }) (by stack.layers more)
  where
    by : (layers : List Entries) → 1 < length layers → unwrap_or (slice_get layers 0) [] ∷ unwrap_or (slice_get (drop 1 layers) 0) [] ∷ drop 2 layers ≡ layers
    by [] more = absurd (omega (arith, more))
    by (one ∷ []) more = absurd (omega (arith, more))
    by (one ∷ other ∷ layers) more = refl

pub merge-each : (stack : StackView) → 1 < length stack.layers → All IsLayer stack.layers → All IsLayer (whole (merge_of stack)).layers
merge-each stack more each = subst (λ (s : StackView). All IsLayer s.layers) (sym (merge-whole stack more)) each

pub merge-sound : (stack : StackView) → 1 < length stack.layers → IsSoundStack stack → IsSoundStack (whole (merge_of stack))
merge-sound stack more sound = subst IsSoundStack (sym (merge-whole stack more)) sound

module _ (m : Merge) (each : All IsLayer (whole m).layers) where
  -- the root is the visible one of the upper layer
  root-made : (inode : Inode) → entry_at m.upper [] ≡ Some inode → merged_entry m [] ≡ Some (visible inode)
  root-made inode here =
      let rooted : is_directory_at m.upper [] ≡ true = (upper m each).rooted in
      let found : (walk m.upper []).found ≡ Some inode = ap (λ (s : Step). s.found) (walk-whole m.upper [] rooted) ∙ here in
      let hit : first_hit m [] ≡ Some inode =
      first_hit-steps m [] ∙ ap (λ o. first_step o (walk m.upper []).closed (first_step (walk m.lower (lower_path m [])).found (walk m.lower (lower_path m [])).closed None)) found in
      ap (merged_entry_of m []) hit
      ∙ ap (λ (i : Inode). Some i) (merged-directory m [] inode (ap directory_found (sym here) ∙ rooted) ∙ by (reach m []))
    where
      by : (place : Option PathNames) → merged_directory m [] inode place ≡ visible inode
      by None = refl
      by (Some place) = refl

  -- both new layers have the same root
  root-alone : (root : Inode) → option_map visible (entry_at m.upper []) ≡ Some root → merged_top m ≡ ([], root) ∷ []
  root-alone root = by (entry_at m.upper [])
    where
      by : (found : Option Inode) → option_map visible found ≡ Some root → cons_option {X = Entry} (option_map (λ inode. ([], visible inode)) found) [] ≡ ([], root) ∷ []
      by None e = let bad : None ≡ Some root = e in cc
      by (Some inode) e = let same : visible inode ≡ root = cc in ap (λ (i : Inode). ([], i) ∷ []) same

  abbrev kids : Piece → List Piece
  kids piece = directories_among piece (entries_in m piece.dir)

  abbrev out : Piece → List NamedInode
  out piece = entries_in m piece.dir

  -- the plain walk gives the new lower layer
  pub walk-tells : (root : Inode) (views : List InodesParcel) → option_map visible (entry_at m.upper []) ≡ Some root → IsWalkWithin kids out views → IsToldWithin (merged_entry m) root views
  walk-tells root views is walk =
      let own = directory-entry m.upper [] (upper m each).rooted in
      record {
        names = candidate_names m;
        deepest = merge_depth;
        told = told m each;
        rooted = root-made own.0 own.1 ∙ (ap (option_map visible) (sym own.1) ∙ is);
        walk = walk;
      }

  -- the new upper layer has only the root of the new lower one
  pub top-made : (layer : Entries) → IsMergedDown m layer → (root : Inode) → entry_at layer [] ≡ Some root → ([], root) ∷ [] ≡ merged_top m
  top-made layer made root here =
      let own = directory-entry m.upper [] (upper m each).rooted in
      sym (root-alone root (ap (option_map visible) own.1 ∙ (sym (root-made own.0 own.1) ∙ (sym (made []) ∙ here))))
