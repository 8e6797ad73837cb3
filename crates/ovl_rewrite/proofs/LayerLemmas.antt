-- From the parcels to the new layer.
use Rattle.std.proofs.Common.{◌≡◌, ℕ, suc, ◌-◌, true, List, [], ◌∷◌, ◌++◌, length, refl, sym, ap, ◌∙◌, subst, arith}
use Rattle.std.specs.Prelude.{Result, Ok, Err, IfOk}
use Rattle.std.proofs.lemmas.List.{append-nil}
use Rattle.ovl_names.specs.Order.{ascends}
use Rattle.ovl_inode.specs.declared.inodes.Inode.{Inode}
use Rattle.ovl_layer.specs.Layers.{Entries, entry_cmp, IsLayer}
use Rattle.ovl_layer.specs.LayerTrees.{entries_from}
use Rattle.ovl_layer.specs.SubtreeBuilder.{CanStand}
use Rattle.ovl_layer.proofs.NodeLemmas.{placed-root}
use Rattle.ovl_layer.proofs.SubtreeBuilderLemmas.{stand-layer}
use Rattle.ovl_board.specs.Pieces.{space_root}
use Rattle.ovl_board.specs.Parcels.{IsPlain}
use Rattle.ovl_board.proofs.LawsOfWalks.{IsPlain-from_preorder, HasReachedPieces-holds}
use Rattle.ovl_rewrite.specs.Passes.{TreeEntries, IsTree, tree_kids, tree_out, entries_under, InodesParcel, views_under, WalksUnder, StopsUnder}
use Rattle.ovl_rewrite.specs.NewLayers.{NewLayer, IsOf, IsToldBy, tree_by}
use Rattle.ovl_rewrite.proofs.TreeLemmas.{told-ascend, told-of, is-tree}

-- ---- the entries that the parcels give

-- the plain walk has the parcels under the root
walk-under : (tree : TreeEntries) (deepest : ℕ) → IsTree tree deepest → (views : List InodesParcel) → IsPlain (tree_kids tree) (tree_out tree) (space_root 0) views → views ≡ views_under tree deepest (space_root 0)
walk-under tree deepest is views plain =
    let nodes : List InodesParcel = views_under tree deepest (space_root 0) in
    let other = IsPlain-from_preorder (tree_kids tree) (tree_out tree) deepest is.lawful (space_root 0) nodes refl in
    sym ((HasReachedPieces-holds (tree_kids tree) (tree_out tree) (space_root 0) views plain).3 nodes other)

-- those of its tree are in order, and have at each path what the new layer has
module _ (root : Inode) (views : List InodesParcel) (new : NewLayer) (by : IsToldBy new root views) where
  abbrev tree : TreeEntries
  tree = tree_by new by.names

  abbrev pub told_entries : Entries
  told_entries = ([], root) ∷ entries_under tree (suc by.deepest) []

  pub told-entries : (ascends entry_cmp told_entries ≡ true) × IsOf new told_entries
  told-entries = (told-ascend new by.names by.deepest by.told root by.rooted, told-of new by.names by.deepest by.told root by.rooted)

  is : IsTree tree (suc by.deepest)
  is = is-tree new by.names by.deepest by.told

  abbrev whole : List InodesParcel
  whole = views_under tree (suc by.deepest) (space_root 0)

  all-views : views ≡ whole ++ []
  all-views = walk-under tree (suc by.deepest) is views by.walk ∙ sym (append-nil whole)

  at_root : suc by.deepest - length (space_root 0).dir ≡ suc by.deepest
  at_root = omega arith

  pub told-whole : (after : List InodesParcel) (below : Entries) → WalksUnder views after below → entries_from root below ≡ told_entries
  told-whole after below walks =
      ap (λ (entries : Entries). ([], root) ∷ entries)
      (sym (placed-root below) ∙ ((walks tree (suc by.deepest) is (space_root 0) [] all-views).1 ∙ ap (λ n. entries_under tree n []) at_root))

  -- no layer has them where none has those under the root
  pub told-stops : StopsUnder views → IsLayer told_entries → ⊥
  told-stops stops layer =
      stops tree (suc by.deepest) is (space_root 0) [] all-views
      (subst (λ (n : ℕ). CanStand (entries_under tree n [])) (sym at_root) (stand-layer root (entries_under tree (suc by.deepest) []) layer))

-- ---- two facts of what is given

pub ok-both : {X Y : Type 0} (r : Result X Y) (P Q R : X → Type 0) → ((x : X) → P x → Q x → R x) → IfOk r P → IfOk r Q → IfOk r R
ok-both (Ok x) P Q R both p q = both x p q
ok-both (Err e) P Q R both p q = tt
