-- Worked examples of a merge, by computation.
use Rattle.std.specs.Prelude.{◌≡◌, suc, ◌∷◌, ◌++◌, [], codes, Some, None, refl}
use Rattle.ovl_inode.specs.declared.inodes.Inode.{Inode}
use Rattle.ovl_inode.proofs.OnLiterals.{inode_on_literals}
use Rattle.ovl_layer.specs.Layers.{Entries}
use Rattle.ovl_lookup.proofs.Notation.{directory, opaque, moved, file_a, metacopy, metacopy_moved, path, layer_of, whiteout}
use Rattle.ovl_lookup.proofs.RowStacks.{stack_of, moved_in_opaque, top_of_moved_in_opaque, metacopies_over, told_below, told_past_whiteout}
use Rattle.ovl_merge.specs.Places.{Merge, merge_of, natural, reach}
use Rattle.ovl_rewrite.specs.Passes.{entries_under}
use Rattle.ovl_merge.specs.MergeDown.{merged_entry, merged_top, new_whiteout}
use Rattle.ovl_merge.specs.Directories.{entries_in, merge_depth}

-- the entries of the new lower layer: the same root as in the new upper one, and what lies under it; an entry may lie one
-- name below the deepest directory
abbrev new_entries : Merge → Entries
new_entries m = merged_top m ++ entries_under (entries_in m) (suc merge_depth) []

-- a redirect in an opaque directory, to the layer below, and to one under that
in_opaque : new_entries (merge_of moved_in_opaque) ≡ layer_of (
    (path (codes "/n"), directory)
    ∷ (path (codes "/n/d"), directory)
    ∷ (path (codes "/n/d/k"), file_a)
    ∷ [])
unfolding inode_on_literals
in_opaque = refl

abbrev in_opaque_over : Merge
in_opaque_over = merge_of (stack_of (top_of_moved_in_opaque
    ∷ layer_of []
    ∷ layer_of (
    (path (codes "/n"), directory)
    ∷ (path (codes "/n/z"), file_a)
    ∷ (path (codes "/x"), directory)
    ∷ (path (codes "/x/k"), file_a)
    ∷ [])
    ∷ []))

in_opaque_below : new_entries in_opaque_over ≡ layer_of (
    (path (codes "/n"), opaque)
    ∷ (path (codes "/n/d"), moved (codes "/x"))
    ∷ (path (codes "/x"), new_whiteout)
    ∷ [])
unfolding inode_on_literals
in_opaque_below = refl

-- a metacopy file over another, over its data
metacopies : new_entries (merge_of (metacopies_over file_a)) ≡ layer_of ((path (codes "/f"), metacopy 1) ∷ [])
unfolding inode_on_literals
metacopies = refl

-- a directory of the lower layer that the upper one moves, over this rest
abbrev moved_over : Entries → Merge
moved_over rest = merge_of (stack_of (layer_of ((path (codes "/a"), whiteout) ∷ (path (codes "/b"), moved (codes "/a")) ∷ [])
    ∷ layer_of ((path (codes "/a"), directory) ∷ (path (codes "/a/k"), file_a) ∷ [])
    ∷ layer_of rest
    ∷ []))

-- the merged directory, with this inode
abbrev moved_there : Inode → Entries
moved_there inode = layer_of ((path (codes "/b"), inode) ∷ (path (codes "/b/k"), file_a) ∷ [])

moved_over_own : new_entries (moved_over ((path (codes "/b"), directory) ∷ (path (codes "/b/z"), file_a) ∷ [])) ≡ moved_there opaque
unfolding inode_on_literals
moved_over_own = refl

moved_over_nothing : new_entries (moved_over []) ≡ moved_there directory
unfolding inode_on_literals
moved_over_nothing = refl

moved_over_file : new_entries (moved_over ((path (codes "/b"), file_a) ∷ [])) ≡ moved_there directory
unfolding inode_on_literals
moved_over_file = refl

moved_over_old : new_entries (moved_over ((path (codes "/a"), directory) ∷ [])) ≡ layer_of (
    (path (codes "/a"), new_whiteout)
    ∷ (path (codes "/b"), moved (codes "a"))
    ∷ (path (codes "/b/k"), file_a)
    ∷ [])
unfolding inode_on_literals
moved_over_old = refl

-- a directory that both layers move
abbrev both_move : Merge
both_move = merge_of (stack_of (layer_of ((path (codes "/a"), whiteout) ∷ (path (codes "/b"), moved (codes "/a")) ∷ [])
    ∷ layer_of ((path (codes "/a"), moved (codes "/x")) ∷ (path (codes "/x"), whiteout) ∷ [])
    ∷ layer_of ((path (codes "/x"), directory) ∷ (path (codes "/x/k"), file_a) ∷ [])
    ∷ []))

moved_twice : new_entries both_move ≡ layer_of ((path (codes "/b"), moved (codes "x")) ∷ (path (codes "/x"), new_whiteout) ∷ [])
unfolding inode_on_literals
moved_twice = refl

-- its reach, its natural place, and a name under it, which only the rest has
moved_twice-reach : reach both_move (path (codes "/b")) ≡ Some (path (codes "/x"))
unfolding inode_on_literals
moved_twice-reach = refl

moved_twice-natural : natural both_move (path (codes "/b")) ≡ Some (path (codes "/b"))
unfolding inode_on_literals
moved_twice-natural = refl

moved_twice-under : merged_entry both_move (path (codes "/b/k")) ≡ None
unfolding inode_on_literals
moved_twice-under = refl

-- a metacopy file whose data is in a data-only layer keeps its redirect, also where that is its own path
data_only : new_entries (merge_of (told_below (codes "/f"))) ≡ layer_of ((path (codes "/f"), metacopy_moved 1 (codes "/f")) ∷ [])
unfolding inode_on_literals
data_only = refl

data_only_elsewhere : new_entries (merge_of (told_below (codes "/g"))) ≡ layer_of ((path (codes "/f"), metacopy_moved 1 (codes "/g")) ∷ [])
unfolding inode_on_literals
data_only_elsewhere = refl

-- unless the rest has a file there, it becomes a full one
data_only_hidden : new_entries (merge_of (told_past_whiteout file_a)) ≡ layer_of ((path (codes "/f"), file_a) ∷ (path (codes "/z"), new_whiteout) ∷ [])
unfolding inode_on_literals
data_only_hidden = refl
