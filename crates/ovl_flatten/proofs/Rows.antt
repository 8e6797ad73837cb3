-- The worked examples, by computation.
use Rattle.std.specs.Prelude.{◌≡◌, [], ◌∷◌, codes, Some, refl}
use Rattle.std.specs.Option.{option_map}
use Rattle.std.specs.List.{cons_option}
use Rattle.ovl_inode.specs.declared.inodes.Kind.TheVariants.{Symlink, Char}
use Rattle.ovl_inode.specs.Inodes.{plain_inode}
use Rattle.ovl_inode.proofs.OnLiterals.{inode_on_literals}
use Rattle.ovl_layer.specs.Layers.{Entries}
use Rattle.ovl_lookup.specs.Stacks.{StackView}
use Rattle.ovl_lookup.specs.ShownInodes.{shown_inodes}
use Rattle.ovl_lookup.proofs.Notation.{directory, opaque, file_a, path, layer_of}
use Rattle.ovl_lookup.proofs.RowStacks.{stack_of, root_alone, covered, moved_twice, moved_in_opaque, metacopies_over, told_below}
use Rattle.ovl_rewrite.specs.Passes.{entries_under}
use Rattle.ovl_flatten.specs.Flatten.{flattened_at}
use Rattle.ovl_flatten.specs.Directories.{flatten_depth}

-- all entries of the flattened layer, in order
abbrev new_entries : StackView → Entries
new_entries stack =
    cons_option (option_map (λ inode. ([], inode)) (flattened_at stack [])) (entries_under (shown_inodes stack) (flatten_depth stack) [])

root-entries : new_entries root_alone ≡ layer_of []
unfolding inode_on_literals
root-entries = refl

covered-entries : new_entries covered ≡ layer_of (
    (path (codes "/g"), plain_inode (Char 0 1) 0o600 [])
    ∷ (path (codes "/l"), plain_inode (Symlink (codes "a b")) 0o777 ((codes "user.k", 1 ∷ []) ∷ []))
    ∷ [])
unfolding inode_on_literals
covered-entries = refl

moved_twice-entries : new_entries moved_twice ≡ layer_of (
    (path (codes "/p"), directory)
    ∷ (path (codes "/p/q"), directory)
    ∷ (path (codes "/p/q/k"), file_a)
    ∷ [])
unfolding inode_on_literals
moved_twice-entries = refl

in_opaque-entries : new_entries moved_in_opaque ≡ layer_of (
    (path (codes "/n"), directory)
    ∷ (path (codes "/n/d"), directory)
    ∷ (path (codes "/n/d/k"), file_a)
    ∷ [])
unfolding inode_on_literals
in_opaque-entries = refl

metacopies-entries : new_entries (metacopies_over file_a) ≡ layer_of ((path (codes "/f"), file_a) ∷ [])
unfolding inode_on_literals
metacopies-entries = refl

-- a data-only layer's contents, which the flattened layer has itself
told_below-entries : new_entries (told_below (codes "/z")) ≡ layer_of ((path (codes "/f"), file_a) ∷ [])
unfolding inode_on_literals
told_below-entries = refl

-- the marks of a root go
root-bare : flattened_at (stack_of ((([], opaque) ∷ []) ∷ [])) [] ≡ Some directory
unfolding inode_on_literals
root-bare = refl
