-- The worked examples of the merged tree, by computation.
use Rattle.std.specs.Prelude.{◌≡◌, ℕ, true, false, List, [], ◌∷◌, codes, None, refl, map}
use Rattle.ovl_names.specs.Paths.{PathNames}
use Rattle.ovl_inode.specs.declared.inodes.Kind.TheVariants.{File, Symlink, Char}
use Rattle.ovl_inode.specs.Inodes.{plain_inode}
use Rattle.ovl_inode.proofs.OnLiterals.{inode_on_literals}
use Rattle.ovl_lookup.specs.declared.looks.Look.TheVariants.{Nothing, Shown, Broken}
use Rattle.ovl_lookup.specs.Walk.{walk, nothing_found, found_at_end, natural_path}
use Rattle.ovl_lookup.specs.Stacks.{StackView, from_layer}
use Rattle.ovl_lookup.specs.Merged.{look}
use Rattle.ovl_lookup.specs.Passes.{kids_along, looks_from}
use Rattle.ovl_lookup.proofs.Notation.{directory, marked_x, opaque, moved, file_a, metacopy, metacopy_moved, layer_of, whiteout, empty_whiteout, full_whiteout, path}
use Rattle.ovl_lookup.proofs.RowStacks.{root_alone, covered, one_over, directory_over, moved_twice, moved_twice_shown, top_of_moved_in_opaque, moved_in_opaque, opaque_with_redirect, metacopies_over, redirects, told_below, told_past_whiteout, told_over}

-- the paths at which the stack shows something, at most so deep
abbrev shown_paths : ℕ → StackView → List PathNames
shown_paths depth stack = map (λ e. e.0) (looks_from depth stack [])

root-shown : look root_alone [] ≡ Shown directory
unfolding inode_on_literals
root-shown = refl

covered-file : look covered (path (codes "/f")) ≡ Nothing
unfolding inode_on_literals
covered-file = refl

covered-device : look covered (path (codes "/g")) ≡ Shown (plain_inode (Char 0 1) 0o600 [])
unfolding inode_on_literals
covered-device = refl

covered-symlink : look covered (path (codes "/l")) ≡ Shown (plain_inode (Symlink (codes "a b")) 0o777 ((codes "user.k", 1 ∷ []) ∷ []))
unfolding inode_on_literals
covered-symlink = refl

covered-paths : shown_paths 129 covered ≡ [] ∷ (path (codes "/g")) ∷ (path (codes "/l")) ∷ []
unfolding inode_on_literals
covered-paths = refl

empty-whiteout : look (one_over directory empty_whiteout) (path (codes "/f")) ≡ Nothing
unfolding inode_on_literals
empty-whiteout = refl

empty-whiteout_marked : look (one_over marked_x empty_whiteout) (path (codes "/f")) ≡ Nothing
unfolding inode_on_literals
empty-whiteout_marked = refl

full-whiteout : look (one_over directory full_whiteout) (path (codes "/f")) ≡ Shown file_a
unfolding inode_on_literals
full-whiteout = refl

opaque-directory : look (directory_over opaque) (path (codes "/d")) ≡ Shown directory
unfolding inode_on_literals
opaque-directory = refl

opaque-file : look (directory_over opaque) (path (codes "/d/k")) ≡ Nothing
unfolding inode_on_literals
opaque-file = refl

opaque-paths : shown_paths 129 (directory_over opaque) ≡ [] ∷ (path (codes "/d")) ∷ []
unfolding inode_on_literals
opaque-paths = refl

marked-file : look (directory_over marked_x) (path (codes "/d/k")) ≡ Shown file_a
unfolding inode_on_literals
marked-file = refl

marked-paths : shown_paths 129 (directory_over marked_x) ≡ [] ∷ (path (codes "/d")) ∷ (path (codes "/d/k")) ∷ []
unfolding inode_on_literals
marked-paths = refl

moved-file : look moved_twice (path (codes "/p/q/k")) ≡ Shown file_a
unfolding inode_on_literals
moved-file = refl

moved-old_name : look moved_twice (path (codes "/p/r")) ≡ Nothing
unfolding inode_on_literals
moved-old_name = refl

moved-old_place : look moved_twice (path (codes "/x/r")) ≡ Nothing
unfolding inode_on_literals
moved-old_place = refl

moved-paths : shown_paths 129 moved_twice ≡ [] ∷ (path (codes "/p")) ∷ (path (codes "/p/q")) ∷ (path (codes "/p/q/k")) ∷ []
unfolding inode_on_literals
moved-paths = refl

moved-shown_paths : shown_paths 129 moved_twice_shown ≡ [] ∷ (path (codes "/p")) ∷ (path (codes "/p/q")) ∷ (path (codes "/p/q/k")) ∷ (path (codes "/p/r")) ∷ (path (codes "/p/r/k")) ∷ []
unfolding inode_on_literals
moved-shown_paths = refl

in_opaque-directory : look moved_in_opaque (path (codes "/n/d")) ≡ Shown directory
unfolding inode_on_literals
in_opaque-directory = refl

in_opaque-file : look moved_in_opaque (path (codes "/n/d/k")) ≡ Shown file_a
unfolding inode_on_literals
in_opaque-file = refl

in_opaque-hidden : look moved_in_opaque (path (codes "/n/z")) ≡ Nothing
unfolding inode_on_literals
in_opaque-hidden = refl

in_opaque-lower : look (from_layer 1 moved_in_opaque) (path (codes "/n/z")) ≡ Shown file_a
unfolding inode_on_literals
in_opaque-lower = refl

in_opaque-below_all : look (from_layer 2 moved_in_opaque) (path (codes "/n")) ≡ Nothing
unfolding inode_on_literals
in_opaque-below_all = refl

in_opaque-paths : shown_paths 129 moved_in_opaque ≡ [] ∷ (path (codes "/n")) ∷ (path (codes "/n/d")) ∷ (path (codes "/n/d/k")) ∷ []
unfolding inode_on_literals
in_opaque-paths = refl

in_opaque-names : kids_along moved_in_opaque (path (codes "/n")) ≡ codes "d" ∷ []
unfolding inode_on_literals
in_opaque-names = refl

in_opaque-names_moved : kids_along moved_in_opaque (path (codes "/n/d")) ≡ codes "k" ∷ []
unfolding inode_on_literals
in_opaque-names_moved = refl

in_opaque-names_of_file : kids_along moved_in_opaque (path (codes "/n/d/k")) ≡ []
unfolding inode_on_literals
in_opaque-names_of_file = refl

walk-moved : walk top_of_moved_in_opaque (path (codes "/n/d/k")) ≡ nothing_found (path (codes "/x/k")) false
unfolding inode_on_literals
walk-moved = refl

walk-opaque : walk top_of_moved_in_opaque (path (codes "/n/z")) ≡ nothing_found (path (codes "/n/z")) true
unfolding inode_on_literals
walk-opaque = refl

walk-whiteout : walk top_of_moved_in_opaque (path (codes "/x")) ≡ nothing_found (path (codes "/x")) true
unfolding inode_on_literals
walk-whiteout = refl

walk-below_whiteout : walk top_of_moved_in_opaque (path (codes "/x/k")) ≡ nothing_found (path (codes "/x/k")) true
unfolding inode_on_literals
walk-below_whiteout = refl

walk-metacopy_absolute : walk redirects (path (codes "/a")) ≡ found_at_end (metacopy_moved 1 (codes "/x/k")) (path (codes "/x/k")) false
unfolding inode_on_literals
walk-metacopy_absolute = refl

walk-metacopy_relative : walk redirects (path (codes "/b")) ≡ found_at_end (metacopy_moved 1 (codes "r")) (path (codes "/r")) false
unfolding inode_on_literals
walk-metacopy_relative = refl

walk-metacopy_malformed : walk redirects (path (codes "/c")) ≡ found_at_end (metacopy_moved 1 (codes "a/b")) (path (codes "/c")) true
unfolding inode_on_literals
walk-metacopy_malformed = refl

walk-malformed : walk redirects (path (codes "/e")) ≡ found_at_end (moved (codes "a/b")) (path (codes "/e")) true
unfolding inode_on_literals
walk-malformed = refl

walk-below_malformed : walk redirects (path (codes "/e/k")) ≡ nothing_found (path (codes "/e/k")) true
unfolding inode_on_literals
walk-below_malformed = refl

walk-relative_in_opaque : walk redirects (path (codes "/n/d")) ≡ found_at_end (moved (codes "r")) (path (codes "/n/r")) true
unfolding inode_on_literals
walk-relative_in_opaque = refl

walk-below_relative_in_opaque : walk redirects (path (codes "/n/d/k")) ≡ nothing_found (path (codes "/n/r/k")) true
unfolding inode_on_literals
walk-below_relative_in_opaque = refl

walk-metacopy_absolute_in_opaque : walk redirects (path (codes "/n/f")) ≡ found_at_end (metacopy_moved 1 (codes "/x/k")) (path (codes "/x/k")) false
unfolding inode_on_literals
walk-metacopy_absolute_in_opaque = refl

walk-metacopy_relative_in_opaque : walk redirects (path (codes "/n/g")) ≡ found_at_end (metacopy_moved 1 (codes "r")) (path (codes "/n/r")) true
unfolding inode_on_literals
walk-metacopy_relative_in_opaque = refl

natural-root : natural_path top_of_moved_in_opaque [] ≡ []
unfolding inode_on_literals
natural-root = refl

natural-moved : natural_path top_of_moved_in_opaque (path (codes "/n/d/k")) ≡ path (codes "/x/k")
unfolding inode_on_literals
natural-moved = refl

opaque_redirect-directory : look opaque_with_redirect (path (codes "/d")) ≡ Shown directory
unfolding inode_on_literals
opaque_redirect-directory = refl

opaque_redirect-file : look opaque_with_redirect (path (codes "/d/k")) ≡ Nothing
unfolding inode_on_literals
opaque_redirect-file = refl

opaque_redirect-paths : shown_paths 129 opaque_with_redirect ≡ [] ∷ (path (codes "/d")) ∷ (path (codes "/x")) ∷ (path (codes "/x/k")) ∷ []
unfolding inode_on_literals
opaque_redirect-paths = refl

metacopy-data : look (metacopies_over file_a) (path (codes "/f")) ≡ Shown file_a
unfolding inode_on_literals
metacopy-data = refl

metacopy-lost : look (metacopies_over whiteout) (path (codes "/f")) ≡ Broken (plain_inode (File 1 None) 0o644 [])
unfolding inode_on_literals
metacopy-lost = refl

-- ---- data-only layers

data_only-data : look (told_below (codes "/f")) (path (codes "/f")) ≡ Shown file_a
unfolding inode_on_literals
data_only-data = refl

data_only-paths : shown_paths 4 (told_below (codes "/g")) ≡ [] ∷ (path (codes "/f")) ∷ []
unfolding inode_on_literals
data_only-paths = refl

data_only-elsewhere : look (told_below (codes "/g")) (path (codes "/f")) ≡ Shown file_a
unfolding inode_on_literals
data_only-elsewhere = refl

data_only-past_whiteout : look (told_past_whiteout (plain_inode (File 1 None) 0o644 [])) (path (codes "/f")) ≡ Shown file_a
unfolding inode_on_literals
data_only-past_whiteout = refl

-- the first that is a file with contents counts
data_only-second : look (told_over [] (layer_of ((path (codes "/z"), metacopy 1) ∷ []) ∷ layer_of ((path (codes "/z"), file_a) ∷ []) ∷ [])) (path (codes "/f")) ≡ Shown file_a
unfolding inode_on_literals
data_only-second = refl

-- a metacopy file without a redirect ends the search
data_only-last_one : look (told_over (layer_of ((path (codes "/z"), metacopy 1) ∷ []) ∷ []) (layer_of ((path (codes "/z"), file_a) ∷ []) ∷ [])) (path (codes "/f")) ≡ Broken (plain_inode (File 1 None) 0o644 [])
unfolding inode_on_literals
data_only-last_one = refl
