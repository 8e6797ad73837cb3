-- Where a merge's entries stand: in shown directories, under names of the two layers or of the rest.
use Rattle.std.proofs.Common.{◌≡◌, Bool, true, false, cond, Option, Some, None, List, [], ◌∷◌, refl, sym, ap, ◌∙◌, arith, inl, inr, ◌⊎◌}
use Rattle.std.specs.Prelude.{◌&&◌}
use Rattle.std.specs.List.{list_any, All}
use Rattle.std.proofs.lemmas.List.Elements.{All-cons}
use Rattle.ovl_names.specs.Names.{PathName, name_eq}
use Rattle.ovl_names.specs.Paths.{PathNames, child_path, parent_path}
use Rattle.ovl_names.proofs.Ascending.{both}
use Rattle.ovl_inode.specs.declared.inodes.Inode.{Inode}
use Rattle.ovl_inode.specs.Marks.{is_directory}
use Rattle.ovl_layer.specs.Layers.{IsLayer}
use Rattle.ovl_lookup.specs.Trace.{things_found}
use Rattle.ovl_lookup.specs.Passes.{own_names_along}
use Rattle.ovl_lookup.proofs.LawsOfPaths.{parent_path-child}
use Rattle.ovl_lookup.proofs.LawsOfFound.{child_found, any_found, starts_directory}
use Rattle.ovl_merge.specs.Places.{Merge, two_layers, first_of, first_hit, passes, shows_own_directory, is_hidden, natural, base, child_of, shows_at}
use Rattle.ovl_merge.specs.MergeDown.{merged_inode, new_whiteout, needs_whiteout, merged_entry_of, merged_entry}
use Rattle.ovl_lookup.proofs.LawsOfWalks.{directory_found}
use Rattle.ovl_merge.proofs.Firsts.{first_of-hits, first-cons, hit-no_whiteout}
use Rattle.ovl_merge.proofs.Inodes.{merged-is_directory, merged-is_other}
use Rattle.ovl_merge.proofs.Core.{natural-child, root-shown}

module _ (m : Merge) (upper : IsLayer m.upper) (lower : IsLayer m.lower) where
  pub two : All IsLayer (two_layers m).layers
  two = All-cons IsLayer m.upper (m.lower ∷ []) upper (All-cons IsLayer m.lower [] lower (λ k d inside. absurd (omega arith)))

  -- the entries that are directories are the shown directories
  pub entry-directory : (path : PathNames) → directory_found (merged_entry m path) ≡ shows_own_directory m path
  entry-directory path = by (first_hit m path) refl
    where
      white : (b : Bool) → directory_found (cond b (Some new_whiteout) None) ≡ false
      white true = refl
      white false = refl

      by : (o : Option Inode) → first_hit m path ≡ o → directory_found (merged_entry m path) ≡ shows_own_directory m path
      by None hit = ap (λ (o : Option Inode). directory_found (merged_entry_of m path o)) hit ∙ (white (needs_whiteout m path) ∙ sym (ap (passes is_directory) hit))
      by (Some inode) hit = ap (λ (o : Option Inode). directory_found (merged_entry_of m path o)) hit ∙ (sort (is_directory inode) refl ∙ sym (ap (passes is_directory) hit))
        where
          sort : (b : Bool) → is_directory inode ≡ b → is_directory (merged_inode m path inode) ≡ is_directory inode
          sort true d = merged-is_directory m path inode d ∙ sym d
          sort false d = (merged-is_other m path inode d hit (hit-no_whiteout m path inode upper lower hit)).0 ∙ sym d

  -- an entry's directory is shown, and its name is one that the two layers have along the walks of the directory,
  -- or one that the rest shows in the directory's base
  pub entry-stands : (path : PathNames) (name : PathName) (inode : Inode) → merged_entry m (child_path path name) ≡ Some inode
      → (shows_own_directory m path ≡ true) × ((list_any (name_eq name) (own_names_along (two_layers m).layers path) ≡ true) ⊎ (shows_at m.rest (child_of (base m path) name) ≡ true))
  entry-stands path name inode here = by (first_hit m (child_path path name)) refl
    where
      starts : (xs : List Inode) → starts_directory xs ≡ passes is_directory (first_of xs)
      starts [] = refl
      starts (x ∷ xs) = refl

      by : (o : Option Inode) → first_hit m (child_path path name) ≡ o → (shows_own_directory m path ≡ true) × ((list_any (name_eq name) (own_names_along (two_layers m).layers path) ≡ true) ⊎ (shows_at m.rest (child_of (base m path) name) ≡ true))
      by (Some first) hit =
          let any : any_found (things_found (two_layers m).layers (child_path path name)) ≡ true =
          ap any_found (first-cons (things_found (two_layers m).layers (child_path path name)) first (sym (first_of-hits (things_found (two_layers m).layers (child_path path name))) ∙ hit)) in
          let found = child_found (two_layers m).layers two path name any in (
            ap (passes is_directory) (first_of-hits (things_found (two_layers m).layers path)) ∙ (sym (starts (things_found (two_layers m).layers path)) ∙ found.0),
            inl found.1,
          )
      by None hit = needs (needs_whiteout m (child_path path name)) refl (sym (ap (merged_entry_of m (child_path path name)) hit) ∙ here)
        where
          needs : (b : Bool) → needs_whiteout m (child_path path name) ≡ b → cond b (Some new_whiteout) None ≡ Some inode → (shows_own_directory m path ≡ true) × ((list_any (name_eq name) (own_names_along (two_layers m).layers path) ≡ true) ⊎ (shows_at m.rest (child_of (base m path) name) ≡ true))
          needs false w k = let bad : None ≡ Some inode = k in cc
          needs true w k =
              let parts = both {a = is_hidden m (child_path path name) && shows_own_directory m (parent_path (child_path path name))} {b = shows_at m.rest (natural m (child_path path name))} w in (
                ap (shows_own_directory m) (sym (parent_path-child path name)) ∙ (both {a = is_hidden m (child_path path name)} {b = shows_own_directory m (parent_path (child_path path name))} parts.0).1,
                inr (ap (shows_at m.rest) (sym (natural-child m path name)) ∙ parts.1),
              )

  -- the root is an entry, and a directory
  pub root-entry : directory_found (merged_entry m []) ≡ true
  root-entry =
      let d = root-shown m upper in
      entry-directory [] ∙ (ap (passes is_directory) d.hit ∙ d.directory)
