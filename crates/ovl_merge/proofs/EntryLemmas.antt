-- The new inodes of the entries of a directory, by what is kept of that.
use Rattle.std.proofs.Common.{◌≡◌, Bool, true, cond, Option, Some, None, [], ◌∷◌, length, arith, refl, sym, ap, ◌∙◌}
use Rattle.std.specs.Prelude.{◌&&◌, not, is_none, codes}
use Rattle.std.specs.Cmp.Lexicographic.{pointwise_decides, bytes_decides}
use Rattle.ovl_names.specs.Names.{PathName}
use Rattle.ovl_names.specs.Paths.{PathNames, child_path, path_eq}
use Rattle.ovl_inode.specs.declared.inodes.Inode.{Inode}
use Rattle.ovl_inode.specs.Attributes.{Attributes, metacopy_name, opaque_name, visible_attributes}
use Rattle.ovl_inode.specs.Marks.{is_directory}
use Rattle.ovl_inode.specs.Inodes.{visible}
use Rattle.ovl_lookup.specs.declared.looks.Look.{Look}
use Rattle.ovl_lookup.specs.Merged.{is_shown_directory}
use Rattle.ovl_lookup.specs.Stacks.{StackView}
use Rattle.ovl_lookup.specs.Words.{look_on}
use Rattle.ovl_lookup.proofs.LawsOfPaths.{length-child}
use Rattle.ovl_merge.specs.declared.bases.Base.{Base}
use Rattle.ovl_merge.specs.declared.directories.Directory.{Directory}
use Rattle.ovl_merge.specs.declared.names_in_both.NameInBoth.{NameInBoth}
use Rattle.ovl_merge.specs.declared.bases.Base.TheVariants.{Reached, Apart}
use Rattle.ovl_merge.specs.Places.{Merge, merge_of, first_hit, passes, shows_own_directory, reach, base, child_of, gets_opaque, shows_directory_at}
use Rattle.ovl_merge.specs.MergeDown.{with_value, redirected_from, merged_directory, merged_metacopy}
use Rattle.ovl_merge.specs.Reckoned.{IsBase, name_directly_in, next_lookup_at, reached_in}
use Rattle.ovl_merge.specs.NamesInBoth.{IsNameInBoth, first_in}
use Rattle.ovl_merge.proofs.Core.{last_name-child, natural-child}
use Rattle.ovl_merge.proofs.BaseLemmas.{directory-on as shown-on}
use Rattle.ovl_merge.proofs.NameInBothLemmas.{name_in_both-first}
use Rattle.ovl_merge.proofs.VisitLemmas.{directory-told, metacopy-told}

-- ---- what is shown of one without attributes

pub visible-bare : (inode : Inode) (attrs : Attributes) → attrs ≡ inode.attrs → length attrs ≡ 0 → inode ≡ visible inode
visible-bare inode [] same none =
    ap (λ (attrs : Attributes). record inode { attrs = attrs }) (sym same) ∙ ap (λ (attrs : Attributes). record inode { attrs = visible_attributes attrs }) same
visible-bare inode (attr ∷ attrs) same none = absurd (omega (arith, none))

-- ---- one that goes on

module _ (m : Merge) (dir : PathNames) (name : PathName) (inode shown : Inode) (seen : shown ≡ visible inode) (new : Inode) (some : reach m (child_path dir name) ≡ None → ⊥) where
  pub directory-on : ((place : PathNames) → reach m (child_path dir name) ≡ Some place → new ≡ redirected_from (reach m dir) name shown place) → new ≡ merged_directory m (child_path dir name) inode (reach m (child_path dir name))
  directory-on told = by (reach m (child_path dir name)) refl
    where
      by : (r : Option PathNames) → reach m (child_path dir name) ≡ r → new ≡ merged_directory m (child_path dir name) inode (reach m (child_path dir name))
      by None e = absurd (some e)
      by (Some place) e = told place e ∙ directory-told m dir (child_path dir name) name refl inode shown seen (reach m dir) (reach m (child_path dir name)) refl place e

  pub metacopy-on : (copied : Inode) → copied ≡ with_value shown metacopy_name [] → ((place : PathNames) → reach m (child_path dir name) ≡ Some place → new ≡ redirected_from (reach m dir) name copied place)
      → new ≡ merged_metacopy m (child_path dir name) inode (reach m (child_path dir name))
  metacopy-on copied made told = by (reach m (child_path dir name)) refl
    where
      by : (r : Option PathNames) → reach m (child_path dir name) ≡ r → new ≡ merged_metacopy m (child_path dir name) inode (reach m (child_path dir name))
      by None e = absurd (some e)
      by (Some place) e = told place e ∙ metacopy-told m dir (child_path dir name) name refl inode shown seen (reach m dir) (reach m (child_path dir name)) refl copied made place e

-- ---- a directory that doesn't

pub opaque-told : (m : Merge) (dir : PathNames) (name : PathName) (inode : Inode) → first_hit m (child_path dir name) ≡ Some inode → is_directory inode ≡ true → reach m (child_path dir name) ≡ None
    → gets_opaque m (child_path dir name) ≡ shows_directory_at m.rest (child_of (base m dir) name)
opaque-told m dir name inode hit d none =
    let shown : shows_own_directory m (child_path dir name) ≡ true = ap (passes is_directory) hit ∙ d in
    (λ j. not (length-child dir name j) && shown j && is_none (none j) && shows_directory_at m.rest (natural-child m dir name j))

-- ... by the name in both of its name, and what is hidden there
pub hides-told : (m : Merge) (above : Directory) (name : PathName) (inode : Inode) (name_in_both : NameInBoth) → IsNameInBoth m (child_path above.path name) (next_lookup_at above.lower) name_in_both → Some inode ≡ first_in name_in_both → is_directory inode ≡ true
    → reach m (child_path above.path name) ≡ None → (hidden : Look) → hidden ≡ look_on m.rest (child_of (base m above.path) name) → (b : Bool) → b ≡ is_shown_directory hidden → gets_opaque m (child_path above.path name) ≡ b
hides-told m above name inode name_in_both is first d none hidden looked b shown =
    let path : PathNames = child_path above.path name in
    let hit : first_hit m path ≡ Some inode = sym (first ∙ name_in_both-first m path (next_lookup_at above.lower) name_in_both is) in
    opaque-told m above.path name inode hit d none
    ∙ (sym (shown-on m.rest (child_of (base m above.path) name)) ∙ (ap is_shown_directory (sym looked) ∙ sym shown))

pub directory-apart : (m : Merge) (path : PathNames) (inode shown : Inode) → shown ≡ visible inode → reach m path ≡ None → (b : Bool) → gets_opaque m path ≡ b → cond b (with_value shown opaque_name (codes "y")) shown ≡ merged_directory m path inode (reach m path)
directory-apart m path inode shown seen none b hides =
    (λ j. cond b (with_value (seen j) opaque_name (codes "y")) (seen j))
    ∙ (ap (λ (c : Bool). cond c (with_value (visible inode) opaque_name (codes "y")) (visible inode)) (sym hides)
    ∙ sym (ap (merged_directory m path inode) none))

-- ---- redirects

pub directly-child : (dir : PathNames) (name : PathName) → Some name ≡ name_directly_in (Some dir) (child_path dir name)
directly-child dir name =
    sym ((λ j. cond (path_eq (child_path dir name) (child_path dir (last_name-child dir name j))) (Some (last_name-child dir name j)) None)
    ∙ ap (λ (b : Bool). cond b (Some name) None) ((pointwise_decides bytes_decides (child_path dir name) (child_path dir name)).1 refl))

pub base-reached : (stack : StackView) (dir : PathNames) (own : Base) → IsBase stack dir own → reached_in own ≡ reach (merge_of stack) dir
base-reached stack dir (Reached view) is = sym is.0
base-reached stack dir Apart is = sym is.0
