-- The inodes that a merge writes: of a directory it is a directory again, of a file a file.
use Rattle.std.proofs.Common.{◌≡◌, ℕ, Bool, true, false, cond, Option, Some, None, List, [], ◌∷◌, refl, sym, ap, ◌∙◌, subst}
use Rattle.std.specs.Prelude.{◌&&◌}
use Rattle.ovl_names.specs.Names.{PathName}
use Rattle.ovl_names.specs.Paths.{PathNames, path_eq, path_text, child_path, parent_path, is_root}
use Rattle.ovl_names.proofs.Ascending.{both}
use Rattle.ovl_inode.specs.declared.inodes.Inode.{Inode}
use Rattle.ovl_inode.specs.declared.inodes.Kind.{Kind}
use Rattle.ovl_inode.specs.declared.inodes.Kind.TheVariants.{File}
use Rattle.ovl_inode.specs.Attributes.{Attributes, attribute, visible_attributes, redirect_name, metacopy_name, opaque_name, whiteout_name}
use Rattle.ovl_inode.specs.Marks.{is_directory, is_regular, is_whiteout, is_metacopy, has_metacopy}
use Rattle.ovl_inode.specs.Inodes.{visible}
use Rattle.ovl_layer.specs.Layers.{Entries}
use Rattle.ovl_lookup.specs.declared.looks.Look.{Look}
use Rattle.ovl_lookup.specs.declared.looks.Look.TheVariants.{Nothing, Shown, Broken}
use Rattle.ovl_lookup.specs.Trace.{things_found}
use Rattle.ovl_lookup.specs.Merged.{look, shown_of, data_of, without_blob}
use Rattle.ovl_lookup.proofs.LawsOfFound.{data-regular, shown_of-contents, shown_of-broken}
use Rattle.ovl_lookup.proofs.LawsOfInodes.{metacopy-file, attribute-hidden}
use Rattle.ovl_merge.specs.Places.{Merge, whole, reach, first_hit, gets_opaque, last_name}
use Rattle.ovl_merge.specs.MergeDown.{with_value, redirected, redirected_from, with_contents, merged_directory, merged_metacopy, unreached_metacopy, kept_place, merged_inode}
use Rattle.ovl_merge.proofs.Values.{attribute-other, visible-value, visible-visible, with_metacopy, whiteout-visible, whiteout-regular, directory-regular}
use Rattle.ovl_merge.proofs.Firsts.{whole-first, rest_of}

-- an inode gets a redirect or stays as it is
module _ (P : Inode → Type 0) (inode : Inode) (place : PathNames) (bare : P inode) (beside : P (with_value inode redirect_name (last_name place))) (absolute : P (with_value inode redirect_name (path_text place))) where
  redirected_from-cases : (above : Option PathNames) (own : PathName) → P (redirected_from above own inode place)
  redirected_from-cases None own = absolute
  redirected_from-cases (Some above) own = by (path_eq place (child_path above own)) (path_eq place (child_path above (last_name place)))
    where
      by : (one other : Bool) → P (cond one inode (cond other (with_value inode redirect_name (last_name place)) (with_value inode redirect_name (path_text place))))
      by true other = bare
      by false true = beside
      by false false = absolute

  pub redirected-cases : (m : Merge) (path : PathNames) → P (redirected m path inode place)
  redirected-cases m path = by (is_root path)
    where
      by : (b : Bool) → P (cond b inode (redirected_from (reach m (parent_path path)) (last_name path) inode place))
      by true = bare
      by false = redirected_from-cases (reach m (parent_path path)) (last_name path)

-- ---- directories

module _ (m : Merge) (path : PathNames) (inode : Inode) (is : is_directory inode ≡ true) where
  pub merged-directory : merged_inode m path inode ≡ merged_directory m path inode (reach m path)
  merged-directory = ap (λ b. cond b (merged_directory m path inode (reach m path)) (cond (is_metacopy inode) (merged_metacopy m path inode (reach m path)) (visible inode))) is

  pub by_reach : (P : Inode → Type 0) → P (visible inode) → ((value : List ℕ) → P (with_value (visible inode) redirect_name value)) → ((value : List ℕ) → P (with_value (visible inode) opaque_name value)) → (place : Option PathNames) → P (merged_directory m path inode place)
  by_reach P bare moved opaque (Some place) = redirected-cases P (visible inode) place bare (moved (last_name place)) (moved (path_text place)) m path
  by_reach P bare moved opaque None = by (gets_opaque m path)
    where
      by : (b : Bool) → P (cond b (with_value (visible inode) opaque_name (121 ∷ [])) (visible inode))
      by true = opaque (121 ∷ [])
      by false = bare

  pub merged-is_directory : is_directory (merged_inode m path inode) ≡ true
  merged-is_directory = ap is_directory merged-directory ∙ by_reach (λ i. is_directory i ≡ true) is (λ value. is) (λ value. is) (reach m path)

  pub merged-visible : visible (merged_inode m path inode) ≡ visible inode
  merged-visible =
      ap visible merged-directory
      ∙ by_reach (λ i. visible i ≡ visible inode) (visible-visible inode)
      (λ value. visible-value (visible inode) redirect_name value refl ∙ visible-visible inode)
      (λ value. visible-value (visible inode) opaque_name value refl ∙ visible-visible inode)
      (reach m path)

-- ---- files

abbrev pub IsOther : Inode → Type 0
IsOther inode = (is_directory inode ≡ false) × (is_whiteout inode ≡ false)

regular-other : (inode : Inode) → is_regular inode ≡ true → attribute inode.attrs whiteout_name ≡ None → IsOther inode
regular-other inode is bare = (directory-regular inode.kind is, whiteout-regular inode is bare)

pub bare-kind : (kind : Kind) → elim kind as (λ _. Bool) [ File size blob ↦ true | _ ↦ false ] ≡ true → elim (without_blob kind) as (λ _. Bool) [ File size blob ↦ true | _ ↦ false ] ≡ true
bare-kind (File size blob) is = refl
bare-kind _ is = let bad : false ≡ true = is in cc

-- what is shown of a metacopy file that is found first is a regular file
contents-regular : (data_only : List Entries) (inode : Inode) (below : List Inode) → is_metacopy inode ≡ true → is_regular (with_contents (visible inode) (shown_of data_only (inode ∷ below))) ≡ true
contents-regular data_only inode below meta = by (data_of data_only (inode ∷ below)) refl
  where
    bare : (is_regular inode && has_metacopy inode) ≡ true
    bare = (metacopy-file inode meta).1

    by : (o : Option Inode) → data_of data_only (inode ∷ below) ≡ o → is_regular (with_contents (visible inode) (shown_of data_only (inode ∷ below))) ≡ true
    by (Some contents) e =
        ap (λ (l : Look). is_regular (with_contents (visible inode) l)) (shown_of-contents data_only inode contents below bare e)
        ∙ (both {a = is_regular contents} (data-regular data_only (inode ∷ below) contents e)).0
    by None e =
        ap (λ (l : Look). is_regular (with_contents (visible inode) l)) (shown_of-broken data_only inode below bare e)
        ∙ bare-kind inode.kind (both {a = is_regular inode} {b = has_metacopy inode} bare).0

pub with_contents-attrs : (inode : Inode) (l : Look) → (with_contents inode l).attrs ≡ inode.attrs
with_contents-attrs inode Nothing = refl
with_contents-attrs inode (Shown shown) = refl
with_contents-attrs inode (Broken broken) = refl

with_metacopy-bare : (inode : Inode) → attribute (with_metacopy inode).attrs whiteout_name ≡ None
with_metacopy-bare inode = attribute-other (visible_attributes inode.attrs) metacopy_name [] whiteout_name refl ∙ attribute-hidden inode.attrs whiteout_name refl

module _ (m : Merge) (path : PathNames) (inode : Inode) (is : is_directory inode ≡ false) where
  pub merged-metacopy : is_metacopy inode ≡ true → merged_inode m path inode ≡ merged_metacopy m path inode (reach m path)
  merged-metacopy meta =
      λ j. cond (is j) (merged_directory m path inode (reach m path)) (cond (meta j) (merged_metacopy m path inode (reach m path)) (visible inode))

  pub merged-other : is_metacopy inode ≡ false → merged_inode m path inode ≡ visible inode
  merged-other none =
      λ j. cond (is j) (merged_directory m path inode (reach m path)) (cond (none j) (merged_metacopy m path inode (reach m path)) (visible inode))

  pub merged-is_other : first_hit m path ≡ Some inode → is_whiteout inode ≡ false → IsOther (merged_inode m path inode)
  merged-is_other hit white = by (is_metacopy inode) refl
    where
      by : (b : Bool) → is_metacopy inode ≡ b → IsOther (merged_inode m path inode)
      by false e = subst IsOther (sym (merged-other e)) (is, whiteout-visible inode (visible_attributes inode.attrs) white (attribute-hidden inode.attrs whiteout_name refl))
      by true e = subst IsOther (sym (merged-metacopy e)) (at (reach m path))
        where
          regular : is_regular inode ≡ true
          regular = (both {a = is_regular inode} {b = has_metacopy inode} (metacopy-file inode e).1).0

          other : (value : List ℕ) → IsOther (with_value (with_metacopy inode) redirect_name value)
          other value =
              regular-other (with_value (with_metacopy inode) redirect_name value) regular
              (attribute-other (with_metacopy inode).attrs redirect_name value whiteout_name refl ∙ with_metacopy-bare inode)

          unreached : (place : Option PathNames) → IsOther (unreached_metacopy m path inode place)
          unreached (Some place) = other (path_text place)
          unreached None =
              regular-other (with_contents (visible inode) (look (whole m) path))
              (ap (λ (xs : List Inode). is_regular (with_contents (visible inode) (shown_of m.rest.data_only xs))) (whole-first m path inode hit)
              ∙ contents-regular m.rest.data_only inode (rest_of (things_found (whole m).layers path)) e)
              (ap (λ (a : Attributes). attribute a whiteout_name) (with_contents-attrs (visible inode) (look (whole m) path)) ∙ attribute-hidden inode.attrs whiteout_name refl)

          at : (place : Option PathNames) → IsOther (merged_metacopy m path inode place)
          at (Some place) =
              redirected-cases IsOther (with_metacopy inode) place
              (regular-other (with_metacopy inode) regular (with_metacopy-bare inode))
              (other (last_name place)) (other (path_text place)) m path
          at None = unreached (kept_place m path)
