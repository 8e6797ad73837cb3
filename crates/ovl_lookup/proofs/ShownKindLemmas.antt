-- Of what kind it is that is shown, by the first thing found.
use Rattle.std.proofs.Common.{◌≡◌, Bool, true, false, Option, Some, None, List, ◌∷◌, refl, sym, ap, ◌∙◌}
use Rattle.std.specs.Prelude.{◌&&◌, not}
use Rattle.ovl_names.proofs.Ascending.{both}
use Rattle.ovl_inode.specs.declared.inodes.Inode.{Inode}
use Rattle.ovl_inode.specs.declared.inodes.Kind.{Kind}
use Rattle.ovl_inode.specs.declared.inodes.Kind.TheVariants.{File}
use Rattle.ovl_inode.specs.Marks.{is_regular, has_metacopy}
use Rattle.ovl_layer.specs.Layers.{Entries}
use Rattle.ovl_lookup.specs.declared.shown_kinds.ShownKind.TheVariants.{File as RegularFile}
use Rattle.ovl_lookup.specs.Merged.{data_of, shown_of, without_blob}
use Rattle.ovl_lookup.specs.ShownKinds.{shown_kind_of, shown_kind_of_kind, shown_kind_of_broken}
use Rattle.ovl_lookup.proofs.LawsOfFound.{data-regular, shown_of-full, shown_of-contents, shown_of-broken}

regular-kind : (kind : Kind) → elim kind as (λ _. Bool) [ File size blob ↦ true | _ ↦ false ] ≡ true → shown_kind_of_kind kind ≡ RegularFile
regular-kind (File size blob) is = refl
regular-kind _ is = let bad : false ≡ true = is in cc

broken-kind : (kind : Kind) → elim kind as (λ _. Bool) [ File size blob ↦ true | _ ↦ false ] ≡ true → shown_kind_of_broken (without_blob kind) ≡ RegularFile
broken-kind (File size blob) is = refl
broken-kind _ is = let bad : false ≡ true = is in cc

-- whatever data it has, a metacopy file is a regular file
pub shown_kind-first : (data_only : List Entries) (inode : Inode) (below : List Inode) → shown_kind_of (shown_of data_only (inode ∷ below)) ≡ shown_kind_of_kind inode.kind
shown_kind-first data_only inode below = by (is_regular inode && has_metacopy inode) refl
  where
    copied : (is_regular inode && has_metacopy inode) ≡ true → (found : Option Inode) → data_of data_only (inode ∷ below) ≡ found → shown_kind_of (shown_of data_only (inode ∷ below)) ≡ shown_kind_of_kind inode.kind
    copied bare None e =
        let regular = (both {a = is_regular inode} {b = has_metacopy inode} bare).0 in
        ap shown_kind_of (shown_of-broken data_only inode below bare e) ∙ (broken-kind inode.kind regular ∙ sym (regular-kind inode.kind regular))
    copied bare (Some contents) e =
        ap shown_kind_of (shown_of-contents data_only inode contents below bare e)
        ∙ (regular-kind contents.kind (both {a = is_regular contents} {b = not (has_metacopy contents)} (data-regular data_only (inode ∷ below) contents e)).0
        ∙ sym (regular-kind inode.kind (both {a = is_regular inode} {b = has_metacopy inode} bare).0))

    by : (b : Bool) → (is_regular inode && has_metacopy inode) ≡ b → shown_kind_of (shown_of data_only (inode ∷ below)) ≡ shown_kind_of_kind inode.kind
    by true bare = copied bare (data_of data_only (inode ∷ below)) refl
    by false full = ap shown_kind_of (shown_of-full data_only inode below full)
