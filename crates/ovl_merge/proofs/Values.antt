-- The attributes of a visible inode and of one with a value, and the mark that they give.
use Rattle.std.proofs.Common.{◌≡◌, ℕ, List, [], ◌∷◌, Bool, true, false, cond, Some, None, is_some, refl, sym, ap, ◌∙◌}
use Rattle.std.specs.Prelude.{◌&&◌, ◌==◌, codes}
use Rattle.std.specs.declared.cmp.Ordering.{Ordering}
use Rattle.std.specs.declared.cmp.Ordering.TheVariants.{Less, Equal, Greater}
use Rattle.std.specs.Cmp.Lexicographic.{bytes_decides}
use Rattle.ovl_names.specs.Names.{name_eq, name_cmp}
use Rattle.ovl_inode.specs.declared.inodes.Inode.{Inode}
use Rattle.ovl_inode.specs.declared.inodes.Kind.{Kind}
use Rattle.ovl_inode.specs.declared.inodes.Kind.TheVariants.{Dir, File, Symlink, Char, Block, Fifo, Socket}
use Rattle.ovl_inode.specs.declared.marks.Mark.TheVariants.{Whiteout, DirOpaque, DirMoved, DirPlain, Meta, Leaf}
use Rattle.ovl_inode.specs.declared.marks.Redirect.{Redirect}
use Rattle.ovl_inode.specs.Attributes.{Attributes, attribute, with_attribute, visible_attributes, is_overlay_name, opaque_name, redirect_name, metacopy_name, whiteout_name}
use Rattle.ovl_inode.specs.Marks.{mark_of, is_directory, is_regular, is_whiteout, has_metacopy, has_opaque, redirect_reading, directory_mark, metacopy_mark}
use Rattle.ovl_inode.specs.Redirects.{read_redirect}
use Rattle.ovl_inode.specs.Inodes.{visible}
use Rattle.ovl_layer.proofs.NodeLemmas.{name_eq-cmp}
use Rattle.ovl_lookup.proofs.LawsOfInodes.{attribute-with, visible-with, attribute-hidden, visible-twice}
use Rattle.ovl_merge.specs.MergeDown.{with_value}

-- the value that was put leaves those at other names
pub attribute-other : (attrs : Attributes) (name value other : List ℕ) → name_eq other name ≡ false → attribute (with_attribute attrs name value) other ≡ attribute attrs other
attribute-other [] name value other ne = ap (λ b. cond b (Some value) None) ne
attribute-other (attr ∷ attrs) name value other ne = by (attribute-other attrs name value other ne) (name_cmp name attr.0) refl
  where
    by : attribute (with_attribute attrs name value) other ≡ attribute attrs other → (o : Ordering) → name_cmp name attr.0 ≡ o → attribute (with_attribute (attr ∷ attrs) name value) other ≡ attribute (attr ∷ attrs) other
    by later Less e = rw e (ap (λ b. cond b (Some value) (attribute (attr ∷ attrs) other)) ne)
    by later Equal e =
        let same : name_eq other attr.0 ≡ false = ap (name_eq other) (sym ((bytes_decides name attr.0).0 (name_eq-cmp name attr.0 Equal e))) ∙ ne in
        rw e (ap (λ b. cond b (Some value) (attribute attrs other)) same ∙ sym (ap (λ b. cond b (Some attr.1) (attribute attrs other)) same))
    by later Greater e = rw e (ap (λ o. cond (name_eq other attr.0) (Some attr.1) o) later)

-- what is shown of an inode with a value of the overlay's, and of a visible one
pub visible-value : (inode : Inode) (name value : List ℕ) → is_overlay_name name ≡ true → visible (with_value inode name value) ≡ visible inode
visible-value inode name value own = ap (λ (a : Attributes). record inode { attrs = a }) (visible-with inode.attrs name value own)

pub visible-visible : (inode : Inode) → visible (visible inode) ≡ visible inode
visible-visible inode = ap (λ (a : Attributes). record inode { attrs = a }) (visible-twice inode.attrs)

-- ---- marks

and_false : (b : Bool) → (b && false) ≡ false
and_false true = refl
and_false false = refl

-- the marks of a directory and of a metacopy file without a redirect, and with one of this value
plain-marks : (inode : Inode) → attribute inode.attrs redirect_name ≡ None → (directory_mark (redirect_reading inode) ≡ DirPlain) × (metacopy_mark (redirect_reading inode) ≡ Meta None)
plain-marks inode none = (rw (none, redirect_reading) refl, rw (none, redirect_reading) refl)

moved-marks : (inode : Inode) (value : List ℕ) (redirect : Redirect) → attribute inode.attrs redirect_name ≡ Some value → read_redirect value ≡ Some redirect
    → (directory_mark (redirect_reading inode) ≡ DirMoved redirect) × (metacopy_mark (redirect_reading inode) ≡ Meta (Some redirect))
moved-marks inode value redirect some reads = (rw (some, redirect_reading) (rw reads refl), rw (some, redirect_reading) (rw reads refl))

-- a directory's mark, by its attributes
pub mark-directory : (inode : Inode) → is_directory inode ≡ true → mark_of inode ≡ cond (has_opaque inode) DirOpaque (directory_mark (redirect_reading inode))
mark-directory inode is = by inode.kind is
  where
    by : (kind : Kind) → elim kind as (λ _. Bool) [ Dir ↦ true | _ ↦ false ] ≡ true → mark_of (record inode { kind = kind }) ≡ cond (has_opaque inode) DirOpaque (directory_mark (redirect_reading inode))
    by Dir is = refl
    by _ is = let bad : false ≡ true = is in cc

-- the mark of a regular file with `metacopy` and without `whiteout`
pub mark-metacopy : (inode : Inode) → is_regular inode ≡ true → attribute inode.attrs whiteout_name ≡ None → has_metacopy inode ≡ true → mark_of inode ≡ metacopy_mark (redirect_reading inode)
mark-metacopy inode is bare meta = by inode.kind is
  where
    by : (kind : Kind) → elim kind as (λ _. Bool) [ File size blob ↦ true | _ ↦ false ] ≡ true → mark_of (record inode { kind = kind }) ≡ metacopy_mark (redirect_reading inode)
    by (File size blob) is =
        ap (λ b. cond b Whiteout (cond (has_metacopy inode) (metacopy_mark (redirect_reading inode)) Leaf)) (ap (λ o. (size == 0) && is_some o) bare ∙ and_false (size == 0))
        ∙ ap (λ b. cond b (metacopy_mark (redirect_reading inode)) Leaf) meta
    by _ is = let bad : false ≡ true = is in cc

-- an inode without `whiteout` that has the kind of one that is no whiteout is none
pub whiteout-visible : (inode : Inode) (attrs : Attributes) → is_whiteout inode ≡ false → attribute attrs whiteout_name ≡ None → is_whiteout (record inode { attrs = attrs }) ≡ false
whiteout-visible inode attrs is bare = by inode.kind is
  where
    by : (kind : Kind) → is_whiteout (record inode { kind = kind }) ≡ false → is_whiteout (record inode { kind = kind; attrs = attrs }) ≡ false
    by (File size blob) is = ap (λ o. (size == 0) && is_some o) bare ∙ and_false (size == 0)
    by Dir is = is
    by (Symlink target) is = is
    by (Char major minor) is = is
    by (Block major minor) is = is
    by Fifo is = is
    by Socket is = is

-- a regular file without `whiteout` is no whiteout, and no directory
pub whiteout-regular : (inode : Inode) → is_regular inode ≡ true → attribute inode.attrs whiteout_name ≡ None → is_whiteout inode ≡ false
whiteout-regular inode is bare = by inode.kind is
  where
    by : (kind : Kind) → elim kind as (λ _. Bool) [ File size blob ↦ true | _ ↦ false ] ≡ true → is_whiteout (record inode { kind = kind }) ≡ false
    by (File size blob) is = ap (λ o. (size == 0) && is_some o) bare ∙ and_false (size == 0)
    by _ is = let bad : false ≡ true = is in cc

pub directory-regular : (kind : Kind) → elim kind as (λ _. Bool) [ File size blob ↦ true | _ ↦ false ] ≡ true → elim kind as (λ _. Bool) [ Dir ↦ true | _ ↦ false ] ≡ false
directory-regular Dir is = let bad : false ≡ true = is in cc
directory-regular _ is = refl

-- ---- the marks that a merge writes on a visible inode

pub mark-plain : (inode : Inode) → is_directory inode ≡ true → mark_of (visible inode) ≡ DirPlain
mark-plain inode is =
    mark-directory (visible inode) is
    ∙ (λ j. cond (elim (attribute-hidden inode.attrs opaque_name refl j) as (λ _. Bool) [ Some found ↦ name_eq found (codes "y") | None ↦ false ]) DirOpaque
    ((plain-marks (visible inode) (attribute-hidden inode.attrs redirect_name refl)).0 j))

pub mark-opaque : (inode : Inode) → is_directory inode ≡ true → mark_of (with_value (visible inode) opaque_name (codes "y")) ≡ DirOpaque
mark-opaque inode is =
    mark-directory (with_value (visible inode) opaque_name (codes "y")) is
    ∙ (λ j. cond (elim (attribute-with (visible_attributes inode.attrs) opaque_name (codes "y") j) as (λ _. Bool) [ Some found ↦ name_eq found (codes "y") | None ↦ false ]) DirOpaque (directory_mark (redirect_reading (with_value (visible inode) opaque_name (codes "y")))))

pub mark-moved : (inode : Inode) (value : List ℕ) (redirect : Redirect) → is_directory inode ≡ true → read_redirect value ≡ Some redirect → mark_of (with_value (visible inode) redirect_name value) ≡ DirMoved redirect
mark-moved inode value redirect is reads =
    let bare : attribute (with_attribute (visible_attributes inode.attrs) redirect_name value) opaque_name ≡ None =
    attribute-other (visible_attributes inode.attrs) redirect_name value opaque_name refl ∙ attribute-hidden inode.attrs opaque_name refl in
    mark-directory (with_value (visible inode) redirect_name value) is
    ∙ (λ j. cond (elim (bare j) as (λ _. Bool) [ Some found ↦ name_eq found (codes "y") | None ↦ false ]) DirOpaque
    ((moved-marks (with_value (visible inode) redirect_name value) value redirect (attribute-with (visible_attributes inode.attrs) redirect_name value) reads).0 j))

-- a metacopy file, without a redirect and with one
abbrev pub with_metacopy : Inode → Inode
with_metacopy inode = with_value (visible inode) metacopy_name []

pub mark-copied : (inode : Inode) → is_regular inode ≡ true → mark_of (with_metacopy inode) ≡ Meta None
mark-copied inode is =
    let attrs : Attributes = visible_attributes inode.attrs in
    let bare : attribute (with_attribute attrs metacopy_name []) whiteout_name ≡ None =
    attribute-other attrs metacopy_name [] whiteout_name refl ∙ attribute-hidden inode.attrs whiteout_name refl in
    let none : attribute (with_attribute attrs metacopy_name []) redirect_name ≡ None =
    attribute-other attrs metacopy_name [] redirect_name refl ∙ attribute-hidden inode.attrs redirect_name refl in
    mark-metacopy (with_metacopy inode) is bare (ap is_some (attribute-with attrs metacopy_name []))
    ∙ (plain-marks (with_metacopy inode) none).1

pub mark-copied_moved : (inode : Inode) (value : List ℕ) (redirect : Redirect) → is_regular inode ≡ true → read_redirect value ≡ Some redirect → mark_of (with_value (with_metacopy inode) redirect_name value) ≡ Meta (Some redirect)
mark-copied_moved inode value redirect is reads =
    let attrs : Attributes = with_attribute (visible_attributes inode.attrs) metacopy_name [] in
    let bare : attribute (with_attribute attrs redirect_name value) whiteout_name ≡ None =
    attribute-other attrs redirect_name value whiteout_name refl
    ∙ (attribute-other (visible_attributes inode.attrs) metacopy_name [] whiteout_name refl ∙ attribute-hidden inode.attrs whiteout_name refl) in
    let copied : attribute (with_attribute attrs redirect_name value) metacopy_name ≡ Some [] =
    attribute-other attrs redirect_name value metacopy_name refl ∙ attribute-with (visible_attributes inode.attrs) metacopy_name [] in
    mark-metacopy (with_value (with_metacopy inode) redirect_name value) is bare (ap is_some copied)
    ∙ (moved-marks (with_value (with_metacopy inode) redirect_name value) value redirect (attribute-with attrs redirect_name value) reads).1
