-- Laws of inodes: their marks, what of them is visible, and which are sound.
use Rattle.std.proofs.Common.{◌≡◌, ℕ, Bool, true, false, cond, Some, None, List, [], ◌∷◌, refl, sym, ap, ◌∙◌, Option}
use Rattle.std.specs.Prelude.{not, filter, ◌&&◌, ◌||◌, ◌==◌, is_some}
use Rattle.std.specs.BTreeMap.{insert_entry}
use Rattle.std.specs.Ordering.{match_ordering}
use Rattle.std.specs.Cmp.Lexicographic.{bytes_decides}
use Rattle.std.specs.declared.cmp.Ordering.{Ordering}
use Rattle.std.specs.declared.cmp.Ordering.TheVariants.{Less, Equal, Greater}
use Rattle.std.specs.List.{list_all, list_any}
use Rattle.std.proofs.lemmas.Map.Entries.{lookup-filter-keys}
use Rattle.std.proofs.Math.Bool.{and-false}
use Rattle.ovl_names.specs.Names.{name_cmp, name_eq}
use Rattle.ovl_names.proofs.Ascending.{both}
use Rattle.ovl_inode.specs.Attributes.{Attributes, attribute, with_attribute, visible_attributes, is_overlay_name, redirect_name, opaque_name, metacopy_name, whiteout_name, has_escaped_name, is_escaped_name}
use Rattle.ovl_inode.specs.declared.inodes.Inode.{Inode}
use Rattle.ovl_inode.specs.declared.inodes.Kind.{Kind}
use Rattle.ovl_inode.specs.declared.inodes.Kind.TheVariants.{Dir, File, Char}
use Rattle.ovl_inode.specs.declared.marks.Mark.TheVariants.{Whiteout, DirOpaque, Leaf, Meta, DirMoved, DirBad, DirPlain, MetaBad}
use Rattle.ovl_inode.specs.declared.marks.Mark.{Mark}
use Rattle.ovl_inode.specs.declared.marks.Redirect.{Redirect}
use Rattle.ovl_inode.specs.Redirects.{read_redirect}
use Rattle.ovl_inode.specs.Marks.{mark_of, is_metacopy, is_metacopy_mark, is_directory, is_regular, is_whiteout, has_opaque, has_metacopy, redirect_reading, directory_mark, metacopy_mark, is_data, has_attribute}
use Rattle.ovl_inode.specs.Inodes.{visible}
use Rattle.ovl_inode.specs.Sound.{is_sound_inode, is_sound_kind}
use Rattle.ovl_inode.proofs.AttributeLemmas.{are_attributes-visible}
use Rattle.ovl_inode.proofs.SoundLaws.{sound_values, sound-with, kind-full}
use Rattle.ovl_layer.proofs.NodeLemmas.{name_eq-same, name_eq-cmp}
use Rattle.ovl_lookup.specs.Sound.{is_malformed, is_meta}
use Rattle.ovl_lookup.proofs.LawsOfPaths.{filter-all}

pub attribute-with : (attrs : Attributes) (name value : List ℕ) → attribute (with_attribute attrs name value) name ≡ Some value
attribute-with [] name value = ap (λ b. cond b (Some value) None) (name_eq-same name)
attribute-with (attr ∷ attrs) name value = by (attribute-with attrs name value) (name_cmp name attr.0) refl
  where
    by : attribute (with_attribute attrs name value) name ≡ Some value → (o : Ordering) → name_cmp name attr.0 ≡ o → attribute (match_ordering o ((name, value) ∷ attr ∷ attrs) ((attr.0, value) ∷ attrs) (attr ∷ insert_entry name_cmp attrs name value)) name ≡ Some value
    by later Less e = ap (λ b. cond b (Some value) (attribute (attr ∷ attrs) name)) (name_eq-same name)
    by later Equal e = ap (λ b. cond b (Some value) (attribute attrs name)) (name_eq-cmp name attr.0 Equal e)
    by later Greater e = ap (λ b. cond b (Some attr.1) (attribute (with_attribute attrs name value) name)) (name_eq-cmp name attr.0 Greater e) ∙ later

pub visible-with : (attrs : Attributes) (name value : List ℕ) → is_overlay_name name ≡ true → visible_attributes (with_attribute attrs name value) ≡ visible_attributes attrs
visible-with [] name value own = ap (λ b. cond (not b) ((name, value) ∷ []) []) own
visible-with (attr ∷ attrs) name value own = by (visible-with attrs name value own) (name_cmp name attr.0) refl
  where
    by : visible_attributes (with_attribute attrs name value) ≡ visible_attributes attrs → (o : Ordering) → name_cmp name attr.0 ≡ o → visible_attributes (match_ordering o ((name, value) ∷ attr ∷ attrs) ((attr.0, value) ∷ attrs) (attr ∷ insert_entry name_cmp attrs name value)) ≡ visible_attributes (attr ∷ attrs)
    by later Less e = ap (λ b. cond (not b) ((name, value) ∷ visible_attributes (attr ∷ attrs)) (visible_attributes (attr ∷ attrs))) own
    by later Equal e =
        let same : name ≡ attr.0 = (bytes_decides name attr.0).0 (name_eq-cmp name attr.0 Equal e) in
        let hidden : is_overlay_name attr.0 ≡ true = ap is_overlay_name (sym same) ∙ own in
        ap (λ b. cond (not b) ((attr.0, value) ∷ visible_attributes attrs) (visible_attributes attrs)) hidden
        ∙ sym (ap (λ b. cond (not b) (attr ∷ visible_attributes attrs) (visible_attributes attrs)) hidden)
    by later Greater e = ap (λ (rest : Attributes). cond (not (is_overlay_name attr.0)) (attr ∷ rest) rest) later

-- ---- the marks of a directory and of a metacopy file, by how their redirect reads

pub by_reading : (P : Mark → Mark → Type 0) → P DirPlain (Meta None) → P DirBad MetaBad → ((redirect : Redirect) → P (DirMoved redirect) (Meta (Some redirect)))
    → (inode : Inode) → P (directory_mark (redirect_reading inode)) (metacopy_mark (redirect_reading inode))
by_reading P absent malformed says inode = by (attribute inode.attrs redirect_name) refl
  where
    said : (value : List ℕ) → attribute inode.attrs redirect_name ≡ Some value → (redirect : Option Redirect) → read_redirect value ≡ redirect → P (directory_mark (redirect_reading inode)) (metacopy_mark (redirect_reading inode))
    said value e None f = rw (e, redirect_reading) (rw f malformed)
    said value e (Some redirect) f = rw (e, redirect_reading) (rw f (says redirect))

    by : (found : Option (List ℕ)) → attribute inode.attrs redirect_name ≡ found → P (directory_mark (redirect_reading inode)) (metacopy_mark (redirect_reading inode))
    by None e = rw (e, redirect_reading) absent
    by (Some value) e = said value e (read_redirect value) refl

-- ---- the mark and the kind of a metacopy file

-- however its `redirect` reads, a directory's mark is that of no metacopy file
directory_mark-plain : (inode : Inode) → is_metacopy_mark (directory_mark (redirect_reading inode)) ≡ false
directory_mark-plain inode = by_reading (λ own meta. is_metacopy_mark own ≡ false) refl refl (λ redirect. refl) inode

-- a metacopy file's mark is that of no directory, and says `metacopy`
metacopy_cases : (whiteout directory opaque file : Bool) (of_directory of_file : Mark) → is_metacopy_mark of_directory ≡ false → is_metacopy_mark (cond whiteout Whiteout (cond (directory && opaque) DirOpaque (cond directory of_directory (cond file of_file Leaf)))) ≡ true → (directory ≡ false) × (file ≡ true)
metacopy_cases true directory opaque file of_directory of_file plain is = let bad : false ≡ true = is in cc
metacopy_cases false true true file of_directory of_file plain is = let bad : false ≡ true = is in cc
metacopy_cases false true false file of_directory of_file plain is = let bad : false ≡ true = sym plain ∙ is in cc
metacopy_cases false false opaque true of_directory of_file plain is = (refl, refl)
metacopy_cases false false opaque false of_directory of_file plain is = let bad : false ≡ true = is in cc

pub metacopy-file : (inode : Inode) → is_metacopy inode ≡ true → (is_directory inode ≡ false) × ((is_regular inode && has_metacopy inode) ≡ true)
metacopy-file inode is =
    metacopy_cases (is_whiteout inode) (is_directory inode) (has_opaque inode) (is_regular inode && has_metacopy inode)
    (directory_mark (redirect_reading inode)) (metacopy_mark (redirect_reading inode)) (directory_mark-plain inode) is

-- a regular file is no directory, and a directory no regular file
pub regular_kind : (kind : Kind) → elim kind as (λ _. Bool) [ File size blob ↦ true | _ ↦ false ] ≡ true → elim kind as (λ _. Bool) [ Dir ↦ true | _ ↦ false ] ≡ false
regular_kind Dir is = let bad : false ≡ true = is in cc
regular_kind _ is = refl

pub directory-kind : (kind : Kind) → (elim kind as (λ _. Bool) [ Dir ↦ true | _ ↦ false ]) ≡ true → (elim kind as (λ _. Bool) [ File size blob ↦ true | _ ↦ false ]) ≡ false
directory-kind Dir is = refl
directory-kind (File size blob) is = let bad : false ≡ true = is in cc
directory-kind _ is = refl

-- a regular file with `metacopy` is no directory, and has no contents itself
pub bare_file : (inode : Inode) → (is_regular inode && has_metacopy inode) ≡ true → (is_directory inode ≡ false) × (is_data inode ≡ false)
bare_file inode bare =
    let parts = both {a = is_regular inode} {b = has_metacopy inode} bare in
    (regular_kind inode.kind parts.0, (λ j. parts.0 j && not (parts.1 j)))

-- ---- a directory is no whiteout

abbrev pub whiteout_test : Kind → Bool → Bool
whiteout_test kind had = elim kind as (λ _. Bool) [ Char major minor ↦ major == 0 && minor == 0 | File size blob ↦ size == 0 && had | _ ↦ false ]

directory_test : (kind : Kind) (had : Bool) → elim kind as (λ _. Bool) [ Dir ↦ true | _ ↦ false ] ≡ true → whiteout_test kind had ≡ false
directory_test Dir had is = refl
directory_test (File size blob) had is = let bad : false ≡ true = is in cc
directory_test (Char major minor) had is = let bad : false ≡ true = is in cc
directory_test _ had is = refl

pub directory-no_whiteout : (inode : Inode) → is_directory inode ≡ true → is_whiteout inode ≡ false
directory-no_whiteout inode is = directory_test inode.kind (has_attribute inode whiteout_name) is

-- ---- an inode as it is shown: without attributes of the overlay, and no whiteout

pub record IsVisible (inode : Inode) : Type 0 where
  pub bare : visible_attributes inode.attrs ≡ inode.attrs
  pub thing : is_whiteout inode ≡ false

all_passed : {X : Type 0} (test : X → Bool) (xs : List X) → list_all test (filter test xs) ≡ true
all_passed test [] = refl
all_passed {X} test (x ∷ xs) = by (test x) refl (all_passed test xs)
  where
    by : (b : Bool) → test x ≡ b → list_all test (filter test xs) ≡ true → list_all test (cond b (x ∷ filter test xs) (filter test xs)) ≡ true
    by true e later = (λ j. e j && later j)
    by false e later = later

pub visible-twice : (attrs : Attributes) → visible_attributes (visible_attributes attrs) ≡ visible_attributes attrs
visible-twice attrs = filter-all (λ attr. not (is_overlay_name attr.0)) (visible_attributes attrs) (all_passed (λ attr. not (is_overlay_name attr.0)) attrs)

pub attribute-hidden : (attrs : Attributes) (name : List ℕ) → is_overlay_name name ≡ true → attribute (visible_attributes attrs) name ≡ None
attribute-hidden attrs name own =
    lookup-filter-keys (name_eq name) (λ k. not (is_overlay_name k)) false
    (λ k same. ap (λ n. not (is_overlay_name n)) (sym ((bytes_decides name k).0 same)) ∙ ap not own) attrs

-- it is its own visible one, and no metacopy file
pub visible-own : (inode : Inode) → IsVisible inode → visible inode ≡ inode
visible-own inode v = λ j. record inode { attrs = v.bare j }

pub visible-full : (inode : Inode) → IsVisible inode → (is_regular inode && has_metacopy inode) ≡ false
visible-full inode v =
    ap (λ o. is_regular inode && is_some o) (ap (λ a. attribute a metacopy_name) (sym v.bare) ∙ attribute-hidden inode.attrs metacopy_name refl)
    ∙ and-false (is_regular inode)

-- its mark is that of a plain directory, or of a leaf
pub visible-mark : (inode : Inode) → IsVisible inode → mark_of inode ≡ cond (is_directory inode) DirPlain Leaf
visible-mark inode v =
    (λ j. cond (v.thing j) Whiteout (cond (is_directory inode && closed j) DirOpaque (cond (is_directory inode) (plain j) (cond (is_regular inode && is_some (none metacopy_name refl j)) (metacopy_mark (redirect_reading inode)) Leaf))))
    ∙ by (is_directory inode) (is_regular inode)
  where
    none : (name : List ℕ) → is_overlay_name name ≡ true → attribute inode.attrs name ≡ None
    none name own = ap (λ a. attribute a name) (sym v.bare) ∙ attribute-hidden inode.attrs name own

    closed : has_opaque inode ≡ false
    closed = ap (λ o. elim o as (λ _. Bool) [ Some found ↦ name_eq found (121 ∷ []) | None ↦ false ]) (none opaque_name refl)

    plain : directory_mark (redirect_reading inode) ≡ DirPlain
    plain = rw (none redirect_name refl, redirect_reading) refl

    by : (d r : Bool) → cond (d && false) DirOpaque (cond d DirPlain (cond (r && false) (metacopy_mark (redirect_reading inode)) Leaf)) ≡ cond d DirPlain Leaf
    by true r = refl
    by false true = refl
    by false false = refl

abbrev is_meta_or_bad : Mark → Bool
is_meta_or_bad mark = is_meta (Some mark) || is_malformed (Some mark)

meta_cases : (whiteout directory opaque file : Bool) (own meta : Mark) → whiteout ≡ false → directory ≡ false → file ≡ true → is_meta_or_bad meta ≡ true
    → is_meta_or_bad (cond whiteout Whiteout (cond (directory && opaque) DirOpaque (cond directory own (cond file meta Leaf)))) ≡ true
meta_cases true directory opaque file own meta w d f m = let bad : true ≡ false = w in cc
meta_cases false true opaque file own meta w d f m = let bad : true ≡ false = d in cc
meta_cases false false opaque false own meta w d f m = let bad : false ≡ true = f in cc
meta_cases false false opaque true own meta w d f m = m

-- the mark of a file with `metacopy` that is no whiteout
pub bare-mark : (inode : Inode) → is_whiteout inode ≡ false → (is_regular inode && has_metacopy inode) ≡ true → is_meta_or_bad (mark_of inode) ≡ true
bare-mark inode thing bare =
    meta_cases (is_whiteout inode) (is_directory inode) (has_opaque inode) (is_regular inode && has_metacopy inode) (directory_mark (redirect_reading inode)) (metacopy_mark (redirect_reading inode)) thing
    (regular_kind inode.kind (both {a = is_regular inode} {b = has_metacopy inode} bare).0) bare
    (by_reading (λ own meta. is_meta_or_bad meta ≡ true) refl refl (λ redirect. refl) inode)

-- ---- the marks of directories

abbrev pub is_directory_mark : Mark → Bool
is_directory_mark DirOpaque = true
is_directory_mark (DirMoved redirect) = true
is_directory_mark DirBad = true
is_directory_mark DirPlain = true
is_directory_mark _ = false

-- however its `redirect` reads
directory_mark-is : (inode : Inode) → is_directory_mark (directory_mark (redirect_reading inode)) ≡ true
directory_mark-is inode = by_reading (λ own meta. is_directory_mark own ≡ true) refl refl (λ redirect. refl) inode

metacopy_mark-isnt : (inode : Inode) → is_directory_mark (metacopy_mark (redirect_reading inode)) ≡ false
metacopy_mark-isnt inode = by_reading (λ own meta. is_directory_mark meta ≡ false) refl refl (λ redirect. refl) inode

mark-cases : (whiteout directory opaque file : Bool) (of_directory of_file : Mark) → is_directory_mark of_directory ≡ true → is_directory_mark of_file ≡ false → whiteout ≡ false → is_directory_mark (cond whiteout Whiteout (cond (directory && opaque) DirOpaque (cond directory of_directory (cond file of_file Leaf)))) ≡ directory
mark-cases true directory opaque file of_directory of_file marked unmarked none = let bad : true ≡ false = none in cc
mark-cases false true true file of_directory of_file marked unmarked none = refl
mark-cases false true false file of_directory of_file marked unmarked none = marked
mark-cases false false opaque true of_directory of_file marked unmarked none = unmarked
mark-cases false false opaque false of_directory of_file marked unmarked none = refl

pub mark-directory : (inode : Inode) → is_whiteout inode ≡ false → is_directory_mark (mark_of inode) ≡ is_directory inode
mark-directory inode none =
    mark-cases (is_whiteout inode) (is_directory inode) (has_opaque inode) (is_regular inode && has_metacopy inode)
    (directory_mark (redirect_reading inode)) (metacopy_mark (redirect_reading inode)) (directory_mark-is inode) (metacopy_mark-isnt inode) none

-- the mark of a directory, and of another thing that is found
pub directory-marked : (inode : Inode) → is_directory inode ≡ true → is_directory_mark (mark_of inode) ≡ true
directory-marked inode is = mark-directory inode (directory-no_whiteout inode is) ∙ is

-- ---- sound inodes

pub data-kind : (contents : Inode) → is_data contents ≡ true → is_sound_inode contents ≡ true → is_sound_kind contents.kind false ≡ true
data-kind contents own sound = kind-full contents.kind (has_metacopy contents) (by (has_metacopy contents) (both {a = is_regular contents} {b = not (has_metacopy contents)} own).1) (sound_values contents sound).kind
  where
    by : (b : Bool) → not b ≡ true → (is_regular contents && b) ≡ false
    by true n = let bad : false ≡ true = n in cc
    by false n = and_false (is_regular contents)
      where
        and_false : (c : Bool) → (c && false) ≡ false
        and_false true = refl
        and_false false = refl

-- with the attributes that are shown, and a kind that is sound without `metacopy`
pub sound-visible : (inode : Inode) (kind : Kind) → is_sound_inode inode ≡ true → is_sound_kind kind false ≡ true → is_sound_inode (record (visible inode) { kind = kind }) ≡ true
sound-visible inode kind sound kinds =
    sound-with inode kind (visible_attributes inode.attrs) sound
    (ap (λ o. is_sound_kind kind (is_some o)) (attribute-hidden inode.attrs metacopy_name refl) ∙ kinds)
    (are_attributes-visible inode.attrs (sound_values inode sound).attrs)

-- ---- no escaped attribute

any-filter_none : {X : Type 0} (test keep : X → Bool) (xs : List X) → list_any test xs ≡ false → list_any test (filter keep xs) ≡ false
any-filter_none test keep [] none = refl
any-filter_none {X} test keep (x ∷ xs) none = by (keep x) (test x) refl none (any-filter_none test keep xs)
  where
    by : (k t : Bool) → test x ≡ t → (t || list_any test xs) ≡ false → (list_any test xs ≡ false → list_any test (filter keep xs) ≡ false) → list_any test (cond k (x ∷ filter keep xs) (filter keep xs)) ≡ false
    by k true e n later = let bad : true ≡ false = n in cc
    by true false e n later = ap (λ b. b || list_any test (filter keep xs)) e ∙ later n
    by false false e n later = later n

pub unescaped-filter : (keep : List ℕ × List ℕ → Bool) (attrs : Attributes) → has_escaped_name attrs ≡ false → has_escaped_name (filter keep attrs) ≡ false
unescaped-filter keep attrs none = any-filter_none (λ attr. is_escaped_name attr.0) keep attrs none
