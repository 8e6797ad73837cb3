-- What a dereferenced layer has, and that it shows what was shown.
use Rattle.std.proofs.Common.{◌≡◌, ℕ, Bool, true, false, cond, Option, Some, None, List, [], ◌∷◌, ◌++◌, refl, sym, ap, ◌∙◌, subst, append_assoc, inl, inr, ◌⊎◌}
use Rattle.std.specs.Prelude.{◌||◌, ◌&&◌, ◌==◌, not, is_some, is_none, codes}
use Rattle.std.specs.Option.{option_map}
use Rattle.std.specs.List.{All}
use Rattle.std.specs.Cmp.{unsigned_Decides}
use Rattle.std.specs.Cmp.Lexicographic.{bytes_decides}
use Rattle.std.proofs.lemmas.List.{append-nil}
use Rattle.std.proofs.Math.Bool.{or-true}
use Rattle.std.proofs.lemmas.Map.Entries.{lookup-filter-keys}
use Rattle.ovl_names.specs.Names.{PathName, name_eq}
use Rattle.ovl_names.specs.Paths.{PathNames, child_path}
use Rattle.ovl_names.proofs.Ascending.{both, not_false}
use Rattle.ovl_inode.specs.declared.inodes.Inode.{Inode}
use Rattle.ovl_inode.specs.declared.inodes.Kind.{Kind}
use Rattle.ovl_inode.specs.declared.inodes.Kind.TheVariants.{Dir, File, Symlink, Char, Block, Fifo, Socket}
use Rattle.ovl_inode.specs.declared.marks.Mark.{Mark}
use Rattle.ovl_inode.specs.declared.marks.Mark.TheVariants.{Whiteout, DirOpaque, DirMoved, DirBad, DirPlain, Meta, MetaBad, Leaf}
use Rattle.ovl_inode.specs.Attributes.{Attributes, attribute, visible_attributes, is_overlay_name, opaque_name, redirect_name, metacopy_name, whiteout_name}
use Rattle.ovl_inode.specs.Inodes.{visible}
use Rattle.ovl_inode.specs.Kinds.{size_of}
use Rattle.ovl_inode.specs.Marks.{mark_of, is_directory, is_regular, is_whiteout, is_metacopy, is_metacopy_mark, has_attribute, has_opaque, has_metacopy, redirect_reading, directory_mark, metacopy_mark, is_data}
use Rattle.ovl_layer.specs.Layers.{Entries, entry_at, is_directory_at, IsLayer}
use Rattle.ovl_lookup.specs.declared.looks.Look.{Look}
use Rattle.ovl_lookup.specs.declared.looks.Look.TheVariants.{Nothing, Shown, Broken}
use Rattle.ovl_lookup.specs.Walk.{walk, walk_beyond, walk_to_file, nothing_found, found_at_end, mark_at, turn, is_shut}
use Rattle.ovl_lookup.specs.Stacks.{StackView}
use Rattle.ovl_lookup.specs.Trace.{things_found}
use Rattle.ovl_lookup.specs.Merged.{look, shown_of, data_of, is_shown_directory}
use Rattle.ovl_lookup.specs.ShownInodes.{inode_shown}
use Rattle.ovl_lookup.specs.Sound.{IsSoundStack, is_moved, is_malformed, is_meta, has_other_size}
use Rattle.ovl_lookup.proofs.LawsOfInodes.{visible-own, visible-full, metacopy-file, attribute-with, visible-with, by_reading, IsVisible, visible-twice, visible-mark, directory-no_whiteout}
use Rattle.ovl_lookup.proofs.LawsOfFound.{shown_of-full, shown_of-contents, data-regular}
use Rattle.ovl_lookup.proofs.LawsOfWalks.{walk-stop, directory-above, directory-parent, directory-entry, mark-file, directory_found, mark-child, same-mark, same-turn, same-walk, Beyond, walk-end, walk-past, BeyondFrom, end-from, is_shut-at}
use Rattle.ovl_lookup.proofs.LawsOfPaths.{parent_path-child, filter-filter, last-name, by_child}
use Rattle.ovl_lookup.specs.Words.{over, SameEntries}
use Rattle.ovl_lookup.proofs.LawsOfLooks.{look-by, look-same, look-closed, nothing-under, shown-visible, is_broken, never-broken, data-there, all-over, entry-found, entry-directory_shown, Faultless, Calm, calm-visible, calm-faultless, inode-whole, sound-first, sound-rest, sound-whole}
use Rattle.ovl_deref.specs.Deref.{any_prefix, is_in_moved, unfolded, full_attributes, filled, dereferenced_inode, IsDereferenced}
use Rattle.ovl_deref.specs.Laws.{DerefKeepsTree, DerefKeepsSoundness}

-- ---- a test at some prefix

or_assoc : (a b c : Bool) → (a || (b || c)) ≡ ((a || b) || c)
or_assoc true b c = refl
or_assoc false b c = refl

pub neither : (a b : Bool) → (a || b) ≡ false → (a ≡ false) × (b ≡ false)
neither true b e = let bad : true ≡ false = e in cc
neither false b e = (refl, e)

pub any_prefix-child : (test : PathNames → Bool) (path : PathNames) (name : PathName) → any_prefix test (child_path path name) ≡ (any_prefix test path || test (child_path path name))
any_prefix-child test [] name = refl
any_prefix-child test (first ∷ path) name =
    ap (λ b. test [] || b) (any_prefix-child (λ rest. test (first ∷ rest)) path name)
    ∙ or_assoc (test []) (any_prefix (λ rest. test (first ∷ rest)) path) (test (first ∷ child_path path name))

pub any_prefix-front : (test : PathNames → Bool) (front back : PathNames) → any_prefix test (front ++ back) ≡ false → any_prefix test front ≡ false
any_prefix-front test front [] e = ap (any_prefix test) (sym (append-nil front)) ∙ e
any_prefix-front test front (name ∷ back) e =
    let deeper = any_prefix-front test (child_path front name) back (ap (any_prefix test) (append_assoc front (name ∷ []) back) ∙ e) in
    (neither (any_prefix test front) (test (child_path front name)) (sym (any_prefix-child test front name) ∙ deeper)).0

pub any_prefix-under : (test : PathNames → Bool) (front back : PathNames) → any_prefix test front ≡ true → any_prefix test (front ++ back) ≡ true
any_prefix-under test front [] e = ap (any_prefix test) (append-nil front) ∙ e
any_prefix-under test front (name ∷ back) e =
    ap (any_prefix test) (sym (append_assoc front (name ∷ []) back))
    ∙ any_prefix-under test (child_path front name) back (any_prefix-child test front name ∙ ap (λ b. b || test (child_path front name)) e)

-- ---- what becomes of an inode

-- a moved entry is a directory
moved_cases : (whiteout directory opaque file : Bool) (own meta : Mark) → is_moved (Some meta) ≡ false → is_moved (Some (cond whiteout Whiteout (cond (directory && opaque) DirOpaque (cond directory own (cond file meta Leaf))))) ≡ true → directory ≡ true
moved_cases true directory opaque file own meta m is = let bad : false ≡ true = is in cc
moved_cases false true opaque file own meta m is = refl
moved_cases false false opaque true own meta m is = let bad : false ≡ true = sym m ∙ is in cc
moved_cases false false opaque false own meta m is = let bad : false ≡ true = is in cc

pub moved-directory : (inode : Inode) → is_moved (Some (mark_of inode)) ≡ true → is_directory inode ≡ true
moved-directory inode is = moved_cases (is_whiteout inode) (is_directory inode) (has_opaque inode) (is_regular inode && has_metacopy inode) (directory_mark (redirect_reading inode)) (metacopy_mark (redirect_reading inode))
    (by_reading (λ own meta. is_moved (Some meta) ≡ false) refl refl (λ redirect. refl) inode) is

-- unfolded it is opaque, and looks as before
name_eq_same : (name : List ℕ) → name_eq name name ≡ true
name_eq_same name = (bytes_decides name name).1 refl

pub unfolded-mark : (inode : Inode) → is_directory inode ≡ true → mark_of (unfolded inode) ≡ DirOpaque
unfolded-mark inode directory =
    let thing : is_whiteout (unfolded inode) ≡ false = directory-no_whiteout (unfolded inode) directory in
    let opaque : has_opaque (unfolded inode) ≡ true = ap (λ o. elim o as (λ _. Bool) [ Some found ↦ name_eq found (codes "y") | None ↦ false ]) (attribute-with (visible_attributes inode.attrs) opaque_name (codes "y")) ∙ name_eq_same (codes "y") in
    (λ j. cond (thing j) Whiteout (cond (directory j && opaque j) DirOpaque (cond (is_directory inode) (directory_mark (redirect_reading (unfolded inode))) (cond (is_regular inode && has_metacopy (unfolded inode)) (metacopy_mark (redirect_reading (unfolded inode))) Leaf))))

pub unfolded-visible : (inode : Inode) → visible (unfolded inode) ≡ visible inode
unfolded-visible inode = λ j. record inode { attrs = (visible-with (visible_attributes inode.attrs) opaque_name (codes "y") refl ∙ visible-twice inode.attrs) j }

-- a metacopy file made full with contents of the same size is a leaf, and looks as it did with them
abbrev whiteout_test : Kind → Bool → Bool
whiteout_test kind had = elim kind as (λ _. Bool) [ Char major minor ↦ major == 0 && minor == 0 | File size blob ↦ size == 0 && had | _ ↦ false ]

abbrev file_test : Kind → Bool
file_test kind = elim kind as (λ _. Bool) [ File size blob ↦ true | _ ↦ false ]

abbrev directory_test : Kind → Bool
directory_test kind = elim kind as (λ _. Bool) [ Dir ↦ true | _ ↦ false ]

abbrev size_test : Kind → ℕ
size_test kind = elim kind as (λ _. ℕ) [ File size blob ↦ size | _ ↦ 0 ]

same_whiteout : (kind other : Kind) (had : Bool) → file_test kind ≡ true → file_test other ≡ true → size_test kind ≡ size_test other → whiteout_test kind had ≡ whiteout_test other had
same_whiteout (File size blob) (File other_size other_blob) had f g e = ap (λ n. n == 0 && had) e
same_whiteout (File size blob) Dir had f g e = let bad : false ≡ true = g in cc
same_whiteout (File size blob) (Symlink target) had f g e = let bad : false ≡ true = g in cc
same_whiteout (File size blob) (Char major minor) had f g e = let bad : false ≡ true = g in cc
same_whiteout (File size blob) (Block major minor) had f g e = let bad : false ≡ true = g in cc
same_whiteout (File size blob) Fifo had f g e = let bad : false ≡ true = g in cc
same_whiteout (File size blob) Socket had f g e = let bad : false ≡ true = g in cc
same_whiteout Dir other had f g e = let bad : false ≡ true = f in cc
same_whiteout (Symlink target) other had f g e = let bad : false ≡ true = f in cc
same_whiteout (Char major minor) other had f g e = let bad : false ≡ true = f in cc
same_whiteout (Block major minor) other had f g e = let bad : false ≡ true = f in cc
same_whiteout Fifo other had f g e = let bad : false ≡ true = f in cc
same_whiteout Socket other had f g e = let bad : false ≡ true = f in cc

file_kind : (kind : Kind) → file_test kind ≡ true → directory_test kind ≡ false
file_kind Dir is = let bad : false ≡ true = is in cc
file_kind _ is = refl

-- which attributes a full file has
pub full-attribute : (attrs : Attributes) (name : List ℕ) (kept : Bool) → not (name_eq name metacopy_name || name_eq name redirect_name) ≡ kept → attribute (full_attributes attrs) name ≡ cond kept (attribute attrs name) None
full-attribute attrs name kept is =
    lookup-filter-keys (name_eq name) (λ k. not (name_eq k metacopy_name || name_eq k redirect_name)) kept
    (λ k same. ap (λ n. not (name_eq n metacopy_name || name_eq n redirect_name)) (sym ((bytes_decides name k).0 same)) ∙ is) attrs

-- what is shown is none of those that it lacks
full_shown : (attr : List ℕ × List ℕ) → not (is_overlay_name attr.0) ≡ true → not (name_eq attr.0 metacopy_name || name_eq attr.0 redirect_name) ≡ true
full_shown attr shown = by (name_eq attr.0 metacopy_name) refl (name_eq attr.0 redirect_name) refl
  where
    by : (m : Bool) → name_eq attr.0 metacopy_name ≡ m → (r : Bool) → name_eq attr.0 redirect_name ≡ r → not (m || r) ≡ true
    by false m false r = refl
    by true m b r =
        let same : attr.0 ≡ metacopy_name = (bytes_decides attr.0 metacopy_name).0 m in
        let bad : false ≡ true = ap (λ n. not (is_overlay_name n)) (sym same) ∙ shown in cc
    by false m true r =
        let same : attr.0 ≡ redirect_name = (bytes_decides attr.0 redirect_name).0 r in
        let bad : false ≡ true = ap (λ n. not (is_overlay_name n)) (sym same) ∙ shown in cc

-- the metacopy file with these contents, made full
abbrev made_full : Inode → Inode → Inode
made_full inode contents = record inode { kind = contents.kind; attrs = full_attributes inode.attrs }

module _ (inode contents : Inode) (thing : is_whiteout inode ≡ false) (bare : (is_regular inode && has_metacopy inode) ≡ true) (own : is_data contents ≡ true) (sized : size_of contents ≡ size_of inode) where
  regular : is_regular inode ≡ true
  regular = (both {a = is_regular inode} {b = has_metacopy inode} bare).0

  regular_contents : is_regular contents ≡ true
  regular_contents = (both {a = is_regular contents} {b = not (has_metacopy contents)} own).0

  pub full-thing : is_whiteout (made_full inode contents) ≡ false
  full-thing =
      ap (λ o. whiteout_test contents.kind (is_some o)) (full-attribute inode.attrs whiteout_name true refl)
      ∙ (same_whiteout contents.kind inode.kind (has_attribute inode whiteout_name) regular_contents regular sized ∙ thing)

  pub full-file : is_directory (made_full inode contents) ≡ false
  full-file = file_kind contents.kind regular_contents

  pub full-own : (is_regular (made_full inode contents) && has_metacopy (made_full inode contents)) ≡ false
  full-own = ap (λ o. is_regular contents && is_some o) (full-attribute inode.attrs metacopy_name false refl) ∙ and_false (is_regular contents)
    where
      and_false : (b : Bool) → (b && false) ≡ false
      and_false true = refl
      and_false false = refl

  pub full-mark : mark_of (made_full inode contents) ≡ Leaf
  full-mark = λ j. cond (full-thing j) Whiteout (cond (full-file j && has_opaque (made_full inode contents)) DirOpaque (cond (full-file j) (directory_mark (redirect_reading (made_full inode contents))) (cond (full-own j) (metacopy_mark (redirect_reading (made_full inode contents))) Leaf)))

  pub full-visible : visible (made_full inode contents) ≡ record (visible inode) { kind = contents.kind }
  full-visible = λ j. record inode { kind = contents.kind; attrs = filter-filter (λ attr. not (is_overlay_name attr.0)) (λ attr. not (name_eq attr.0 metacopy_name || name_eq attr.0 redirect_name)) inode.attrs full_shown j }

-- a leaf that is found is all that is found
pub leaf-walked : (inode : Inode) (turned : PathNames) (shut : Bool) (name : PathName) → is_whiteout inode ≡ false → mark_of inode ≡ Leaf → walk_beyond (Some inode) turned shut name [] ≡ found_at_end inode (child_path turned name) true
leaf-walked inode turned shut name thing mark = λ j. cond (thing j) (nothing_found (child_path turned name) true) (walk_to_file inode (mark j) turned shut name)

-- ---- the layer and what it is made of

module _ (top : Entries) (below : StackView) (is : IsLayer top) (each : All IsLayer below.layers) (sound : IsSoundStack (over top below)) (layer : Entries) (layered : IsLayer layer) (made : IsDereferenced layer top below) where
  -- the path is at or in a moved directory
  abbrev at_moved : PathNames → Bool
  at_moved path = any_prefix (λ prefix. is_moved (mark_at top prefix)) path

  in_moved-child : (path : PathNames) (name : PathName) → is_in_moved top (child_path path name) ≡ at_moved path
  in_moved-child path name = ap at_moved (parent_path-child path name)

  at_moved-child : (path : PathNames) (name : PathName) → at_moved (child_path path name) ≡ (at_moved path || is_moved (mark_at top (child_path path name)))
  at_moved-child path name = any_prefix-child (λ prefix. is_moved (mark_at top prefix)) path name

  -- the outermost moved directory at or above a path
  record Above (path : PathNames) : Type 0 where
    pub directory : PathNames
    pub name : PathName
    pub rest : PathNames
    pub whole : child_path directory name ++ rest ≡ path
    pub outside : at_moved directory ≡ false
    pub moved : is_moved (mark_at top (child_path directory name)) ≡ true

  above-of : (path : PathNames) → at_moved path ≡ true → Above path
  above-of = by_child (λ path. at_moved path ≡ true → Above path) (λ e. let bad : false ≡ true = e in cc) step
    where
      step : (path : PathNames) (name : PathName) → (at_moved path ≡ true → Above path) → at_moved (child_path path name) ≡ true → Above (child_path path name)
      step path name later e = by (at_moved path) refl (sym (at_moved-child path name) ∙ e)
        where
          by : (b : Bool) → at_moved path ≡ b → (at_moved path || is_moved (mark_at top (child_path path name))) ≡ true → Above (child_path path name)
          by true a any =
              let up = later a in
              record { directory = up.directory; name = up.name; rest = child_path up.rest name; whole = sym (append_assoc (child_path up.directory up.name) up.rest (name ∷ [])) ∙ ap (λ (p : PathNames). child_path p name) up.whole; outside = up.outside; moved = up.moved }
          by false a any =
              record { directory = path; name = name; rest = []; whole = append-nil (child_path path name); outside = a; moved = ap (λ b. b || is_moved (mark_at top (child_path path name))) (sym a) ∙ any }

  -- ---- outside of moved directories

  -- what becomes of an entry there
  abbrev kept : PathNames → Inode → Inode
  kept path inode = cond (is_metacopy inode) (filled inode (look (over top below) path)) inode

  entry-free : (path : PathNames) → at_moved path ≡ false → entry_at layer path ≡ option_map (kept path) (entry_at top path)
  entry-free path free = made path ∙ (λ j. cond (outside (last-name path) j) (inode_shown (look (over top below) path)) (option_map (λ inode. cond (unmoved (last-name path) j) (unfolded inode) (kept path inode)) (entry_at top path)))
    where
      outside : (path ≡ []) ⊎ ((directory : PathNames) × (name : PathName) × (path ≡ child_path directory name)) → is_in_moved top path ≡ false
      outside (inl e) = ap (is_in_moved top) e
      outside (inr (directory, name, e)) =
          ap (is_in_moved top) e ∙ (in_moved-child directory name ∙ (neither (at_moved directory) (is_moved (mark_at top (child_path directory name))) (sym (at_moved-child directory name) ∙ (ap at_moved (sym e) ∙ free))).0)

      unmoved : (path ≡ []) ⊎ ((directory : PathNames) × (name : PathName) × (path ≡ child_path directory name)) → is_moved (mark_at top path) ≡ false
      unmoved (inl e) = ap (λ (p : PathNames). is_moved (mark_at top p)) e
      unmoved (inr (directory, name, e)) =
          ap (λ (p : PathNames). is_moved (mark_at top p)) e ∙ (neither (at_moved directory) (is_moved (mark_at top (child_path directory name))) (sym (at_moved-child directory name) ∙ (ap at_moved (sym e) ∙ free))).1

  entry-kept : (path : PathNames) (inode : Inode) → at_moved path ≡ false → entry_at top path ≡ Some inode → entry_at layer path ≡ Some (kept path inode)
  entry-kept path inode free here = entry-free path free ∙ ap (option_map (kept path)) here

  not_metacopy : (inode : Inode) → is_directory inode ≡ true → is_metacopy inode ≡ false
  not_metacopy inode directory = by (is_metacopy inode) refl
    where
      by : (b : Bool) → is_metacopy inode ≡ b → b ≡ false
      by false e = refl
      by true e = sym directory ∙ (metacopy-file inode e).0

  directory-free : (path : PathNames) → at_moved path ≡ false → is_directory_at top path ≡ true → entry_at layer path ≡ entry_at top path
  directory-free path free holds =
      let found = directory-entry top path holds in
      let directory : is_directory found.0 ≡ true = ap directory_found (sym found.1) ∙ holds in
      entry-kept path found.0 free found.1
      ∙ (ap (λ b. Some (cond b (filled found.0 (look (over top below) path)) found.0)) (not_metacopy found.0 directory)
      ∙ sym found.1)

  along-free : (path : PathNames) → at_moved path ≡ false → is_directory_at top path ≡ true → SameEntries layer top path
  along-free path free holds front back e =
      directory-free front (any_prefix-front (λ prefix. is_moved (mark_at top prefix)) front back (ap at_moved e ∙ free))
      (directory-above top front back is (ap (is_directory_at top) e ∙ holds))

  -- a metacopy file there, with its data
  record Full (path : PathNames) (inode : Inode) : Type 0 where
    pub contents : Inode
    pub own : is_data contents ≡ true
    pub sized : size_of contents ≡ size_of inode
    pub shown : look (over top below) path ≡ Shown (record (visible inode) { kind = contents.kind })

  metacopy_thing : (inode : Inode) → is_metacopy inode ≡ true → is_whiteout inode ≡ false
  metacopy_thing inode meta = by (is_whiteout inode) refl meta
    where
      by : (w : Bool) → is_whiteout inode ≡ w → is_metacopy inode ≡ true → w ≡ false
      by false w m = refl
      by true w m = sym (ap (λ b. is_metacopy_mark (cond b Whiteout (cond (is_directory inode && has_opaque inode) DirOpaque (cond (is_directory inode) (directory_mark (redirect_reading inode)) (cond (is_regular inode && has_metacopy inode) (metacopy_mark (redirect_reading inode)) Leaf))))) (sym w) ∙ m)

  same_size : (meta : Bool) (contents inode : Inode) → meta ≡ true → (meta && not (size_of contents == size_of inode)) ≡ false → size_of contents ≡ size_of inode
  same_size true contents inode m e = (unsigned_Decides (size_of contents) (size_of inode)).0 (not_false (size_of contents == size_of inode) e)
  same_size false contents inode m e = let bad : false ≡ true = m in cc

  full-of : (path : PathNames) (inode : Inode) → entry_at top path ≡ Some inode → is_metacopy inode ≡ true → Full path inode
  full-of path inode here meta = by (data_of below.data_only (inode ∷ rest)) refl
    where
      rest : List Inode
      rest = cond (walk top path).closed [] (things_found below.layers (walk top path).next)

      thing : is_whiteout inode ≡ false
      thing = metacopy_thing inode meta

      parts : (is_directory inode ≡ false) × ((is_regular inode && has_metacopy inode) ≡ true)
      parts = metacopy-file inode meta

      good : Faultless top below path inode
      good = sound-first top below sound path inode here

      by : (o : Option Inode) → data_of below.data_only (inode ∷ rest) ≡ o → Full path inode
      by None e = let bad : true ≡ false = ap is_none (sym e) ∙ data-there top below path inode is good here thing parts.1 in cc
      by (Some contents) e = record {
        contents = contents;
        own = data-regular below.data_only (inode ∷ rest) contents e;
        sized = same_size (is_meta (mark_at top path)) contents inode (ap is_meta (mark-file top path inode is here parts.0) ∙ is_meta_of (mark_of inode) meta) (ap (λ o. is_meta (mark_at top path) && has_other_size inode o) (sym e) ∙ good.sized);
        shown = ap (shown_of below.data_only) (entry-found top below.layers path inode is here thing) ∙ shown_of-contents below.data_only inode contents rest parts.1 e;
      }
        where
          is_meta_of : (mark : Mark) → is_metacopy_mark mark ≡ true → is_meta (Some mark) ≡ true
          is_meta_of (Meta redirect) m = refl
          is_meta_of Whiteout m = let bad : false ≡ true = m in cc
          is_meta_of DirOpaque m = let bad : false ≡ true = m in cc
          is_meta_of (DirMoved redirect) m = let bad : false ≡ true = m in cc
          is_meta_of DirBad m = let bad : false ≡ true = m in cc
          is_meta_of DirPlain m = let bad : false ≡ true = m in cc
          is_meta_of MetaBad m = let bad : false ≡ true = m in cc
          is_meta_of Leaf m = let bad : false ≡ true = m in cc

  filled-full : (path : PathNames) (inode : Inode) (meta : is_metacopy inode ≡ true) (f : Full path inode) → kept path inode ≡ made_full inode f.contents
  filled-full path inode meta f =
      (λ j. cond (meta j) (filled inode (look (over top below) path)) inode) ∙ ap (filled inode) f.shown

  -- a file stays a file
  kept-file : (path : PathNames) (inode : Inode) → entry_at top path ≡ Some inode → is_directory inode ≡ false → is_directory (kept path inode) ≡ false
  kept-file path inode here file = by (is_metacopy inode) refl
    where
      by : (b : Bool) → is_metacopy inode ≡ b → is_directory (cond b (filled inode (look (over top below) path)) inode) ≡ false
      by false e = file
      by true e =
          let f = full-of path inode here e in
          ap is_directory (ap (filled inode) f.shown) ∙ full-file inode f.contents (metacopy_thing inode e) (metacopy-file inode e).1 f.own f.sized

  -- outside of moved directories the same is shown
  pub shown-free : (path : PathNames) → at_moved path ≡ false → look (over layer below) path ≡ look (over top below) path
  shown-free path free = by (walk-end top path is)
    where
      by : (is_directory_at top path ≡ true) ⊎ Beyond top path → look (over layer below) path ≡ look (over top below) path
      by (inl holds) = look-same layer top below path (same-walk layer top path layered is (along-free path free holds))
      by (inr b) = ends (entry_at top next) refl
        where
          next : PathNames
          next = child_path b.directory b.name

          whole : next ++ b.rest ≡ path
          whole = append_assoc b.directory (b.name ∷ []) b.rest ∙ b.whole

          free_next : at_moved next ≡ false
          free_next = any_prefix-front (λ prefix. is_moved (mark_at top prefix)) next b.rest (ap at_moved whole ∙ free)

          free_here : at_moved b.directory ≡ false
          free_here = (neither (at_moved b.directory) (is_moved (mark_at top next)) (sym (at_moved-child b.directory b.name) ∙ free_next)).0

          along : SameEntries layer top b.directory
          along = along-free b.directory free_here b.holds

          turned : (turn layer b.directory ≡ turn top b.directory) × (is_shut layer b.directory ≡ is_shut top b.directory)
          turned = same-turn layer top b.directory (λ front back e. same-mark layer top front (along front back e))

          holds : is_directory_at layer b.directory ≡ true
          holds = ap directory_found (directory-free b.directory free_here b.holds) ∙ b.holds

          -- the walk in the layer, by what is there
          walked : (found : Option Inode) → entry_at layer next ≡ found → directory_found found ≡ false → walk layer path ≡ walk_beyond found (turn top b.directory) (is_shut top b.directory) b.name b.rest
          walked found here file =
              ap (walk layer) (sym b.whole)
              ∙ (walk-stop layer b.directory b.name b.rest layered holds (ap directory_found here ∙ file)
              ∙ (λ j. walk_beyond (here j) (turned.0 j) (turned.1 j) b.name b.rest))

          was : (found : Option Inode) → entry_at top next ≡ found → walk top path ≡ walk_beyond found (turn top b.directory) (is_shut top b.directory) b.name b.rest
          was found here = walk-past top path is b ∙ ap (λ (o : Option Inode). walk_beyond o (turn top b.directory) (is_shut top b.directory) b.name b.rest) here

          ends : (found : Option Inode) → entry_at top next ≡ found → look (over layer below) path ≡ look (over top below) path
          ends None e = look-same layer top below path (walked None (entry-free next free_next ∙ ap (option_map (kept next)) e) refl ∙ sym (was None e))
          ends (Some inode) e = split (is_metacopy inode) refl b.rest refl
            where
              file : is_directory inode ≡ false
              file = ap directory_found (sym e) ∙ b.stops

              here : entry_at layer next ≡ Some (kept next inode)
              here = entry-kept next inode free_next e

              split : (meta : Bool) → is_metacopy inode ≡ meta → (rest : PathNames) → b.rest ≡ rest → look (over layer below) path ≡ look (over top below) path
              split false m rest r =
                  let same : kept next inode ≡ inode = λ j. cond (m j) (filled inode (look (over top below) next)) inode in
                  look-same layer top below path (walked (Some inode) (here ∙ ap (λ (i : Inode). Some i) same) file ∙ sym (was (Some inode) e))
              split true m (other ∷ rest) r =
                  look-same layer top below path
                  (walked (Some (kept next inode)) here (kept-file next inode e file)
                  ∙ (ap (λ (tail : PathNames). walk_beyond (Some (kept next inode)) (turn top b.directory) (is_shut top b.directory) b.name tail) r
                  ∙ (ap (λ (tail : PathNames). walk_beyond (Some inode) (turn top b.directory) (is_shut top b.directory) b.name tail) (sym r)
                  ∙ sym (was (Some inode) e))))
              split true m [] r =
                  let f = full-of next inode e m in
                  let thing = metacopy_thing inode m in
                  let bare = (metacopy-file inode m).1 in
                  let full : kept next inode ≡ made_full inode f.contents = filled-full next inode m f in
                  let end : path ≡ next = sym whole ∙ (ap (λ (tail : PathNames). next ++ tail) r ∙ append-nil next) in
                  look-by layer below path (found_at_end (made_full inode f.contents) (child_path (turn top b.directory) b.name) true)
                  (walked (Some (made_full inode f.contents)) (here ∙ ap (λ (i : Inode). Some i) full) (full-file inode f.contents thing bare f.own f.sized)
                  ∙ (ap (λ (tail : PathNames). walk_beyond (Some (made_full inode f.contents)) (turn top b.directory) (is_shut top b.directory) b.name tail) r
                  ∙ leaf-walked (made_full inode f.contents) (turn top b.directory) (is_shut top b.directory) b.name (full-thing inode f.contents thing bare f.own f.sized) (full-mark inode f.contents thing bare f.own f.sized)))
                  ∙ (shown_of-full below.data_only (made_full inode f.contents) [] (full-own inode f.contents thing bare f.own f.sized)
                  ∙ (ap (λ (i : Inode). Shown i) (full-visible inode f.contents thing bare f.own f.sized)
                  ∙ (sym f.shown
                  ∙ ap (look (over top below)) (sym end))))

  -- ---- at and in a moved directory

  each_over : All IsLayer (over top below).layers
  each_over = all-over top below is each

  whole_look : (path : PathNames) → is_broken (look (over top below) path) ≡ false
  whole_look path = never-broken (over top below) each_over sound path

  module _ (directory : PathNames) (name : PathName) (outside : at_moved directory ≡ false) (moved : is_moved (mark_at top (child_path directory name)) ≡ true) where
    -- the moved directory itself
    record Moved : Type 0 where
      pub inode : Inode
      pub here : entry_at top (child_path directory name) ≡ Some inode
      pub is_dir : is_directory inode ≡ true

    moved-of : Moved
    moved-of = by (entry_at top (child_path directory name)) refl
      where
        by : (found : Option Inode) → entry_at top (child_path directory name) ≡ found → Moved
        by None e = let bad : false ≡ true = ap is_moved (sym (mark-child top directory name None e)) ∙ moved in cc
        by (Some inode) e = record {
          inode = inode;
          here = e;
          is_dir = moved-directory inode (ap is_moved (sym (mark-child top directory name (Some inode) e)) ∙ moved);
        }

    entry-root : entry_at layer (child_path directory name) ≡ Some (unfolded moved-of.inode)
    entry-root =
        made (child_path directory name)
        ∙ ((λ j. cond ((in_moved-child directory name ∙ outside) j) (inode_shown (look (over top below) (child_path directory name))) (option_map (dereferenced_inode top below (child_path directory name)) (moved-of.here j)))
        ∙ ap (λ b. Some (cond b (unfolded moved-of.inode) (kept (child_path directory name) moved-of.inode))) moved)

    holds-root : is_directory_at layer (child_path directory name) ≡ true
    holds-root = ap directory_found entry-root ∙ moved-of.is_dir

    mark-root : mark_at layer (child_path directory name) ≡ Some DirOpaque
    mark-root = mark-child layer directory name (Some (unfolded moved-of.inode)) entry-root ∙ ap (λ m. Some m) (unfolded-mark moved-of.inode moved-of.is_dir)

    shut-root : is_shut layer (child_path directory name) ≡ true
    shut-root = is_shut-at layer directory name (Some DirOpaque) mark-root ∙ or-true (is_shut layer directory)

    shown-root : look (over layer below) (child_path directory name) ≡ look (over top below) (child_path directory name)
    shown-root =
        entry-directory_shown layer below (child_path directory name) (unfolded moved-of.inode) layered entry-root moved-of.is_dir
        ∙ (ap (λ (i : Inode). Shown i) (unfolded-visible moved-of.inode)
        ∙ sym (entry-directory_shown top below (child_path directory name) moved-of.inode is moved-of.here moved-of.is_dir))

    -- what is in it is what is shown there
    at_root : at_moved (child_path directory name) ≡ true
    at_root = at_moved-child directory name ∙ ((λ j. at_moved directory || moved j) ∙ or-true (at_moved directory))

    entry-in : (middle : PathNames) (own : PathName) → entry_at layer (child_path (child_path directory name ++ middle) own) ≡ inode_shown (look (over top below) (child_path (child_path directory name ++ middle) own))
    entry-in middle own =
        let path : PathNames = child_path directory name ++ middle in
        let within : is_in_moved top (child_path path own) ≡ true = in_moved-child path own ∙ any_prefix-under (λ prefix. is_moved (mark_at top prefix)) (child_path directory name) middle at_root in
        made (child_path path own)
        ∙ ap (λ b. cond b (inode_shown (look (over top below) (child_path path own))) (option_map (dereferenced_inode top below (child_path path own)) (entry_at top (child_path path own)))) within

    -- an inode that is there is one that is shown
    shown-there : (path : PathNames) (inode : Inode) → inode_shown (look (over top below) path) ≡ Some inode → look (over top below) path ≡ Shown inode
    shown-there path inode some = inode-whole (over top below) each_over sound path inode some

    visible-there : (path : PathNames) (inode : Inode) → look (over top below) path ≡ Shown inode → IsVisible inode
    visible-there path inode shown = shown-visible (over top below) each_over path inode shown

    mark-in : (middle : PathNames) (own : PathName) (inode : Inode) → entry_at layer (child_path (child_path directory name ++ middle) own) ≡ Some inode → mark_at layer (child_path (child_path directory name ++ middle) own) ≡ Some (cond (is_directory inode) DirPlain Leaf)
    mark-in middle own inode here =
        let path : PathNames = child_path (child_path directory name ++ middle) own in
        mark-child layer (child_path directory name ++ middle) own (Some inode) here
        ∙ ap (λ m. Some m) (visible-mark inode (visible-there path inode (shown-there path inode (sym (entry-in middle own) ∙ here))))

    -- its directories are shut
    shut-in : (rest : PathNames) → is_directory_at layer (child_path directory name ++ rest) ≡ true → is_shut layer (child_path directory name ++ rest) ≡ true
    shut-in = by_child (λ rest. is_directory_at layer (child_path directory name ++ rest) ≡ true → is_shut layer (child_path directory name ++ rest) ≡ true)
        (λ h. ap (is_shut layer) (append-nil (child_path directory name)) ∙ shut-root) step
      where
        step : (rest : PathNames) (own : PathName) → (is_directory_at layer (child_path directory name ++ rest) ≡ true → is_shut layer (child_path directory name ++ rest) ≡ true) → is_directory_at layer (child_path directory name ++ child_path rest own) ≡ true → is_shut layer (child_path directory name ++ child_path rest own) ≡ true
        step rest own later holds =
            let path : PathNames = child_path directory name ++ rest in
            let same : child_path directory name ++ child_path rest own ≡ child_path path own = sym (append_assoc (child_path directory name) rest (own ∷ [])) in
            let holds_there : is_directory_at layer (child_path path own) ≡ true = ap (is_directory_at layer) (sym same) ∙ holds in
            let found = directory-entry layer (child_path path own) holds_there in
            let is_dir : is_directory found.0 ≡ true = ap directory_found (sym found.1) ∙ holds_there in
            ap (is_shut layer) same
            ∙ (is_shut-at layer path own (Some DirPlain) (mark-in rest own found.0 found.1 ∙ ap (λ b. Some (cond b DirPlain Leaf)) is_dir)
            ∙ ap (λ b. b || false) (later (directory-parent layer path own layered holds_there)))

    -- the same is shown there
    shown-entry : (middle : PathNames) (own : PathName) (inode : Inode) → entry_at layer (child_path (child_path directory name ++ middle) own) ≡ Some inode → is_directory inode ≡ true → look (over layer below) (child_path (child_path directory name ++ middle) own) ≡ look (over top below) (child_path (child_path directory name ++ middle) own)
    shown-entry middle own inode here is_dir =
        let path : PathNames = child_path (child_path directory name ++ middle) own in
        let shown : look (over top below) path ≡ Shown inode = shown-there path inode (sym (entry-in middle own) ∙ here) in
        entry-directory_shown layer below path inode layered here is_dir
        ∙ (ap (λ (i : Inode). Shown i) (visible-own inode (visible-there path inode shown))
        ∙ sym shown)

    shown-in : (rest : PathNames) → look (over layer below) (child_path directory name ++ rest) ≡ look (over top below) (child_path directory name ++ rest)
    shown-in rest = by (end-from layer (child_path directory name) holds-root rest)
      where
        by : (is_directory_at layer (child_path directory name ++ rest) ≡ true) ⊎ BeyondFrom layer (child_path directory name) rest → look (over layer below) (child_path directory name ++ rest) ≡ look (over top below) (child_path directory name ++ rest)
        by (inl holds) = ends (last-name rest)
          where
            ends : (rest ≡ []) ⊎ ((middle : PathNames) × (own : PathName) × (rest ≡ child_path middle own)) → look (over layer below) (child_path directory name ++ rest) ≡ look (over top below) (child_path directory name ++ rest)
            ends (inl e) =
                let same : child_path directory name ++ rest ≡ child_path directory name = ap (λ (r : PathNames). child_path directory name ++ r) e ∙ append-nil (child_path directory name) in
                ap (look (over layer below)) same ∙ (shown-root ∙ ap (look (over top below)) (sym same))
            ends (inr (middle, own, e)) =
                let path : PathNames = child_path (child_path directory name ++ middle) own in
                let same : child_path directory name ++ rest ≡ path = ap (λ (r : PathNames). child_path directory name ++ r) e ∙ sym (append_assoc (child_path directory name) middle (own ∷ [])) in
                let holds_there : is_directory_at layer path ≡ true = ap (is_directory_at layer) (sym same) ∙ holds in
                let found = directory-entry layer path holds_there in
                ap (look (over layer below)) same
                ∙ (shown-entry middle own found.0 found.1 (ap directory_found (sym found.1) ∙ holds_there)
                ∙ ap (look (over top below)) (sym same))
        by (inr b) = ends (look (over top below) path) refl b.tail refl
          where
            path : PathNames
            path = child_path (child_path directory name ++ b.middle) b.name

            whole : path ++ b.tail ≡ child_path directory name ++ rest
            whole =
                append_assoc (child_path directory name ++ b.middle) (b.name ∷ []) b.tail
                ∙ (append_assoc (child_path directory name) b.middle (b.name ∷ b.tail)
                ∙ ap (λ (r : PathNames). child_path directory name ++ r) b.whole)

            turned : PathNames
            turned = turn layer (child_path directory name ++ b.middle)

            -- the walk in the layer, by what is there
            walked : (found : Option Inode) → entry_at layer path ≡ found → walk layer (child_path directory name ++ rest) ≡ walk_beyond found turned true b.name b.tail
            walked found here =
                ap (walk layer) (sym whole ∙ append_assoc (child_path directory name ++ b.middle) (b.name ∷ []) b.tail)
                ∙ (walk-stop layer (child_path directory name ++ b.middle) b.name b.tail layered b.holds b.stops
                ∙ (λ j. walk_beyond (here j) turned (shut-in b.middle b.holds j) b.name b.tail))

            -- nothing is shown under what is no directory
            nothing_there : (tail : PathNames) → b.tail ≡ tail → (next : PathName) (more : PathNames) → tail ≡ next ∷ more → is_shown_directory (look (over top below) path) ≡ false → look (over top below) (child_path directory name ++ rest) ≡ Nothing
            nothing_there tail t next more n none =
                ap (look (over top below)) (sym whole ∙ ap (λ (r : PathNames). path ++ r) (t ∙ n))
                ∙ nothing-under (over top below) each_over path next more none

            ends : (shown : Look) → look (over top below) path ≡ shown → (tail : PathNames) → b.tail ≡ tail → look (over layer below) (child_path directory name ++ rest) ≡ look (over top below) (child_path directory name ++ rest)
            ends (Broken inode) e tail t = let bad : true ≡ false = ap is_broken (sym e) ∙ whole_look path in cc
            ends Nothing e [] t =
                let none : entry_at layer path ≡ None = entry-in b.middle b.name ∙ ap inode_shown e in
                look-closed layer below (child_path directory name ++ rest) (turned ++ b.name ∷ b.tail) (walked None none)
                ∙ (sym e
                ∙ ap (look (over top below)) (sym (append-nil path) ∙ (ap (λ (r : PathNames). path ++ r) (sym t) ∙ whole)))
            ends Nothing e (next ∷ more) t =
                let none : entry_at layer path ≡ None = entry-in b.middle b.name ∙ ap inode_shown e in
                look-closed layer below (child_path directory name ++ rest) (turned ++ b.name ∷ b.tail) (walked None none)
                ∙ sym (nothing_there (next ∷ more) t next more refl (ap is_shown_directory e))
            ends (Shown inode) e [] t =
                let here : entry_at layer path ≡ Some inode = entry-in b.middle b.name ∙ ap inode_shown e in
                let file : is_directory inode ≡ false = ap directory_found (sym here) ∙ b.stops in
                let v = visible-there path inode e in
                let leaf : mark_of inode ≡ Leaf = visible-mark inode v ∙ ap (λ d. cond d DirPlain Leaf) file in
                look-by layer below (child_path directory name ++ rest) (found_at_end inode (child_path turned b.name) true)
                (walked (Some inode) here
                ∙ (ap (λ (r : PathNames). walk_beyond (Some inode) turned true b.name r) t
                ∙ leaf-walked inode turned true b.name v.thing leaf))
                ∙ (shown_of-full below.data_only inode [] (visible-full inode v)
                ∙ (ap (λ (i : Inode). Shown i) (visible-own inode v)
                ∙ (sym e
                ∙ ap (look (over top below)) (sym (append-nil path) ∙ (ap (λ (r : PathNames). path ++ r) (sym t) ∙ whole)))))
            ends (Shown inode) e (next ∷ more) t =
                let here : entry_at layer path ≡ Some inode = entry-in b.middle b.name ∙ ap inode_shown e in
                let file : is_directory inode ≡ false = ap directory_found (sym here) ∙ b.stops in
                look-closed layer below (child_path directory name ++ rest) (turned ++ b.name ∷ next ∷ more)
                (walked (Some inode) here ∙ ap (λ (r : PathNames). walk_beyond (Some inode) turned true b.name r) t)
                ∙ sym (nothing_there (next ∷ more) t next more refl (ap is_shown_directory e ∙ file))

  pub shown-kept : (path : PathNames) → look (over layer below) path ≡ look (over top below) path
  shown-kept path = by (at_moved path) refl
    where
      by : (b : Bool) → at_moved path ≡ b → look (over layer below) path ≡ look (over top below) path
      by false e = shown-free path e
      by true e =
          let up = above-of path e in
          ap (look (over layer below)) (sym up.whole)
          ∙ (shown-in up.directory up.name up.outside up.moved up.rest
          ∙ ap (look (over top below)) up.whole)

  -- ---- no mark of the layer is a redirect or a metacopy file

  calm_mark : (path : PathNames) (inode : Inode) → entry_at layer path ≡ Some inode → Calm (mark_at layer path)
  calm_mark path inode here = by (at_moved path) refl
    where
      -- outside of moved directories
      free : at_moved path ≡ false → (found : Option Inode) → entry_at top path ≡ found → (path ≡ []) ⊎ ((directory : PathNames) × (name : PathName) × (path ≡ child_path directory name)) → Calm (mark_at layer path)
      free e found f (inl root) = subst (λ (p : PathNames). Calm (mark_at layer p)) (sym root) (calm-visible true)
      free e None f (inr (directory, name, child)) = let bad : None ≡ Some inode = sym (entry-free path e ∙ ap (option_map (kept path)) f) ∙ here in cc
      free e (Some i) f (inr (directory, name, child)) = split (is_metacopy i) refl
        where
          left : entry_at layer (child_path directory name) ≡ Some (kept path i)
          left = ap (entry_at layer) (sym child) ∙ entry-kept path i e f

          marked : mark_at layer path ≡ Some (mark_of (kept path i))
          marked = ap (mark_at layer) child ∙ mark-child layer directory name (Some (kept path i)) left

          was : mark_at top path ≡ Some (mark_of i)
          was = ap (mark_at top) child ∙ mark-child top directory name (Some i) (ap (entry_at top) (sym child) ∙ f)

          unmoved : is_moved (mark_at top path) ≡ false
          unmoved =
              ap (λ (p : PathNames). is_moved (mark_at top p)) child
              ∙ (neither (at_moved directory) (is_moved (mark_at top (child_path directory name))) (sym (at_moved-child directory name) ∙ (ap at_moved (sym child) ∙ e))).1

          not_meta : (mark : Mark) → is_metacopy_mark mark ≡ false → is_meta (Some mark) ≡ false
          not_meta (Meta redirect) m = m
          not_meta _ m = refl

          split : (b : Bool) → is_metacopy i ≡ b → Calm (mark_at layer path)
          split true m =
              let f2 = full-of path i f m in
              let leaf : mark_at layer path ≡ Some Leaf = marked ∙ ap (λ m. Some m) (ap mark_of (filled-full path i m f2) ∙ full-mark i f2.contents (metacopy_thing i m) (metacopy-file i m).1 f2.own f2.sized) in
              subst Calm (sym leaf) (record { unmoved = refl; formed = refl; full = refl })
          split false m =
              let same : mark_at layer path ≡ mark_at top path = marked ∙ ((λ j. Some (mark_of (cond (m j) (filled i (look (over top below) path)) i))) ∙ sym was) in
              record {
                unmoved = ap is_moved same ∙ unmoved;
                formed = ap is_malformed same ∙ (sound-first top below sound path i f).formed;
                full = ap is_meta (same ∙ was) ∙ not_meta (mark_of i) m;
              }

      -- at and in a moved directory
      above : (up : Above path) → (up.rest ≡ []) ⊎ ((middle : PathNames) × (own : PathName) × (up.rest ≡ child_path middle own)) → Calm (mark_at layer path)
      above up (inl e) =
          let same : path ≡ child_path up.directory up.name = sym up.whole ∙ (ap (λ (r : PathNames). child_path up.directory up.name ++ r) e ∙ append-nil (child_path up.directory up.name)) in
          subst Calm (sym (ap (mark_at layer) same ∙ mark-root up.directory up.name up.outside up.moved)) (record { unmoved = refl; formed = refl; full = refl })
      above up (inr (middle, own, e)) =
          let there : PathNames = child_path (child_path up.directory up.name ++ middle) own in
          let same : path ≡ there = sym up.whole ∙ (ap (λ (r : PathNames). child_path up.directory up.name ++ r) e ∙ sym (append_assoc (child_path up.directory up.name) middle (own ∷ []))) in
          subst Calm (sym (ap (mark_at layer) same ∙ mark-in up.directory up.name up.outside up.moved middle own inode (ap (entry_at layer) (sym same) ∙ here))) (calm-visible (is_directory inode))

      by : (b : Bool) → at_moved path ≡ b → Calm (mark_at layer path)
      by false e = free e (entry_at top path) refl (last-name path)
      by true e = let up = above-of path e in above up (last-name up.rest)

  pub sound-kept : IsSoundStack (over layer below)
  sound-kept = sound-whole layer below layered.in_order (λ path inode here. calm-faultless layer below path inode (calm_mark path inode here)) (sound-rest top below sound)

pub DerefKeepsTree-holds : DerefKeepsTree
DerefKeepsTree-holds top below is each sound layer layered made path = shown-kept top below is each sound layer layered made path

pub DerefKeepsSoundness-holds : DerefKeepsSoundness
DerefKeepsSoundness-holds top below is each sound layer layered made = sound-kept top below is each sound layer layered made
