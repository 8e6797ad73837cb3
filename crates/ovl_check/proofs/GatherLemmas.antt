-- The facts of a directory and of what it holds, by what is gathered of it.
use Rattle.std.proofs.Common.{◌≡◌, ℕ, ◌⊎◌, inl, inr, Bool, true, false, cond, Option, Some, None, List, [], ◌∷◌, ◌++◌, length, drop, refl, sym, ap, ◌∙◌}
use Rattle.std.specs.Prelude.{◌||◌, ◌↔◌, IsTrue, not, codes}
use Rattle.std.specs.List.{list_any}
use Rattle.std.specs.Option.{option_map}
use Rattle.std.proofs.Math.Seq.{drop-append_seam}
use Rattle.std.proofs.lemmas.Bool.{false_from_ne_true}
use Rattle.ovl_names.specs.Names.{PathName}
use Rattle.ovl_names.specs.Paths.{PathNames, child_path, parent_path, is_root}
use Rattle.ovl_inode.specs.declared.inodes.Inode.{Inode}
use Rattle.ovl_inode.specs.declared.inodes.Kind.{Kind}
use Rattle.ovl_inode.specs.declared.inodes.Kind.TheVariants.{Dir, File}
use Rattle.ovl_inode.specs.declared.marks.Mark.{Mark}
use Rattle.ovl_inode.specs.declared.marks.Mark.TheVariants.{Whiteout as WhiteoutMark, DirMoved, DirPlain, Meta}
use Rattle.ovl_inode.specs.declared.marks.Redirect.{Redirect}
use Rattle.ovl_inode.specs.Attributes.{opaque_name, origin_name}
use Rattle.ovl_inode.specs.Kinds.{size_of}
use Rattle.ovl_inode.specs.Marks.{mark_of, is_whiteout, is_directory, is_metacopy, is_metacopy_mark, attribute_is, has_attribute}
use Rattle.ovl_layer.specs.Layers.{Entries, entry_at, is_directory_at}
use Rattle.ovl_lookup.specs.declared.steps.Step.{Step}
use Rattle.ovl_lookup.specs.Walk.{mark_at, walk, walk_beyond, walk_to_file, turn, is_shut, natural_path}
use Rattle.ovl_lookup.specs.Stacks.{StackView}
use Rattle.ovl_lookup.specs.Trace.{things_found}
use Rattle.ovl_lookup.specs.Merged.{look, is_nothing, data_of, place_of_data, data_at_place}
use Rattle.ovl_lookup.specs.Sound.{data_at}
use Rattle.ovl_lookup.proofs.LawsOfWalks.{walk-whole, walk-stop}
use Rattle.ovl_lookup.proofs.LawsOfPaths.{parent_path-child, length-child}
use Rattle.ovl_lookup.proofs.LawsOfInodes.{metacopy-file, bare_file, directory-no_whiteout, is_directory_mark}
use Rattle.ovl_lookup.proofs.LawsOfFound.{data_of-metacopy}
use Rattle.ovl_blobs.specs.declared.contents.BlobInfo.{BlobInfo}
use Rattle.ovl_check.specs.declared.directories.CheckedDirectory.{CheckedDirectory}
use Rattle.ovl_check.specs.declared.facts.Facts.{Facts}
use Rattle.ovl_check.specs.declared.facts.KindFacts.{KindFacts}
use Rattle.ovl_check.specs.declared.facts.KindFacts.TheVariants.{WhiteoutInOpaque, Whiteout, Moved, Metacopy, Other}
use Rattle.ovl_check.specs.declared.facts.NamedBlob.{NamedBlob}
use Rattle.ovl_check.specs.declared.facts.NamedBlob.TheVariants.{Unnamed}
use Rattle.ovl_check.specs.Checks.{CheckView, layer_at, layers_below}
use Rattle.ovl_check.specs.Conditions.{has_origin_at, is_opaque, is_in_opaque, is_in_marked}
use Rattle.ovl_blobs.specs.Contents.{find_content}
use Rattle.ovl_check.specs.Facts.{IsGathered, AreFacts, next_of, old_place, data_size, data_size_on, whiteout_in, whiteout_at, kind_at, blob_found, blob_named, is_whiteout_mark}
use Rattle.ovl_check.proofs.HeldLemmas.{names_below-none, origin-children}
use Rattle.ovl_check.proofs.MarkLemmas.{whiteout-marked, directory-marked}

-- the mark of what lies in a directory is that of its inode
pub mark-child : (layer : Entries) (directory : PathNames) (name : PathName) (inode : Inode) → entry_at layer (child_path directory name) ≡ Some inode → mark_at layer (child_path directory name) ≡ Some (mark_of inode)
mark-child layer [] name inode here = ap (λ (o : Option Inode). elim o as (λ _. Option Mark) [ Some i ↦ Some (mark_of i) | None ↦ None ]) here
mark-child layer (first ∷ directory) name inode here = ap (λ (o : Option Inode). elim o as (λ _. Option Mark) [ Some i ↦ Some (mark_of i) | None ↦ None ]) here

-- the mark at the root, and elsewhere that of the inode
pub mark-root : (layer : Entries) (path : PathNames) → is_root path ≡ true → mark_at layer path ≡ Some DirPlain
mark-root layer [] root = refl
mark-root layer (name ∷ names) root = let bad : false ≡ true = root in cc

pub mark-below : (layer : Entries) (path : PathNames) → is_root path ≡ false → mark_at layer path ≡ option_map mark_of (entry_at layer path)
mark-below layer [] below = let bad : true ≡ false = below in cc
mark-below layer (name ∷ names) below = by (entry_at layer (name ∷ names))
  where
    by : (found : Option Inode) → elim found as (λ _. Option Mark) [ Some i ↦ Some (mark_of i) | None ↦ None ] ≡ option_map mark_of found
    by None = refl
    by (Some inode) = refl

pub root-told : (b : Bool) (path : PathNames) → IsTrue b ↔ (path ≡ []) → b ≡ is_root path
root-told b [] told = told.1 refl
root-told b (name ∷ path) told = false_from_ne_true b (λ t. let bad : name ∷ path ≡ [] = told.0 t in absurd (cc))

-- ---- the directory itself

module _ (layer : Entries) (directory : CheckedDirectory) (is : IsGathered layer directory) where
  abbrev path : PathNames
  path = directory.path.now

  abbrev inode : Inode
  inode = directory.inode.now

  abbrev mark : Mark
  mark = directory.mark.now

  -- its mark is that of its inode, but the root's
  own_mark : (mark ≡ DirPlain) ⊎ (mark ≡ mark_of inode)
  own_mark = by path is.inode is.mark
    where
      by : (p : PathNames) → entry_at layer p ≡ Some inode → mark_at layer p ≡ Some mark → (mark ≡ DirPlain) ⊎ (mark ≡ mark_of inode)
      by [] here marked = inl (ap (λ (o : Option Mark). elim o as (λ _. Mark) [ Some m ↦ m | None ↦ mark ]) (sym marked))
      by (name ∷ names) here marked =
          inr (ap (λ (o : Option Mark). elim o as (λ _. Mark) [ Some m ↦ m | None ↦ mark ])
          (sym marked ∙ ap (λ (o : Option Inode). elim o as (λ _. Option Mark) [ Some i ↦ Some (mark_of i) | None ↦ None ]) here))

  directory_mark : is_directory_mark mark ≡ true
  directory_mark = elim own_mark [
    | inl plain ↦ ap is_directory_mark plain
    | inr own ↦ ap is_directory_mark own ∙ (directory-marked inode ∙ is.kind)
  ]

  directory-whiteout : is_whiteout inode ≡ is_whiteout_mark mark
  directory-whiteout = elim own_mark [
    | inl plain ↦ directory-no_whiteout inode is.kind ∙ sym (ap is_whiteout_mark plain)
    | inr own ↦ whiteout-marked inode ∙ sym (ap is_whiteout_mark own)
  ]

  -- a moved directory, and another
  pub directory-moved : (below : StackView) (redirect : Redirect) → mark ≡ DirMoved redirect → Moved (old_place layer below (next_of directory) directory.closed) ≡ kind_at layer below path inode mark
  directory-moved below redirect moved =
      (λ j. Moved (old_place layer below (is.next j) (is.closed j)))
      ∙ sym (ap (kind_at layer below path inode) moved)

  pub directory-other : (below : StackView) → ((redirect : Redirect) → mark ≡ DirMoved redirect → ⊥) → Other ≡ kind_at layer below path inode mark
  directory-other below unmoved = by mark refl directory_mark
    where
      by : (m : Mark) → mark ≡ m → is_directory_mark m ≡ true → Other ≡ kind_at layer below path inode m
      by (DirMoved redirect) e d = absurd (unmoved redirect e)
      by WhiteoutMark e d = let bad : false ≡ true = d in cc
      by (Meta redirect) e d = let bad : false ≡ true = d in cc
      by _ e d = refl

  -- it names no blob
  directory-unnamed : (contents : List BlobInfo) → Unnamed ≡ blob_named contents inode
  directory-unnamed contents = by inode.kind is.kind
    where
      by : (kind : Kind) → elim kind as (λ _. Bool) [ Dir ↦ true | _ ↦ false ] ≡ true
          → Unnamed ≡ (elim (elim kind as (λ _. Option (List ℕ)) [ File size blob ↦ blob | _ ↦ None ]) as (λ _. NamedBlob) [ Some own ↦ blob_found (find_content contents own) | None ↦ Unnamed ])
      by Dir e = refl
      by _ e = let bad : false ≡ true = e in cc

-- ---- what it holds

module _ (layer : Entries) (below : StackView) (directory : CheckedDirectory) (is : IsGathered layer directory) (name : PathName) where
  abbrev dir : PathNames
  dir = directory.path.now

  abbrev child : PathNames
  child = child_path dir name

  whiteout-child : whiteout_in below directory name ≡ whiteout_at layer below child
  whiteout-child =
      (λ j. cond (opaque j) WhiteoutInOpaque (Whiteout (marked j) (not (hidden j || is_nothing (look below (natural j))))))
    where
      parent : parent_path child ≡ dir
      parent = parent_path-child dir name

      opaque : is_opaque (Some directory.mark.now) ≡ is_in_opaque layer child
      opaque = ap is_opaque (sym is.mark ∙ ap (mark_at layer) (sym parent))

      marked : directory.is_marked ≡ is_in_marked layer child
      marked =
          is.marked ∙ ap (λ (o : Option Inode). elim o as (λ _. Bool) [ Some inode ↦ attribute_is inode opaque_name (codes "x") | None ↦ false ])
          (sym is.inode ∙ ap (entry_at layer) (sym parent))

      hidden : directory.closed ≡ (walk layer (parent_path child)).closed
      hidden = is.closed ∙ ap (λ (p : PathNames). (walk layer p).closed) (sym parent)

      natural : child_path (next_of directory) name ≡ natural_path layer child
      natural =
          ap (λ (p : PathNames). p ++ name ∷ []) is.next
          ∙ (ap (λ (rest : PathNames). (walk layer dir).next ++ rest) (sym (drop-append_seam dir (name ∷ [])))
          ∙ ap (λ (p : PathNames). (walk layer p).next ++ drop (length p) child) (sym parent))

  module _ (inode : Inode) (here : entry_at layer child ≡ Some inode) (none : is_directory inode ≡ false) where
    -- its own walk, by that of the directory
    child-walk : is_whiteout inode ≡ false → walk layer child ≡ walk_to_file inode (mark_of inode) (next_of directory) directory.closed name
    child-walk stays =
        walk-stop layer dir name [] is.layered (ap found is.inode ∙ is.kind) (ap found here ∙ none)
        ∙ (ap (λ (o : Option Inode). walk_beyond o (turn layer dir) (is_shut layer dir) name []) here
        ∙ (ap (λ b. cond b (nothing (child_path (turn layer dir) name)) (walk_to_file inode (mark_of inode) (turn layer dir) (is_shut layer dir) name)) stays
        ∙ sym (λ j. walk_to_file inode (mark_of inode) (turned j) (shut j) name)))
      where
        found : Option Inode → Bool
        found o = elim o as (λ _. Bool) [ Some inode ↦ is_directory inode | None ↦ false ]

        nothing : PathNames → Step
        nothing next = record { found = None; next = next; closed = true }

        whole : walk layer dir ≡ record { found = entry_at layer dir; next = turn layer dir; closed = is_shut layer dir }
        whole = walk-whole layer dir (ap found is.inode ∙ is.kind)

        turned : next_of directory ≡ turn layer dir
        turned = is.next ∙ ap (λ (s : Step). s.next) whole

        shut : directory.closed ≡ is_shut layer dir
        shut = is.closed ∙ ap (λ (s : Step). s.closed) whole

    meta-child : (redirect : Option Redirect) → mark_of inode ≡ Meta redirect → data_size_on below (place_of_data (Meta redirect)) (walk_to_file inode (Meta redirect) (next_of directory) directory.closed name) ≡ option_map size_of (data_at layer below child inode)
    meta-child redirect marked =
        ap (λ m. data_size_on below (place_of_data m) (walk_to_file inode m (next_of directory) directory.closed name)) (sym marked)
        ∙ (ap (data_size_on below (place_of_data (mark_of inode))) (sym (child-walk (whiteout-marked inode ∙ ap is_whiteout_mark marked)))
        ∙ on_data (walk layer child).closed (walk layer child).next)
      where
        metacopy : is_metacopy inode ≡ true
        metacopy = ap is_metacopy_mark marked

        on_data : (c : Bool) (next : PathNames) → cond c (option_map size_of (data_at_place below.data_only (place_of_data (mark_of inode)))) (data_size below (place_of_data (mark_of inode)) next) ≡ option_map size_of (data_of below.data_only (inode ∷ cond c [] (things_found below.layers next)))
        on_data true next = sym (ap (option_map size_of) (data_of-metacopy below.data_only inode [] metacopy (metacopy-file inode metacopy).0 (bare_file inode (metacopy-file inode metacopy).1).1))
        on_data false next = sym (ap (option_map size_of) (data_of-metacopy below.data_only inode (things_found below.layers next) metacopy (metacopy-file inode metacopy).0 (bare_file inode (metacopy-file inode metacopy).1).1))

    -- the facts of its kind
    pub child-whiteout : (own : Mark) → own ≡ WhiteoutMark → whiteout_in below directory name ≡ kind_at layer below child inode own
    child-whiteout own marked = whiteout-child ∙ sym (ap (kind_at layer below child inode) marked)

    pub child-metacopy : (own : Mark) (redirect : Option Redirect) → own ≡ mark_of inode → own ≡ Meta redirect → Metacopy (data_size_on below (place_of_data (Meta redirect)) (walk_to_file inode (Meta redirect) (next_of directory) directory.closed name)) ≡ kind_at layer below child inode own
    child-metacopy own redirect is_own marked =
        ap (λ size. Metacopy size) (meta-child redirect (sym is_own ∙ marked))
        ∙ sym (ap (kind_at layer below child inode) marked)

    pub child-other : (own : Mark) → own ≡ mark_of inode → (own ≡ WhiteoutMark → ⊥) → ((redirect : Option Redirect) → own ≡ Meta redirect → ⊥) → Other ≡ kind_at layer below child inode own
    child-other own marked stays full = by own refl
      where
        by : (m : Mark) → own ≡ m → Other ≡ kind_at layer below child inode m
        by WhiteoutMark e = absurd (stays e)
        by (Meta redirect) e = absurd (full redirect e)
        by (DirMoved redirect) e =
            let bad : true ≡ false = ap is_directory_mark (sym e ∙ marked) ∙ (directory-marked inode ∙ none) in absurd (cc)
        by _ e = refl

-- the facts of what lies in a directory and is none itself
pub child-facts : (work : CheckView) (i : ℕ) (directory : CheckedDirectory) → IsGathered (layer_at work.stack i) directory → (name : PathName) (facts : Facts) → entry_at (layer_at work.stack i) (child_path directory.path.now name) ≡ Some facts.inode.now → is_directory facts.inode.now ≡ false
    → facts.mark.now ≡ mark_of facts.inode.now → facts.is_root ≡ false → facts.holds_origin ≡ false
    → facts.kind ≡ kind_at (layer_at work.stack i) (layers_below work.stack i) (child_path directory.path.now name) facts.inode.now facts.mark.now
    → facts.blob ≡ blob_named work.contents facts.inode.now
    → AreFacts work i (child_path directory.path.now name) facts
child-facts work i directory gathered name facts here none marked below origin kind blob =
    let layer = layer_at work.stack i in
    let path = child_path directory.path.now name in
    let there : is_directory_at layer path ≡ false = ap (λ (o : Option Inode). elim o as (λ _. Bool) [ Some inode ↦ is_directory inode | None ↦ false ]) here ∙ none in
    record {
      inode = here;
      mark = mark-child layer directory.path.now name facts.inode.now here ∙ ap (λ m. Some m) (sym marked);
      whiteout = whiteout-marked facts.inode.now ∙ ap is_whiteout_mark (sym marked);
      root = below ∙ sym (length-child directory.path.now name);
      kind = kind;
      blob = blob;
      origin = origin ∙ sym (ap (list_any (λ other. has_origin_at layer (child_path path other))) (names_below-none layer path gathered.layered there));
    }

-- the facts of the directory
pub directory-facts : (work : CheckView) (i : ℕ) (directory : CheckedDirectory) → IsGathered (layer_at work.stack i) directory → (root : Bool) (kind : KindFacts) (origin : Bool) → root ≡ is_root directory.path.now
    → kind ≡ kind_at (layer_at work.stack i) (layers_below work.stack i) directory.path.now directory.inode.now directory.mark.now
    → origin ≡ list_any (λ child. has_attribute child.inode.now origin_name) directory.children.items
    → AreFacts work i directory.path.now (record { is_root = root; inode = directory.inode; mark = directory.mark; kind = kind; blob = Unnamed; holds_origin = origin })
directory-facts work i directory gathered root kind origin at_root own held =
    let layer = layer_at work.stack i in
    record {
      inode = gathered.inode;
      mark = gathered.mark;
      whiteout = directory-whiteout layer directory gathered;
      root = at_root;
      kind = own;
      blob = directory-unnamed layer directory gathered work.contents;
      origin = held ∙ origin-children layer directory.path.now directory.children.items gathered.children;
    }
