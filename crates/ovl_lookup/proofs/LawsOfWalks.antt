-- Laws of walks: how a walk goes on by one name, what it depends on, and where it ends.
use Rattle.std.proofs.Common.{◌≡◌, ℕ, Bool, true, false, cond, Option, Some, None, is_some, List, [], ◌∷◌, ◌++◌, length, drop, refl, sym, ap, ◌∙◌, subst, append_assoc, arith, ◌<◌, ◌≤◌, inl, inr, ◌⊎◌}
use Rattle.std.specs.Prelude.{◌&&◌, ◌||◌, unwrap_or, nat_le, slice_get}
use Rattle.std.specs.Option.{option_map}
use Rattle.std.specs.List.{cons_option, list_any}
use Rattle.std.specs.Cmp.Lexicographic.{pointwise_decides, bytes_decides}
use Rattle.std.proofs.Math.Seq.{drop-append_seam}
use Rattle.std.proofs.lemmas.List.{append-nil}
use Rattle.std.proofs.lemmas.Bool.{leb-true}
use Rattle.std.proofs.Math.Bool.{or-true, or-false}
use Rattle.ovl_names.specs.Names.{PathName, name_eq}
use Rattle.ovl_names.specs.Paths.{PathNames, path_eq, child_path, parent_path, longest, is_root, path_text, depth_limit, text_limit}
use Rattle.ovl_names.proofs.Ascending.{both}
use Rattle.ovl_inode.specs.declared.inodes.Inode.{Inode}
use Rattle.ovl_inode.specs.declared.marks.Mark.{Mark}
use Rattle.ovl_inode.specs.Marks.{mark_of, is_directory, is_whiteout, is_metacopy, is_metacopy_mark, is_regular, has_opaque, has_metacopy, redirect_reading, directory_mark, metacopy_mark}
use Rattle.ovl_inode.specs.declared.marks.Mark.TheVariants.{Whiteout, DirOpaque, DirMoved, DirBad, DirPlain, Meta, MetaBad, Leaf}
use Rattle.ovl_inode.specs.declared.marks.Redirect.TheVariants.{To, Beside}
use Rattle.ovl_layer.specs.Layers.{Entries, entry_at, is_directory_at, IsLayer, has_parent, Entry, name_below, names_below, is_within_limits}
use Rattle.ovl_layer.proofs.NodeLemmas.{name_eq-same}
use Rattle.ovl_layer.specs.Sheets.{path_at, path_of}
use Rattle.ovl_layer.proofs.SheetLemmas.{none-past, entry_at-number}
use Rattle.ovl_lookup.specs.Walk.{mark_at, origin_path, name_in_lower, is_closing, nothing_found, turn, is_shut, walk, walk_from, walk_beyond, natural_path, walk_to_file}
use Rattle.ovl_lookup.specs.NextLookups.{next_on, closed_on}
use Rattle.ovl_lookup.specs.Passes.{IsPast, entered_path, entered_closed}
use Rattle.ovl_lookup.specs.declared.steps.Step.{Step}
use Rattle.ovl_lookup.specs.Words.{SameMarks, SameEntries}
use Rattle.ovl_lookup.specs.WalkLaws.{is_directory_or_none, PassesOver, WalksPass}
use Rattle.ovl_lookup.proofs.Turns.{turn-child, turn-moved, is_shut-child, is_shut-moved}
use Rattle.ovl_lookup.proofs.LawsOfPaths.{by_child, last-name, length-child, lookup-all, parent_path-child}
use Rattle.ovl_lookup.proofs.LawsOfInodes.{is_directory_mark, mark-directory, directory-marked, directory-no_whiteout}

longest-whole : (test : PathNames → Bool) (path : PathNames) → test path ≡ true → longest test path ≡ path
longest-whole test [] holds = refl
longest-whole test (name ∷ names) holds =
    ap (λ (found : PathNames). cond (test (name ∷ found)) (name ∷ found) []) (longest-whole (λ rest. test (name ∷ rest)) names holds)
    ∙ ap (λ b. cond b (name ∷ names) []) holds

longest-stop : (test : PathNames → Bool) (path : PathNames) (name : PathName) (names : PathNames) → test path ≡ true → ((more : PathNames) → test (path ++ name ∷ more) ≡ false) → longest test (path ++ name ∷ names) ≡ path
longest-stop test [] name names holds stops =
    ap (λ b. cond b (name ∷ longest (λ rest. test (name ∷ rest)) names) []) (stops (longest (λ rest. test (name ∷ rest)) names))
longest-stop test (first ∷ path) name names holds stops =
    ap (λ (found : PathNames). cond (test (first ∷ found)) (first ∷ found) []) (longest-stop (λ rest. test (first ∷ rest)) path name names holds stops)
    ∙ ap (λ b. cond b (first ∷ path) []) holds

-- a directory's parent is a directory
pub directory-parent : (layer : Entries) (path : PathNames) (name : PathName) → IsLayer layer → is_directory_at layer (child_path path name) ≡ true → is_directory_at layer path ≡ true
directory-parent layer path name is below = by (entry_at layer (child_path path name)) refl below
  where
    by : (found : Option Inode) → entry_at layer (child_path path name) ≡ found → elim found as (λ _. Bool) [ Some inode ↦ is_directory inode | None ↦ false ] ≡ true → is_directory_at layer path ≡ true
    by None e h = cc
    by (Some inode) e h =
        let has : (is_root (child_path path name) || is_directory_at layer (parent_path (child_path path name))) ≡ true =
        lookup-all (λ entry. has_parent layer entry.0) (child_path path name) layer inode is.closed e in
        ap (is_directory_at layer) (sym (parent_path-child path name))
        ∙ (ap (λ b. b || is_directory_at layer (parent_path (child_path path name))) (sym (length-child path name)) ∙ has)

-- below what is no directory there is none
pub directory-above : (layer : Entries) (path more : PathNames) → IsLayer layer → is_directory_at layer (path ++ more) ≡ true → is_directory_at layer path ≡ true
directory-above layer path [] is below = subst (λ (p : PathNames). is_directory_at layer p ≡ true) (append-nil path) below
directory-above layer path (name ∷ more) is below =
    directory-parent layer path name is
    (directory-above layer (child_path path name) more is
    (subst (λ (p : PathNames). is_directory_at layer p ≡ true) (sym (append_assoc path (name ∷ []) more)) below))

pub no-directory-below : (layer : Entries) (path : PathNames) (name : PathName) → IsLayer layer → is_directory_at layer (child_path path name) ≡ false → (more : PathNames) → is_directory_at layer (path ++ name ∷ more) ≡ false
no-directory-below layer path name is none more = by (is_directory_at layer (path ++ name ∷ more)) refl
  where
    by : (b : Bool) → is_directory_at layer (path ++ name ∷ more) ≡ b → b ≡ false
    by false e = refl
    by true e =
        let here : is_directory_at layer (child_path path name) ≡ true = directory-above layer (child_path path name) more is (subst (λ (p : PathNames). is_directory_at layer p ≡ true) (sym (append_assoc path (name ∷ []) more)) e) in
        cc

-- the walk of a path that is a directory, and of one that ends or goes on beyond a directory
pub walk-whole : (layer : Entries) (path : PathNames) → is_directory_at layer path ≡ true → walk layer path ≡ record { found = entry_at layer path; next = turn layer path; closed = is_shut layer path }
walk-whole layer path holds =
    ap (λ (d : PathNames). walk_from layer d (drop (length d) path)) (longest-whole (is_directory_at layer) path holds)
    ∙ ap (walk_from layer path) (ap (drop (length path)) (sym (append-nil path)) ∙ drop-append_seam path [])

pub walk-stop : (layer : Entries) (path : PathNames) (name : PathName) (rest : PathNames) → IsLayer layer → is_directory_at layer path ≡ true → is_directory_at layer (child_path path name) ≡ false → walk layer (path ++ name ∷ rest) ≡ walk_beyond (entry_at layer (child_path path name)) (turn layer path) (is_shut layer path) name rest
walk-stop layer path name rest is holds none =
    ap (λ (d : PathNames). walk_from layer d (drop (length d) (path ++ name ∷ rest))) (longest-stop (is_directory_at layer) path name rest holds (no-directory-below layer path name is none))
    ∙ ap (walk_from layer path) (drop-append_seam path (name ∷ rest))

-- the turn and the flag of a directory with one more name
pub turn-entered : (layer : Entries) (path : PathNames) (name : PathName) (mark : Mark) → mark_at layer (child_path path name) ≡ Some mark → turn layer (child_path path name) ≡ entered_path mark (turn layer path) name
turn-entered layer path name mark is = by (origin_path (Some mark)) refl
  where
    by : (origin : Option PathNames) → origin_path (Some mark) ≡ origin → turn layer (child_path path name) ≡ unwrap_or origin (child_path (turn layer path) (name_in_lower (Some mark) name))
    by None e = turn-child layer path name (ap (λ m. is_some (origin_path m)) is ∙ ap is_some e) ∙ ap (λ m. child_path (turn layer path) (name_in_lower m name)) is
    by (Some origin) e = turn-moved layer path name (ap (λ m. is_some (origin_path m)) is ∙ ap is_some e) ∙ (ap (λ m. unwrap_or (origin_path m) []) is ∙ ap (λ o. unwrap_or o []) e)

pub is_shut-entered : (layer : Entries) (path : PathNames) (name : PathName) (mark : Mark) → mark_at layer (child_path path name) ≡ Some mark → is_shut layer (child_path path name) ≡ entered_closed mark (is_shut layer path)
is_shut-entered layer path name mark is = by (is_some (origin_path (Some mark))) refl
  where
    by : (b : Bool) → is_some (origin_path (Some mark)) ≡ b → is_shut layer (child_path path name) ≡ cond b false (is_shut layer path || is_closing (Some mark))
    by false e = is_shut-child layer path name (ap (λ m. is_some (origin_path m)) is ∙ e) ∙ ap (λ m. is_shut layer path || is_closing m) is
    by true e = is_shut-moved layer path name (ap (λ m. is_some (origin_path m)) is ∙ e)

marked : (found : Option Inode) → elim found as (λ _. Option Mark) [ Some inode ↦ Some (mark_of inode) | None ↦ None ] ≡ option_map mark_of found
marked None = refl
marked (Some inode) = refl

-- the mark of the entry of a name
pub mark_at-child : (layer : Entries) (path : PathNames) (name : PathName) (mark : Mark) → option_map mark_of (entry_at layer (child_path path name)) ≡ Some mark → mark_at layer (child_path path name) ≡ Some mark
mark_at-child layer [] name mark here = marked (entry_at layer (child_path [] name)) ∙ here
mark_at-child layer (first ∷ path) name mark here = marked (entry_at layer (child_path (first ∷ path) name)) ∙ here

-- ---- a name that a directory doesn't have

module _ (layer : Entries) (path : PathNames) (name : PathName) (is : IsLayer layer) where
  pub walk-child_none : is_directory_at layer path ≡ true → entry_at layer (child_path path name) ≡ None → walk layer (child_path path name) ≡ nothing_found (child_path (turn layer path) name) (is_shut layer path)
  walk-child_none holds none =
      walk-stop layer path name [] is holds (ap (λ (o : Option Inode). elim o as (λ _. Bool) [ Some inode ↦ is_directory inode | None ↦ false ]) none)
      ∙ ap (λ (o : Option Inode). walk_beyond o (turn layer path) (is_shut layer path) name []) none

-- ---- an entry's name is among the names below its directory

pub name_below-child : (path : PathNames) (name : PathName) → name_below path (child_path path name) ≡ Some name
name_below-child [] name = refl
name_below-child (first ∷ path) name = ap (λ b. cond b (name_below path (child_path path name)) None) (name_eq-same first) ∙ name_below-child path name

any-cons_option : (name : PathName) (own : Option PathName) (names : List PathName) → list_any (name_eq name) names ≡ true → list_any (name_eq name) (cons_option own names) ≡ true
any-cons_option name None names has = has
any-cons_option name (Some own) names has = ap (λ b. name_eq name own || b) has ∙ or-true (name_eq name own)

pub names_below-has : (layer : Entries) (path : PathNames) (name : PathName) (inode : Inode) → entry_at layer (child_path path name) ≡ Some inode → list_any (name_eq name) (names_below layer path) ≡ true
names_below-has [] path name inode here = let bad : None ≡ Some inode = here in cc
names_below-has (entry ∷ layer) path name inode here = by (names_below-has layer path name inode) (path_eq (child_path path name) entry.0) refl here
  where
    by : (entry_at layer (child_path path name) ≡ Some inode → list_any (name_eq name) (names_below layer path) ≡ true) → (b : Bool) → path_eq (child_path path name) entry.0 ≡ b → cond b (Some entry.1) (entry_at layer (child_path path name)) ≡ Some inode → list_any (name_eq name) (names_below (entry ∷ layer) path) ≡ true
    by later true e here =
        let same : child_path path name ≡ entry.0 = (pointwise_decides bytes_decides (child_path path name) entry.0).0 e in
        ap (λ (o : Option PathName). list_any (name_eq name) (cons_option o (names_below layer path))) (ap (name_below path) (sym same) ∙ name_below-child path name)
        ∙ ap (λ b. b || list_any (name_eq name) (names_below layer path)) (name_eq-same name)
    by later false e here = any-cons_option name (name_below path entry.0) (names_below layer path) (later here)

-- ---- how deep an entry is

pub entry-limited : (layer : Entries) (path : PathNames) (inode : Inode) → IsLayer layer → entry_at layer path ≡ Some inode → length path ≤ depth_limit
entry-limited layer path inode is here =
    let limited : is_within_limits path ≡ true = lookup-all (λ (entry : Entry). is_within_limits entry.0) path layer inode is.limited here in
    leb-true (length path) depth_limit (both {a = nat_le (length path) depth_limit} {b = nat_le (length (path_text path)) text_limit} limited).0

pub directory-limited : (layer : Entries) (path : PathNames) → IsLayer layer → is_directory_at layer path ≡ true → length path ≤ depth_limit
directory-limited layer path is holds = by (entry_at layer path) refl holds
  where
    by : (found : Option Inode) → entry_at layer path ≡ found → elim found as (λ _. Bool) [ Some inode ↦ is_directory inode | None ↦ false ] ≡ true → length path ≤ depth_limit
    by None e h = let bad : false ≡ true = h in cc
    by (Some inode) e h = entry-limited layer path inode is e

-- a prefix of a path is one of the path with one more name
prefix-child : (front back path : PathNames) (name : PathName) → front ++ back ≡ path → front ++ child_path back name ≡ child_path path name
prefix-child front back path name e = sym (append_assoc front back (name ∷ [])) ∙ ap (λ (p : PathNames). child_path p name) e

-- ---- the turn and the flag of a path with one more name, whatever is there

turn-next : (layer : Entries) (path : PathNames) (name : PathName) → turn layer (child_path path name) ≡ unwrap_or (origin_path (mark_at layer (child_path path name))) (child_path (turn layer path) (name_in_lower (mark_at layer (child_path path name)) name))
turn-next layer path name = by (origin_path (mark_at layer (child_path path name))) refl
  where
    by : (origin : Option PathNames) → origin_path (mark_at layer (child_path path name)) ≡ origin → turn layer (child_path path name) ≡ unwrap_or origin (child_path (turn layer path) (name_in_lower (mark_at layer (child_path path name)) name))
    by None e = turn-child layer path name (ap is_some e)
    by (Some origin) e = turn-moved layer path name (ap is_some e) ∙ ap (λ o. unwrap_or o []) e

is_shut-next : (layer : Entries) (path : PathNames) (name : PathName) → is_shut layer (child_path path name) ≡ cond (is_some (origin_path (mark_at layer (child_path path name)))) false (is_shut layer path || is_closing (mark_at layer (child_path path name)))
is_shut-next layer path name = by (is_some (origin_path (mark_at layer (child_path path name)))) refl
  where
    by : (b : Bool) → is_some (origin_path (mark_at layer (child_path path name))) ≡ b → is_shut layer (child_path path name) ≡ cond b false (is_shut layer path || is_closing (mark_at layer (child_path path name)))
    by false e = is_shut-child layer path name e
    by true e = is_shut-moved layer path name e

-- the same where the mark is known
pub turn-at : (layer : Entries) (path : PathNames) (name : PathName) (mark : Option Mark) → mark_at layer (child_path path name) ≡ mark → turn layer (child_path path name) ≡ unwrap_or (origin_path mark) (child_path (turn layer path) (name_in_lower mark name))
turn-at layer path name mark is = turn-next layer path name ∙ ap (λ m. unwrap_or (origin_path m) (child_path (turn layer path) (name_in_lower m name))) is

pub is_shut-at : (layer : Entries) (path : PathNames) (name : PathName) (mark : Option Mark) → mark_at layer (child_path path name) ≡ mark → is_shut layer (child_path path name) ≡ cond (is_some (origin_path mark)) false (is_shut layer path || is_closing mark)
is_shut-at layer path name mark is = is_shut-next layer path name ∙ ap (λ m. cond (is_some (origin_path m)) false (is_shut layer path || is_closing m)) is

-- ---- the turn and the flag depend only on the marks along the path

pub same-turn : (one other : Entries) (path : PathNames) → SameMarks one other path → (turn one path ≡ turn other path) × (is_shut one path ≡ is_shut other path)
same-turn one other = by_child (λ path. SameMarks one other path → (turn one path ≡ turn other path) × (is_shut one path ≡ is_shut other path)) (λ same. (refl, refl)) step
  where
    step : (path : PathNames) (name : PathName) → (SameMarks one other path → (turn one path ≡ turn other path) × (is_shut one path ≡ is_shut other path)) → SameMarks one other (child_path path name) → (turn one (child_path path name) ≡ turn other (child_path path name)) × (is_shut one (child_path path name) ≡ is_shut other (child_path path name))
    step path name later same =
        let both = later (λ front back e. same front (child_path back name) (prefix-child front back path name e)) in
        let mark : mark_at one (child_path path name) ≡ mark_at other (child_path path name) = same (child_path path name) [] (append-nil (child_path path name)) in (
          turn-next one path name ∙ ((λ j. unwrap_or (origin_path (mark j)) (child_path (both.0 j) (name_in_lower (mark j) name))) ∙ sym (turn-next other path name)),
          is_shut-next one path name ∙ ((λ j. cond (is_some (origin_path (mark j))) false (both.1 j || is_closing (mark j))) ∙ sym (is_shut-next other path name)),
        )

-- ---- where a walk ends

-- what a layer says of an entry
abbrev pub directory_found : Option Inode → Bool
directory_found found = elim found as (λ _. Bool) [ Some inode ↦ is_directory inode | None ↦ false ]

abbrev pub mark_found : Option Inode → Option Mark
mark_found found = elim found as (λ _. Option Mark) [ Some inode ↦ Some (mark_of inode) | None ↦ None ]

pub same-mark : (one other : Entries) (path : PathNames) → entry_at one path ≡ entry_at other path → mark_at one path ≡ mark_at other path
same-mark one other [] e = refl
same-mark one other (name ∷ names) e = ap mark_found e

pub mark-child : (layer : Entries) (path : PathNames) (name : PathName) (found : Option Inode) → entry_at layer (child_path path name) ≡ found → mark_at layer (child_path path name) ≡ mark_found found
mark-child layer [] name found e = ap mark_found e
mark-child layer (first ∷ path) name found e = ap mark_found e

-- a walk that goes beyond its last directory: the name after that is no directory
pub record Beyond (layer : Entries) (path : PathNames) : Type 0 where
  pub directory : PathNames
  pub name : PathName
  pub rest : PathNames
  pub whole : directory ++ name ∷ rest ≡ path
  pub holds : is_directory_at layer directory ≡ true
  pub stops : is_directory_at layer (child_path directory name) ≡ false

end_from : (layer : Entries) (front : PathNames) → is_directory_at layer front ≡ true → (rest : PathNames) → (is_directory_at layer (front ++ rest) ≡ true) ⊎ Beyond layer (front ++ rest)
end_from layer front holds [] = inl (ap (is_directory_at layer) (append-nil front) ∙ holds)
end_from layer front holds (name ∷ rest) = by (λ e. end_from layer (child_path front name) e rest) (is_directory_at layer (child_path front name)) refl
  where
    by : (is_directory_at layer (child_path front name) ≡ true → (is_directory_at layer (child_path front name ++ rest) ≡ true) ⊎ Beyond layer (child_path front name ++ rest)) → (b : Bool) → is_directory_at layer (child_path front name) ≡ b → (is_directory_at layer (front ++ name ∷ rest) ≡ true) ⊎ Beyond layer (front ++ name ∷ rest)
    by later true e = subst (λ (p : PathNames). (is_directory_at layer p ≡ true) ⊎ Beyond layer p) (append_assoc front (name ∷ []) rest) (later e)
    by later false e = inr (record { directory = front; name = name; rest = rest; whole = refl; holds = holds; stops = e })

pub walk-end : (layer : Entries) (path : PathNames) → IsLayer layer → (is_directory_at layer path ≡ true) ⊎ Beyond layer path
walk-end layer path is = end_from layer [] is.rooted path

pub walk-past : (layer : Entries) (path : PathNames) → IsLayer layer → (b : Beyond layer path) → walk layer path ≡ walk_beyond (entry_at layer (child_path b.directory b.name)) (turn layer b.directory) (is_shut layer b.directory) b.name b.rest
walk-past layer path is b = ap (walk layer) (sym b.whole) ∙ walk-stop layer b.directory b.name b.rest is b.holds b.stops

-- the same below a directory: where the rest of a path ends
pub record BeyondFrom (layer : Entries) (front rest : PathNames) : Type 0 where
  pub middle : PathNames
  pub name : PathName
  pub tail : PathNames
  pub whole : middle ++ name ∷ tail ≡ rest
  pub holds : is_directory_at layer (front ++ middle) ≡ true
  pub stops : is_directory_at layer (child_path (front ++ middle) name) ≡ false

pub end-from : (layer : Entries) (front : PathNames) → is_directory_at layer front ≡ true → (rest : PathNames) → (is_directory_at layer (front ++ rest) ≡ true) ⊎ BeyondFrom layer front rest
end-from layer front holds [] = inl (ap (is_directory_at layer) (append-nil front) ∙ holds)
end-from layer front holds (name ∷ rest) = by (λ e. end-from layer (child_path front name) e rest) (is_directory_at layer (child_path front name)) refl
  where
    further : (is_directory_at layer (child_path front name ++ rest) ≡ true) ⊎ BeyondFrom layer (child_path front name) rest → (is_directory_at layer (front ++ name ∷ rest) ≡ true) ⊎ BeyondFrom layer front (name ∷ rest)
    further (inl holds) = inl (ap (is_directory_at layer) (sym (append_assoc front (name ∷ []) rest)) ∙ holds)
    further (inr b) = inr (record {
      middle = name ∷ b.middle;
      name = b.name;
      tail = b.tail;
      whole = ap (λ (more : PathNames). name ∷ more) b.whole;
      holds = ap (is_directory_at layer) (sym (append_assoc front (name ∷ []) b.middle)) ∙ b.holds;
      stops = ap (λ (p : PathNames). is_directory_at layer (child_path p b.name)) (sym (append_assoc front (name ∷ []) b.middle)) ∙ b.stops;
    })

    by : (is_directory_at layer (child_path front name) ≡ true → (is_directory_at layer (child_path front name ++ rest) ≡ true) ⊎ BeyondFrom layer (child_path front name) rest) → (b : Bool) → is_directory_at layer (child_path front name) ≡ b → (is_directory_at layer (front ++ name ∷ rest) ≡ true) ⊎ BeyondFrom layer front (name ∷ rest)
    by later true e = further (later e)
    by later false e = inr (record {
      middle = [];
      name = name;
      tail = rest;
      whole = refl;
      holds = ap (is_directory_at layer) (append-nil front) ∙ holds;
      stops = ap (λ (p : PathNames). is_directory_at layer (child_path p name)) (append-nil front) ∙ e;
    })

-- ---- a walk depends only on the entries along its path

pub same-walk : (one other : Entries) (path : PathNames) → IsLayer one → IsLayer other → SameEntries one other path → walk one path ≡ walk other path
same-walk one other path is_one is_other same = by (walk-end one path is_one)
  where
    by : (is_directory_at one path ≡ true) ⊎ Beyond one path → walk one path ≡ walk other path
    by (inl holds) =
        let here : entry_at one path ≡ entry_at other path = same path [] (append-nil path) in
        let turned = same-turn one other path (λ front back e. same-mark one other front (same front back e)) in
        walk-whole one path holds
        ∙ ((λ j. record { found = here j; next = turned.0 j; closed = turned.1 j })
        ∙ sym (walk-whole other path (ap directory_found (sym here) ∙ holds)))
    by (inr b) =
        let prefix : (front back : PathNames) → front ++ back ≡ b.directory → entry_at one front ≡ entry_at other front = λ front back e. same front (back ++ b.name ∷ b.rest) (sym (append_assoc front back (b.name ∷ b.rest)) ∙ (ap (λ (p : PathNames). p ++ b.name ∷ b.rest) e ∙ b.whole)) in
        let turned = same-turn one other b.directory (λ front back e. same-mark one other front (prefix front back e)) in
        let here : entry_at one b.directory ≡ entry_at other b.directory = prefix b.directory [] (append-nil b.directory) in
        let there : entry_at one (child_path b.directory b.name) ≡ entry_at other (child_path b.directory b.name) = same (child_path b.directory b.name) b.rest (append_assoc b.directory (b.name ∷ []) b.rest ∙ b.whole) in
        walk-past one path is_one b
        ∙ ((λ j. walk_beyond (there j) (turned.0 j) (turned.1 j) b.name b.rest)
        ∙ (sym (walk-stop other b.directory b.name b.rest is_other (ap directory_found (sym here) ∙ b.holds) (ap directory_found (sym there) ∙ b.stops))
        ∙ ap (walk other) b.whole))

-- an entry is in a directory of its layer
pub parent-directory : (layer : Entries) (path : PathNames) (name : PathName) → has_parent layer (child_path path name) ≡ true → is_directory_at layer path ≡ true
parent-directory layer path name has =
    ap (is_directory_at layer) (sym (parent_path-child path name))
    ∙ (ap (λ b. b || is_directory_at layer (parent_path (child_path path name))) (sym (length-child path name)) ∙ has)

pub directory-parent_of : (layer : Entries) (path : PathNames) (name : PathName) → is_directory_at layer path ≡ true → has_parent layer (child_path path name) ≡ true
directory-parent_of layer path name holds =
    ap (λ b. b || is_directory_at layer (parent_path (child_path path name))) (length-child path name)
    ∙ (ap (is_directory_at layer) (parent_path-child path name) ∙ holds)

pub entry-parent : (layer : Entries) (path : PathNames) (name : PathName) (inode : Inode) → IsLayer layer → entry_at layer (child_path path name) ≡ Some inode → is_directory_at layer path ≡ true
entry-parent layer path name inode is here = parent-directory layer path name (lookup-all (λ entry. has_parent layer entry.0) (child_path path name) layer inode is.closed here)

-- so does each path on the way to it
pub entry-above : (layer : Entries) (path : PathNames) (name : PathName) (rest : PathNames) (inode : Inode) → IsLayer layer → entry_at layer (path ++ name ∷ rest) ≡ Some inode → is_directory_at layer path ≡ true
entry-above layer path name [] inode is here = entry-parent layer path name inode is here
entry-above layer path name (other ∷ rest) inode is here =
    directory-parent layer path name is
    (entry-above layer (child_path path name) other rest inode is (ap (entry_at layer) (append_assoc path (name ∷ []) (other ∷ rest)) ∙ here))

-- below no directory nothing is
pub nothing-below : (layer : Entries) (path : PathNames) (name : PathName) (rest : PathNames) → IsLayer layer → is_directory_at layer path ≡ false → entry_at layer (path ++ name ∷ rest) ≡ None
nothing-below layer path name rest is none = by (entry_at layer (path ++ name ∷ rest)) refl
  where
    by : (found : Option Inode) → entry_at layer (path ++ name ∷ rest) ≡ found → found ≡ None
    by None e = refl
    by (Some inode) e = let bad : true ≡ false = sym (entry-above layer path name rest inode is e) ∙ none in cc

-- a directory is an entry
pub directory-entry : (layer : Entries) (path : PathNames) → is_directory_at layer path ≡ true → (inode : Inode) × (entry_at layer path ≡ Some inode)
directory-entry layer path holds = by (entry_at layer path) refl holds
  where
    by : (found : Option Inode) → entry_at layer path ≡ found → directory_found found ≡ true → (inode : Inode) × (entry_at layer path ≡ Some inode)
    by None e h = let bad : false ≡ true = h in cc
    by (Some inode) e h = (inode, e)

-- ---- with one more name

pub natural_path-child : (layer : Entries) (path : PathNames) (name : PathName) → natural_path layer (child_path path name) ≡ child_path (walk layer path).next name
natural_path-child layer path name =
    ap (λ (p : PathNames). (walk layer p).next ++ drop (length p) (child_path path name)) (parent_path-child path name)
    ∙ ap (λ (rest : PathNames). (walk layer path).next ++ rest) (drop-append_seam path (name ∷ []))

module _ (layer : Entries) (path : PathNames) (name : PathName) (is : IsLayer layer) where
  -- a directory: its redirect says where the layers below have it, and whether they are closed
  pub walk-child_directory : (inode : Inode) → entry_at layer (child_path path name) ≡ Some inode → is_directory inode ≡ true
      → walk layer (child_path path name) ≡ record { found = Some inode; next = entered_path (mark_of inode) (walk layer path).next name; closed = entered_closed (mark_of inode) (walk layer path).closed }
  walk-child_directory inode here directory =
      let parent = walk-whole layer path (entry-parent layer path name inode is here) in
      let mark = mark-child layer path name (Some inode) here in
      walk-whole layer (child_path path name) (ap directory_found here ∙ directory)
      ∙ (λ j. record {
        found = here j;
        next = (turn-entered layer path name (mark_of inode) mark ∙ ap (λ (s : Step). entered_path (mark_of inode) s.next name) (sym parent)) j;
        closed = (is_shut-entered layer path name (mark_of inode) mark ∙ ap (λ (s : Step). entered_closed (mark_of inode) s.closed) (sym parent)) j;
      })

  -- no directory, or nothing, in a directory: the walk ends there
  pub walk-child_end : (found : Option Inode) → is_directory_at layer path ≡ true → entry_at layer (child_path path name) ≡ found → directory_found found ≡ false
      → (rest : PathNames) → walk layer (path ++ name ∷ rest) ≡ walk_beyond found (walk layer path).next (walk layer path).closed name rest
  walk-child_end found holds here file rest =
      walk-stop layer path name rest is holds (ap directory_found here ∙ file)
      ∙ (λ j. walk_beyond (here j) (sym (walk-whole layer path holds) j).next (sym (walk-whole layer path holds) j).closed name rest)

-- past a name that is no directory
pub walks-pass : WalksPass
walks-pass layer path name other is rest holds stops = by (entry_at layer (child_path path name)) refl
  where
    next : PathNames
    next = (walk layer path).next

    closed : Bool
    closed = (walk layer path).closed

    beyond : (found : Option Inode) → walk_beyond found next closed name (other ∷ rest) ≡ nothing_found (next ++ name ∷ other ∷ rest) (closed || is_some found)
    beyond None = ap (nothing_found (next ++ name ∷ other ∷ rest)) (sym (or-false closed))
    beyond (Some inode) = ap (nothing_found (next ++ name ∷ other ∷ rest)) (sym (or-true closed))

    by : (found : Option Inode) → entry_at layer (child_path path name) ≡ found → walk layer (path ++ name ∷ other ∷ rest) ≡ nothing_found (next ++ name ∷ other ∷ rest) (closed || is_some (entry_at layer (child_path path name)))
    by found here =
        walk-child_end layer path name is found holds here (ap directory_found (sym here) ∙ stops) (other ∷ rest)
        ∙ (beyond found ∙ ap (λ (o : Option Inode). nothing_found (next ++ name ∷ other ∷ rest) (closed || is_some o)) (sym here))

-- the mark of a row, by its inode
pub own-mark : (inode : Inode) (mark : Mark) → Some (mark_of inode) ≡ Some mark → mark ≡ mark_of inode
own-mark inode mark same = sym (ap (λ o. unwrap_or o mark) same)

-- ---- beyond a directory

-- what a walk finds that ends at a file
pub found-file : (inode : Inode) (mark : Mark) (turned : PathNames) (shut : Bool) (name : PathName) → (walk_to_file inode mark turned shut name).found ≡ Some inode
found-file inode (Meta None) turned shut name = refl
found-file inode (Meta (Some (To origin))) turned shut name = refl
found-file inode (Meta (Some (Beside origin))) turned shut name = refl
found-file inode _ turned shut name = refl

pub file-found : (inode : Inode) (turned : PathNames) (shut : Bool) (own : PathName) → is_whiteout inode ≡ false → walk_beyond (Some inode) turned shut own [] ≡ walk_to_file inode (mark_of inode) turned shut own
file-found inode turned shut own is = ap (λ b. cond b (nothing_found (child_path turned own) true) (walk_to_file inode (mark_of inode) turned shut own)) is

pub file-is_found : (inode : Inode) (turned : PathNames) (shut : Bool) (own : PathName) → is_whiteout inode ≡ false → (walk_beyond (Some inode) turned shut own []).found ≡ Some inode
file-is_found inode turned shut own is = ap (λ (s : Step). s.found) (file-found inode turned shut own is) ∙ found-file inode (mark_of inode) turned shut own

pub whiteout-closes : (inode : Inode) (turned : PathNames) (shut : Bool) (own : PathName) → is_whiteout inode ≡ true → walk_beyond (Some inode) turned shut own [] ≡ nothing_found (child_path turned own) true
whiteout-closes inode turned shut own is = ap (λ b. cond b (nothing_found (child_path turned own) true) (walk_to_file inode (mark_of inode) turned shut own)) is

-- ---- what a walk finds is the entry at its path, and no whiteout

pub walk-finds : (layer : Entries) (path : PathNames) (inode : Inode) → IsLayer layer → (walk layer path).found ≡ Some inode → (entry_at layer path ≡ Some inode) × (is_whiteout inode ≡ false)
walk-finds layer path inode is found = by (walk-end layer path is)
  where
    by : (is_directory_at layer path ≡ true) ⊎ Beyond layer path → (entry_at layer path ≡ Some inode) × (is_whiteout inode ≡ false)
    by (inl holds) =
        let here : entry_at layer path ≡ Some inode = ap (λ (s : Step). s.found) (sym (walk-whole layer path holds)) ∙ found in
        (here, directory-no_whiteout inode (ap directory_found (sym here) ∙ holds))
    by (inr b) = ends (entry_at layer next) refl b.rest refl (ap (λ (s : Step). s.found) (sym (walk-past layer path is b)) ∙ found)
      where
        next : PathNames
        next = child_path b.directory b.name

        ends : (entry : Option Inode) → entry_at layer next ≡ entry → (rest : PathNames) → b.rest ≡ rest → (walk_beyond (entry_at layer next) (turn layer b.directory) (is_shut layer b.directory) b.name b.rest).found ≡ Some inode → (entry_at layer path ≡ Some inode) × (is_whiteout inode ≡ false)
        ends None e rest r finds =
            let bad : None ≡ Some inode = (λ j. (walk_beyond (sym e j) (turn layer b.directory) (is_shut layer b.directory) b.name b.rest).found) ∙ finds in cc
        ends (Some i) e (other ∷ rest) r finds =
            let bad : None ≡ Some inode = (λ j. (walk_beyond (sym e j) (turn layer b.directory) (is_shut layer b.directory) b.name (sym r j)).found) ∙ finds in cc
        ends (Some i) e [] r finds = split (is_whiteout i) refl ((λ j. (walk_beyond (sym e j) (turn layer b.directory) (is_shut layer b.directory) b.name (sym r j)).found) ∙ finds)
          where
            split : (w : Bool) → is_whiteout i ≡ w → (cond w (nothing_found (child_path (turn layer b.directory) b.name) true) (walk_to_file i (mark_of i) (turn layer b.directory) (is_shut layer b.directory) b.name)).found ≡ Some inode → (entry_at layer path ≡ Some inode) × (is_whiteout inode ≡ false)
            split true w none = let bad : None ≡ Some inode = none in cc
            split false w some =
                let one : Some i ≡ Some inode = sym (found-file i (mark_of i) (turn layer b.directory) (is_shut layer b.directory) b.name) ∙ some in
                let same : i ≡ inode = cc in
                let whole : path ≡ next = sym b.whole ∙ ap (λ (rest : PathNames). b.directory ++ b.name ∷ rest) r in
                (ap (entry_at layer) whole ∙ (e ∙ one), ap is_whiteout (sym same) ∙ w)

-- ---- entries

-- an entry that is no directory isn't the root, so its mark is its inode's
pub mark-file : (layer : Entries) (path : PathNames) (inode : Inode) → IsLayer layer → entry_at layer path ≡ Some inode → is_directory inode ≡ false → mark_at layer path ≡ Some (mark_of inode)
mark-file layer path inode is here file = by (last-name path)
  where
    by : (path ≡ []) ⊎ ((directory : PathNames) × (name : PathName) × (path ≡ child_path directory name)) → mark_at layer path ≡ Some (mark_of inode)
    by (inl e) = let bad : false ≡ true = sym file ∙ (ap directory_found (sym here) ∙ (ap (is_directory_at layer) e ∙ is.rooted)) in cc
    by (inr (directory, name, e)) = ap (mark_at layer) e ∙ mark-child layer directory name (Some inode) (ap (entry_at layer) (sym e) ∙ here)

-- an entry is at the path of each row
pub entry-of_row : (layer : Entries) (number : ℕ) → IsLayer layer → number < length layer → (inode : Inode) × (entry_at layer (path_at layer number) ≡ Some inode)
entry-of_row layer number is inside = by (slice_get layer number) refl
  where
    by : (o : Option Entry) → slice_get layer number ≡ o → (inode : Inode) × (entry_at layer (path_at layer number) ≡ Some inode)
    by None e = absurd (omega (arith, none-past layer number e, inside))
    by (Some entry) e = (entry.1, ap (λ o. entry_at layer (path_of o)) e ∙ entry_at-number layer number entry is.in_order e)

-- ---- what is at one more name says only by its mark where the walk goes on

pub marked-whiteout : (inode : Inode) → is_whiteout inode ≡ true → mark_of inode ≡ Whiteout
marked-whiteout inode white =
    ap (λ (b : Bool). cond b Whiteout (cond (is_directory inode && has_opaque inode) DirOpaque (cond (is_directory inode) (directory_mark (redirect_reading inode)) (cond (is_regular inode && has_metacopy inode) (metacopy_mark (redirect_reading inode)) Leaf)))) white

pub marked-directory : (inode : Inode) → is_directory_mark (mark_of inode) ≡ true → is_directory inode ≡ true
marked-directory inode is = by (is_whiteout inode) refl
  where
    by : (b : Bool) → is_whiteout inode ≡ b → is_directory inode ≡ true
    by true white = let bad : false ≡ true = sym (ap is_directory_mark (marked-whiteout inode white)) ∙ is in cc
    by false none = sym (mark-directory inode none) ∙ is

module _ (next : PathNames) (name : PathName) where
  pub entered-on : (mark : Mark) → is_directory_mark mark ≡ true → (closed : Bool) → (entered_path mark next name ≡ next_on mark next name) × (entered_closed mark closed ≡ closed_on mark name closed)
  entered-on DirPlain is true = (refl, refl)
  entered-on DirPlain is false = (refl, refl)
  entered-on (DirMoved (To origin)) is closed = (refl, refl)
  entered-on (DirMoved (Beside own)) is true = (refl, refl)
  entered-on (DirMoved (Beside own)) is false = (refl, refl)
  entered-on DirOpaque is true = (refl, refl)
  entered-on DirOpaque is false = (refl, refl)
  entered-on DirBad is true = (refl, refl)
  entered-on DirBad is false = (refl, refl)
  entered-on Whiteout is closed = let bad : false ≡ true = is in cc
  entered-on (Meta redirect) is closed = let bad : false ≡ true = is in cc
  entered-on MetaBad is closed = let bad : false ≡ true = is in cc
  entered-on Leaf is closed = let bad : false ≡ true = is in cc

  file-on : (inode : Inode) (mark : Mark) → is_directory_mark mark ≡ false → (closed : Bool) → walk_to_file inode mark next closed name ≡ record { found = Some inode; next = next_on mark next name; closed = closed_on mark name closed }
  file-on inode (Meta None) is closed = refl
  file-on inode (Meta (Some (To origin))) is closed = refl
  file-on inode (Meta (Some (Beside own))) is closed = refl
  file-on inode MetaBad is closed = refl
  file-on inode Leaf is closed = refl
  file-on inode Whiteout is closed = refl
  file-on inode DirPlain is closed = let bad : true ≡ false = is in cc
  file-on inode (DirMoved redirect) is closed = let bad : true ≡ false = is in cc
  file-on inode DirOpaque is closed = let bad : true ≡ false = is in cc
  file-on inode DirBad is closed = let bad : true ≡ false = is in cc

pub walk-child : (layer : Entries) (path : PathNames) (name : PathName) → IsLayer layer → (inode : Inode) → entry_at layer (child_path path name) ≡ Some inode
    → walk layer (child_path path name) ≡ record { found = cond (is_whiteout inode) None (Some inode); next = next_on (mark_of inode) (walk layer path).next name; closed = closed_on (mark_of inode) name (walk layer path).closed }
walk-child layer path name is inode here = by (is_directory inode) refl
  where
    next : PathNames
    next = (walk layer path).next

    closed : Bool
    closed = (walk layer path).closed

    white : is_directory inode ≡ false → (b : Bool) → is_whiteout inode ≡ b → walk_beyond (Some inode) next closed name [] ≡ record { found = cond (is_whiteout inode) None (Some inode); next = next_on (mark_of inode) next name; closed = closed_on (mark_of inode) name closed }
    white d true w =
        let mark = marked-whiteout inode w in
        whiteout-closes inode next closed name w ∙ (λ j. record { found = cond (sym w j) None (Some inode); next = next_on (sym mark j) next name; closed = closed_on (sym mark j) name closed })
    white d false w =
        file-found inode next closed name w
        ∙ (file-on next name inode (mark_of inode) (mark-directory inode w ∙ d) closed
        ∙ ap (λ (b : Bool). record { found = cond b None (Some inode); next = next_on (mark_of inode) next name; closed = closed_on (mark_of inode) name closed }) (sym w))

    by : (b : Bool) → is_directory inode ≡ b → walk layer (child_path path name) ≡ record { found = cond (is_whiteout inode) None (Some inode); next = next_on (mark_of inode) next name; closed = closed_on (mark_of inode) name closed }
    by true d =
        let on = entered-on next name (mark_of inode) (directory-marked inode d) closed in
        walk-child_directory layer path name is inode here d ∙ (λ j. record { found = cond (sym (directory-no_whiteout inode d) j) None (Some inode); next = on.0 j; closed = on.1 j })
    by false d = walk-child_end layer path name is (Some inode) (entry-parent layer path name inode is here) here d [] ∙ white d (is_whiteout inode) refl

-- what is at a path and isn't found is a whiteout, which closes the walk
unfound-closed : (layer : Entries) (path : PathNames) (inode : Inode) → IsLayer layer → entry_at layer path ≡ Some inode → (walk layer path).found ≡ None → (walk layer path).closed ≡ true
unfound-closed layer path inode is here none = by (last-name path)
  where
    by : (path ≡ []) ⊎ ((directory : PathNames) × (name : PathName) × (path ≡ child_path directory name)) → (walk layer path).closed ≡ true
    by (inl e) =
        let holds : is_directory_at layer path ≡ true = ap (is_directory_at layer) e ∙ is.rooted in
        let bad : Some inode ≡ None = sym here ∙ (ap (λ (s : Step). s.found) (sym (walk-whole layer path holds)) ∙ none) in cc
    by (inr (directory, name, e)) = white (is_whiteout inode) refl
      where
        step : walk layer path ≡ record { found = cond (is_whiteout inode) None (Some inode); next = next_on (mark_of inode) (walk layer directory).next name; closed = closed_on (mark_of inode) name (walk layer directory).closed }
        step = ap (walk layer) e ∙ walk-child layer directory name is inode (ap (entry_at layer) (sym e) ∙ here)

        white : (b : Bool) → is_whiteout inode ≡ b → (walk layer path).closed ≡ true
        white true w = ap (λ (s : Step). s.closed) step ∙ ap (λ (m : Mark). closed_on m name (walk layer directory).closed) (marked-whiteout inode w)
        white false w = let bad : Some inode ≡ None = ap (λ (b : Bool). cond b None (Some inode)) (sym w) ∙ (ap (λ (s : Step). s.found) (sym step) ∙ none) in cc

-- the layers below are hidden alike by what is at a path and by what its walk finds there
pub hides-alike : (layer : Entries) (path : PathNames) → IsLayer layer → (is_some (entry_at layer path) || (walk layer path).closed) ≡ (is_some (walk layer path).found || (walk layer path).closed)
hides-alike layer path is = by (entry_at layer path) refl (walk layer path).found refl
  where
    by : (entry : Option Inode) → entry_at layer path ≡ entry → (found : Option Inode) → (walk layer path).found ≡ found → (is_some entry || (walk layer path).closed) ≡ (is_some found || (walk layer path).closed)
    by None e None f = refl
    by None e (Some inode) f = let bad : None ≡ Some inode = sym e ∙ (walk-finds layer path inode is f).0 in cc
    by (Some inode) e None f = sym (unfound-closed layer path inode is e f)
    by (Some inode) e (Some other) f = refl

pub none-is : {X : Type 0} (o : Option X) → is_some o ≡ false → o ≡ None
none-is None e = refl
none-is (Some x) e = let bad : true ≡ false = e in cc

-- ---- a walk that stops at a name in a directory

module _ (layer : Entries) (is : IsLayer layer) (above : PathNames) (name : PathName) (holds : is_directory_at layer above ≡ true) (stops : is_directory_at layer (child_path above name) ≡ false) where
  abbrev next : PathNames
  next = (walk layer above).next

  abbrev closed : Bool
  closed = (walk layer above).closed

  pub stop-walk : (found : Option Inode) → entry_at layer (child_path above name) ≡ found → (rest : PathNames) → walk layer (above ++ name ∷ rest) ≡ walk_beyond found next closed name rest
  stop-walk found here rest = walk-child_end layer above name is found holds here (ap (λ (o : Option Inode). elim o as (λ _. Bool) [ Some inode ↦ is_directory inode | None ↦ false ]) (sym here) ∙ stops) rest

  -- below that, nothing is found, and each path goes on by its own names
  passed : (rest : PathNames) (own : PathName) (names : PathNames) → walk layer (above ++ name ∷ (rest ++ own ∷ names)) ≡ nothing_found (next ++ name ∷ (rest ++ own ∷ names)) (closed || is_some (entry_at layer (child_path above name)))
  passed [] own names = walks-pass layer above name own is names holds stops
  passed (first ∷ rest) own names = walks-pass layer above name first is (rest ++ own ∷ names) holds stops

  nothing-there : entry_at layer (child_path above name) ≡ None → (rest : PathNames) → entry_at layer (above ++ name ∷ rest) ≡ None
  nothing-there here [] = here
  nothing-there here (other ∷ rest) = ap (entry_at layer) (sym (append_assoc above (name ∷ []) (other ∷ rest))) ∙ nothing-below layer (child_path above name) other rest is stops

  ended : (found : Option Inode) → entry_at layer (child_path above name) ≡ found → (rest : PathNames) → (closed || is_some found) ≡ (is_some (entry_at layer (above ++ name ∷ rest)) || (walk layer (above ++ name ∷ rest)).closed)
  ended None here rest = or-false closed ∙ sym (λ j. is_some (nothing-there here rest j) || (stop-walk None here rest j).closed)
  ended (Some inode) here [] = or-true closed ∙ sym (ap (λ (o : Option Inode). is_some o || (walk layer (child_path above name)).closed) here)
  ended (Some inode) here (other ∷ rest) =
      or-true closed
      ∙ sym (ap (λ (s : Step). is_some (entry_at layer (above ++ name ∷ other ∷ rest)) || s.closed) (stop-walk (Some inode) here (other ∷ rest)) ∙ or-true (is_some (entry_at layer (above ++ name ∷ other ∷ rest))))

  goes : (found : Option Inode) → entry_at layer (child_path above name) ≡ found → (rest : PathNames) → (closed || is_some found) ≡ false → next ++ name ∷ rest ≡ (walk layer (above ++ name ∷ rest)).next
  goes None here rest opened = ap (λ (s : Step). s.next) (sym (stop-walk None here rest))
  goes (Some inode) here rest opened = let bad : true ≡ false = sym (or-true closed) ∙ opened in cc

  -- the path by its names, past the directory
  pub past-there : (found : Option Inode) → entry_at layer (child_path above name) ≡ found → (rest : PathNames) (hidden : Bool) → hidden ≡ (closed || is_some found) → IsPast layer (above ++ name ∷ rest) (next ++ name ∷ rest) hidden
  past-there found here rest hidden told = record {
    none = no-directory-below layer above name is stops rest;
    ended = told ∙ ended found here rest;
    next = λ opened. goes found here rest (sym told ∙ opened);
    below = λ own names.
        ap (walk layer) (append_assoc above (name ∷ rest) (own ∷ names))
        ∙ (passed rest own names
        ∙ (λ j. nothing_found (sym (append_assoc next (name ∷ rest) (own ∷ names)) j) ((ap (λ (o : Option Inode). closed || is_some o) here ∙ sym told) j)));
  }

-- where the walk of a path leads that goes beyond a directory
pub past-beyond : (layer : Entries) (path : PathNames) → IsLayer layer → Beyond layer path → (next_lookup : PathNames) × (hidden : Bool) × IsPast layer path next_lookup hidden
past-beyond layer path is b =
    let found = entry_at layer (child_path b.directory b.name) in
    let next_lookup : PathNames = (walk layer b.directory).next ++ b.name ∷ b.rest in
    let hidden : Bool = (walk layer b.directory).closed || is_some found in
    (next_lookup, hidden, subst (λ (p : PathNames). IsPast layer p next_lookup hidden) b.whole (past-there layer is b.directory b.name b.holds b.stops found refl b.rest hidden refl))

-- the same of each path that is no directory
past-at : (layer : Entries) (path : PathNames) → IsLayer layer → is_directory_at layer path ≡ false → (next_lookup : PathNames) × (hidden : Bool) × IsPast layer path next_lookup hidden
past-at layer path is none = by (walk-end layer path is)
  where
    by : (is_directory_at layer path ≡ true) ⊎ Beyond layer path → (next_lookup : PathNames) × (hidden : Bool) × IsPast layer path next_lookup hidden
    by (inl holds) = let bad : true ≡ false = sym holds ∙ none in cc
    by (inr b) = past-beyond layer path is b

-- ---- one more name past that

-- nothing is found with it, and the walk is closed, or goes on as the other does with that name
abbrev pub Below : Step → Step → PathName → Type 0
Below outer inner name = (inner.found ≡ None) × ((inner.closed ≡ true) ⊎ ((outer.found ≡ None) × (inner.closed ≡ outer.closed) × (inner.next ≡ child_path outer.next name)))

module _ (layer : Entries) (path : PathNames) (name : PathName) (is : IsLayer layer) where
  pub walk-below : is_directory_at layer path ≡ false → Below (walk layer path) (walk layer (child_path path name)) name
  walk-below none = let past = past-at layer path is none in by past.0 past.1 past.2
    where
      passed : (found : Option Inode) (closed : Bool) → (is_some found || closed) ≡ false → (found ≡ None) × (closed ≡ false)
      passed None closed e = (refl, e)
      passed (Some inode) closed e = let bad : true ≡ false = e in cc

      by : (next_lookup : PathNames) (hidden : Bool) → IsPast layer path next_lookup hidden → Below (walk layer path) (walk layer (child_path path name)) name
      by next_lookup true past = (ap (λ (s : Step). s.found) (past.below name []), inl (ap (λ (s : Step). s.closed) (past.below name [])))
      by next_lookup false past =
          let step : walk layer (child_path path name) ≡ nothing_found (child_path next_lookup name) false = past.below name [] in
          let open_ = passed (walk layer path).found (walk layer path).closed (sym (past.ended ∙ hides-alike layer path is)) in
          (ap (λ (s : Step). s.found) step, inr (open_.0, ap (λ (s : Step). s.closed) step ∙ sym open_.1, ap (λ (s : Step). s.next) step ∙ ap (λ (p : PathNames). child_path p name) (past.next refl)))

  -- a walk that finds nothing and is open goes on by one more name
  pub walk-child_beyond : (walk layer path).found ≡ None → (walk layer path).closed ≡ false → walk layer (child_path path name) ≡ nothing_found (child_path (walk layer path).next name) false
  walk-child_beyond nothing opened =
      let past = past-at layer path is (no_directory (is_directory_at layer path) refl) in
      let shown : past.1 ≡ false = past.2.ended ∙ (hides-alike layer path is ∙ (λ j. is_some (nothing j) || opened j)) in
      past.2.below name [] ∙ (λ j. nothing_found (child_path (past.2.next shown j) name) (shown j))
    where
      no_directory : (b : Bool) → is_directory_at layer path ≡ b → is_directory_at layer path ≡ false
      no_directory false e = e
      no_directory true e = let bad : true ≡ false = sym e ∙ ap directory_found (sym (ap (λ (s : Step). s.found) (walk-whole layer path e)) ∙ nothing) in cc

pub passes-over : (layer : Entries) (path : PathNames) (name : PathName) → IsLayer layer → (walk layer (child_path path name)).found ≡ None → (walk layer (child_path path name)).closed ≡ false → PassesOver layer path name
passes-over layer path name is nothing opened = by (is_directory_at layer path) refl
  where
    outside : Below (walk layer path) (walk layer (child_path path name)) name → PassesOver layer path name
    outside (none, inl closed) = let bad : true ≡ false = sym closed ∙ opened in cc
    outside (none, inr (found, same, next)) = record { opened = sym same ∙ opened; next = next; passed = ap (is_directory_or_none) found }

    passed_directory : (o : Option Inode) → directory_found o ≡ true → is_directory_or_none o ≡ true
    passed_directory None e = refl
    passed_directory (Some inode) e = e

    inside : is_directory_at layer path ≡ true → (found : Option Inode) → entry_at layer (child_path path name) ≡ found → PassesOver layer path name
    inside above (Some inode) here = let bad : true ≡ false = sym (unfound-closed layer (child_path path name) inode is here nothing) ∙ opened in cc
    inside above None here =
        let step : walk layer (child_path path name) ≡ nothing_found (child_path (walk layer path).next name) (walk layer path).closed = walk-child_end layer path name is None above here refl [] in
        record {
          opened = ap (λ (s : Step). s.closed) (sym step) ∙ opened;
          next = ap (λ (s : Step). s.next) step;
          passed = ap (λ (s : Step). is_directory_or_none s.found) (walk-whole layer path above) ∙ passed_directory (entry_at layer path) above;
        }

    by : (b : Bool) → is_directory_at layer path ≡ b → PassesOver layer path name
    by true e = inside e (entry_at layer (child_path path name)) refl
    by false e = outside (walk-below layer path name is e)

-- a file that is no metacopy file closes its walk
other-closes : (mark : Mark) (name : PathName) (closed : Bool) → is_directory_mark mark ≡ false → is_metacopy_mark mark ≡ false → closed_on mark name closed ≡ true
other-closes DirPlain name closed file other = let bad : true ≡ false = file in cc
other-closes (DirMoved redirect) name closed file other = let bad : true ≡ false = file in cc
other-closes (Meta redirect) name closed file other = let bad : true ≡ false = other in cc
other-closes _ name closed file other = refl

pub found-closes : (layer : Entries) (path : PathNames) (inode : Inode) → IsLayer layer → (walk layer path).found ≡ Some inode → is_directory inode ≡ false → is_metacopy inode ≡ false → (walk layer path).closed ≡ true
found-closes layer path inode is found none other = by (last-name path)
  where
    here : (entry_at layer path ≡ Some inode) × (is_whiteout inode ≡ false)
    here = walk-finds layer path inode is found

    by : (path ≡ []) ⊎ ((directory : PathNames) × (name : PathName) × (path ≡ child_path directory name)) → (walk layer path).closed ≡ true
    by (inl e) = let bad : false ≡ true = sym none ∙ (ap directory_found (sym here.0) ∙ (ap (is_directory_at layer) e ∙ is.rooted)) in cc
    by (inr (directory, name, e)) =
        ap (λ (s : Step). s.closed) (ap (walk layer) e ∙ walk-child layer directory name is inode (ap (entry_at layer) (sym e) ∙ here.0))
        ∙ other-closes (mark_of inode) name (walk layer directory).closed (mark-directory inode here.1 ∙ none) other
