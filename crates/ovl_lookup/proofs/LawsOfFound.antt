-- Laws of what the walks through layers find, layer by layer, and of what is shown of it.
use Rattle.std.proofs.Common.{◌≡◌, Bool, true, false, cond, Option, Some, None, List, [], ◌∷◌, get_or, refl, sym, ap, ◌∙◌, ◌++◌, inl, inr}
use Rattle.std.specs.Prelude.{not, ◌&&◌, ◌||◌}
use Rattle.std.specs.List.{filter_map, cons_option, list_all, find, list_any, All}
use Rattle.std.proofs.lemmas.List.Folds.{list_any-append}
use Rattle.std.proofs.Math.Bool.{or-true}
use Rattle.ovl_names.specs.Paths.{PathNames, child_path}
use Rattle.ovl_names.proofs.Ascending.{both}
use Rattle.ovl_names.specs.Names.{PathName, name_eq}
use Rattle.ovl_inode.specs.declared.inodes.Inode.{Inode}
use Rattle.ovl_inode.specs.Marks.{mark_of, is_metacopy, is_directory, is_regular, is_whiteout, has_metacopy, is_data}
use Rattle.ovl_inode.specs.Inodes.{visible}
use Rattle.ovl_layer.specs.Layers.{Entries, entry_at, Entry, IsLayer, is_directory_at, names_below}
use Rattle.ovl_lookup.specs.declared.steps.Step.{Step}
use Rattle.ovl_lookup.specs.Walk.{walk, nothing_found, turn, is_shut}
use Rattle.ovl_lookup.specs.Trace.{walks, things_found, leading_files, leading_directories, hits_of}
use Rattle.ovl_lookup.specs.Merged.{data_of, last_of, shown_of, without_blob, is_full_file, full_file_in, place_of_data, data_at_place, last_place, is_nothing}
use Rattle.ovl_lookup.specs.declared.looks.Look.{Look}
use Rattle.ovl_lookup.specs.declared.looks.Look.TheVariants.{Shown, Broken}
use Rattle.ovl_lookup.specs.Passes.{data_below, own_names_along}
use Rattle.ovl_lookup.proofs.LawsOfPaths.{all-first, all-rest, lookup-all}
use Rattle.ovl_lookup.proofs.LawsOfInodes.{bare_file, directory-kind, metacopy-file}
use Rattle.ovl_lookup.proofs.LawsOfWalks.{Below, names_below-has, walk-below, walk-child_none, walk-finds, walk-whole}

-- the things found from a layer on, by the walk in it
pub things_found-step : (layer : Entries) (layers : List Entries) (path : PathNames) → things_found (layer ∷ layers) path ≡ cons_option (walk layer path).found (cond (walk layer path).closed [] (things_found layers (walk layer path).next))
things_found-step layer layers path = by (walk layer path).closed
  where
    by : (closed : Bool) → cons_option (walk layer path).found (filter_map (λ (s : Step). s.found) (cond closed [] (walks layers (walk layer path).next))) ≡ cons_option (walk layer path).found (cond closed [] (things_found layers (walk layer path).next))
    by true = refl
    by false = refl

-- ---- the data of a metacopy file

directory-plain : (inode : Inode) → is_directory inode ≡ true → (is_metacopy inode ≡ false) × (is_data inode ≡ false)
directory-plain inode directory = (by (is_metacopy inode) refl, ap (λ b. b && not (has_metacopy inode)) (directory-kind inode.kind directory))
  where
    by : (b : Bool) → is_metacopy inode ≡ b → b ≡ false
    by true e = sym directory ∙ (metacopy-file inode e).0
    by false e = refl

-- what the last of these is, where it has its contents itself
abbrev chosen : List Inode → Option Inode
chosen inodes = elim (last_of inodes) as (λ _. Option Inode) [ Some inode ↦ cond (is_data inode) (Some inode) None | None ↦ None ]

-- ---- the full file that data-only layers have

-- what is found passes the test by which it is found, and one that all pass
find-passes : {X : Type 0} (test : X → Bool) (xs : List X) (x : X) → find test xs ≡ Some x → test x ≡ true
find-passes test [] x e = let bad : None ≡ Some x = e in cc
find-passes test (one ∷ xs) x e = by (test one) refl (find-passes test xs x) e
  where
    by : (b : Bool) → test one ≡ b → (find test xs ≡ Some x → test x ≡ true) → cond b (Some one) (find test xs) ≡ Some x → test x ≡ true
    by true h later e = let same : one ≡ x = cc in ap test (sym same) ∙ h
    by false h later e = later e

find-all : {X : Type 0} (test passed : X → Bool) (xs : List X) (x : X) → list_all passed xs ≡ true → find test xs ≡ Some x → passed x ≡ true
find-all test passed [] x all e = let bad : None ≡ Some x = e in cc
find-all test passed (one ∷ xs) x all e = by (test one) (find-all test passed xs x parts.1) e
  where
    parts : (passed one ≡ true) × (list_all passed xs ≡ true)
    parts = both {a = passed one} {b = list_all passed xs} all

    by : (b : Bool) → (find test xs ≡ Some x → passed x ≡ true) → cond b (Some one) (find test xs) ≡ Some x → passed x ≡ true
    by true later e = let same : one ≡ x = cc in ap passed (sym same) ∙ parts.0
    by false later e = later e

-- such a file has its contents itself
full_file-data : (layers : List Entries) (path : PathNames) (contents : Inode) → full_file_in layers path ≡ Some contents → is_data contents ≡ true
full_file-data layers path contents e =
    (both {a = is_data contents} {b = not (is_whiteout contents)} (find-passes is_full_file (filter_map (λ (layer : Entries). entry_at layer path) layers) contents e)).0

pub placed-data : (data_only : List Entries) (place : Option PathNames) (contents : Inode) → data_at_place data_only place ≡ Some contents → is_data contents ≡ true
placed-data data_only None contents e = let bad : None ≡ Some contents = e in cc
placed-data data_only (Some place) contents e = full_file-data data_only place contents e

-- ---- the data of what is found

module _ (data_only : List Entries) where
  files-data : (inode : Inode) (below : List Inode) → is_data inode ≡ false
      → cond (list_all is_metacopy below) (data_at_place data_only (last_place (inode ∷ below))) (chosen (inode ∷ leading_files below)) ≡ data_below data_only (place_of_data (mark_of inode)) below
  files-data inode [] bare = refl
  files-data inode (other ∷ below) bare = by (files-data other below) (is_directory other) refl (is_metacopy other) refl
    where
      by : (is_data other ≡ false → cond (list_all is_metacopy below) (data_at_place data_only (last_place (other ∷ below))) (chosen (other ∷ leading_files below)) ≡ data_below data_only (place_of_data (mark_of other)) below)
          → (d : Bool) → is_directory other ≡ d → (m : Bool) → is_metacopy other ≡ m
          → cond (list_all is_metacopy (other ∷ below)) (data_at_place data_only (last_place (inode ∷ other ∷ below))) (chosen (inode ∷ leading_files (other ∷ below))) ≡ data_below data_only (place_of_data (mark_of inode)) (other ∷ below)
      by later true d m e =
          let plain = directory-plain other d in
          (λ j. cond (plain.0 j && list_all is_metacopy below) (data_at_place data_only (last_place (other ∷ below))) (chosen (inode ∷ cond (d j) [] (cond (is_metacopy other) (other ∷ leading_files below) (other ∷ [])))))
          ∙ (ap (λ b. cond b (Some inode) None) bare
          ∙ sym (λ j. cond (plain.0 j) (data_below data_only (place_of_data (mark_of other)) below) (cond (plain.1 j) (Some other) None)))
      by later false d true m =
          (λ j. cond (m j && list_all is_metacopy below) (data_at_place data_only (last_place (other ∷ below))) (chosen (inode ∷ cond (d j) [] (cond (m j) (other ∷ leading_files below) (other ∷ [])))))
          ∙ (later (bare_file other (metacopy-file other m).1).1
          ∙ sym (ap (λ b. cond b (data_below data_only (place_of_data (mark_of other)) below) (cond (is_data other) (Some other) None)) m))
      by later false d false m =
          (λ j. cond (m j && list_all is_metacopy below) (data_at_place data_only (last_place (other ∷ below))) (chosen (inode ∷ cond (d j) [] (cond (m j) (other ∷ leading_files below) (other ∷ [])))))
          ∙ sym (ap (λ b. cond b (data_below data_only (place_of_data (mark_of other)) below) (cond (is_data other) (Some other) None)) m)

  -- the data of a metacopy file are those below it
  pub data_of-metacopy : (inode : Inode) (below : List Inode) → is_metacopy inode ≡ true → is_directory inode ≡ false → is_data inode ≡ false → data_of data_only (inode ∷ below) ≡ data_below data_only (place_of_data (mark_of inode)) below
  data_of-metacopy inode below meta file bare =
      (λ j. cond (meta j && list_all is_metacopy below) (data_at_place data_only (last_place (inode ∷ below))) (chosen (cond (file j) (leading_directories (inode ∷ below)) (cond (file j) [] (cond (meta j) (inode ∷ leading_files below) (inode ∷ []))))))
      ∙ files-data inode below bare

  -- one with a malformed redirect has none
  pub data_of-bad : (inode : Inode) (below : List Inode) → is_metacopy inode ≡ false → is_directory inode ≡ false → is_data inode ≡ false → data_of data_only (inode ∷ below) ≡ None
  data_of-bad inode below meta file bare =
      (λ j. cond (meta j && list_all is_metacopy below) (data_at_place data_only (last_place (inode ∷ below))) (chosen (cond (file j) (leading_directories (inode ∷ below)) (cond (file j) [] (cond (meta j) (inode ∷ leading_files below) (inode ∷ []))))))
      ∙ ap (λ b. cond b (Some inode) None) bare

-- a file that has its contents itself is no metacopy file
data-plain : (inode : Inode) → is_data inode ≡ true → is_metacopy inode ≡ false
data-plain inode data_file = by (is_metacopy inode) refl
  where
    by : (b : Bool) → is_metacopy inode ≡ b → b ≡ false
    by true e = sym data_file ∙ (bare_file inode (metacopy-file inode e).1).1
    by false e = refl

-- the data among the things found, by the first of them
module _ (data_only : List Entries) (place : Option PathNames) where
  pub data_below-metacopy : (inode : Inode) (below : List Inode) → is_metacopy inode ≡ true → data_below data_only place (inode ∷ below) ≡ data_below data_only (place_of_data (mark_of inode)) below
  data_below-metacopy inode below meta = ap (λ b. cond b (data_below data_only (place_of_data (mark_of inode)) below) (cond (is_data inode) (Some inode) None)) meta

  pub data_below-data : (inode : Inode) (below : List Inode) → is_data inode ≡ true → data_below data_only place (inode ∷ below) ≡ Some inode
  data_below-data inode below data_file = λ j. cond (data-plain inode data_file j) (data_below data_only (place_of_data (mark_of inode)) below) (cond (data_file j) (Some inode) None)

  pub data_below-other : (inode : Inode) (below : List Inode) → is_metacopy inode ≡ false → is_data inode ≡ false → data_below data_only place (inode ∷ below) ≡ None
  data_below-other inode below meta bare = λ j. cond (meta j) (data_below data_only (place_of_data (mark_of inode)) below) (cond (bare j) (Some inode) None)

abbrev pub by_data : Inode → Option Inode → Look
by_data inode found = elim found as (λ _. Look) [ Some contents ↦ Shown (record (visible inode) { kind = contents.kind }) | None ↦ Broken (record (visible inode) { kind = without_blob inode.kind }) ]

-- what is shown of a first thing found, and of a metacopy file with its data or without
module _ (data_only : List Entries) where
  pub shown_of-full : (inode : Inode) (below : List Inode) → (is_regular inode && has_metacopy inode) ≡ false → shown_of data_only (inode ∷ below) ≡ Shown (visible inode)
  shown_of-full inode below full = ap (λ b. cond b (by_data inode (data_of data_only (inode ∷ below))) (Shown (visible inode))) full

  pub shown_of-contents : (inode contents : Inode) (below : List Inode) → (is_regular inode && has_metacopy inode) ≡ true → data_of data_only (inode ∷ below) ≡ Some contents → shown_of data_only (inode ∷ below) ≡ Shown (record (visible inode) { kind = contents.kind })
  shown_of-contents inode contents below bare found = λ j. cond (bare j) (by_data inode (found j)) (Shown (visible inode))

  pub shown_of-broken : (inode : Inode) (below : List Inode) → (is_regular inode && has_metacopy inode) ≡ true → data_of data_only (inode ∷ below) ≡ None → shown_of data_only (inode ∷ below) ≡ Broken (record (visible inode) { kind = without_blob inode.kind })
  shown_of-broken inode below bare found = λ j. cond (bare j) (by_data inode (found j)) (Shown (visible inode))

-- ---- what is found with one more name

abbrev pub any_found : List Inode → Bool
any_found [] = false
any_found (inode ∷ inodes) = true

abbrev pub starts_directory : List Inode → Bool
starts_directory [] = false
starts_directory (inode ∷ inodes) = is_directory inode

abbrev pub found_of : Step → (PathNames → List Inode) → List Inode
found_of step rest = cons_option step.found (cond step.closed [] (rest step.next))

-- the layers below find something with one more name only if they do without it
below-child : (outer inner : Step) (name : PathName) (rest : PathNames → List Inode) (own : PathNames → List PathName) → Below outer inner name
    → ((path : PathNames) → any_found (rest (child_path path name)) ≡ true → (starts_directory (rest path) ≡ true) × (list_any (name_eq name) (own path) ≡ true))
    → any_found (found_of inner rest) ≡ true
    → (starts_directory (found_of outer rest) ≡ true) × (list_any (name_eq name) (cond outer.closed [] (own outer.next)) ≡ true)
below-child outer inner name rest own (none, inl closed) later found =
    let bad : false ≡ true = sym (λ j. any_found (cons_option (none j) (cond (closed j) [] (rest inner.next)))) ∙ found in cc
below-child outer inner name rest own (none, inr (nothing, same, next)) later found = by outer.closed refl
  where
    by : (b : Bool) → outer.closed ≡ b → (starts_directory (cons_option outer.found (cond outer.closed [] (rest outer.next))) ≡ true) × (list_any (name_eq name) (cond outer.closed [] (own outer.next)) ≡ true)
    by true e =
        let bad : false ≡ true = sym (λ j. any_found (cons_option (none j) (cond ((same ∙ e) j) [] (rest inner.next)))) ∙ found in cc
    by false e =
        let both_later = later outer.next (sym (λ j. any_found (cons_option (none j) (cond ((same ∙ e) j) [] (rest (next j))))) ∙ found) in (
          (λ j. starts_directory (cons_option (nothing j) (cond (e j) [] (rest outer.next)))) ∙ both_later.0,
          ap (λ b. list_any (name_eq name) (cond b [] (own outer.next))) e ∙ both_later.1,
        )

-- a directory with one more name that is no entry goes on as the directory does
directory-child : (shut : Bool) (turned : PathNames) (name : PathName) (rest : PathNames → List Inode) (own : PathNames → List PathName)
    → ((path : PathNames) → any_found (rest (child_path path name)) ≡ true → (starts_directory (rest path) ≡ true) × (list_any (name_eq name) (own path) ≡ true))
    → any_found (found_of (nothing_found (child_path turned name) shut) rest) ≡ true
    → list_any (name_eq name) (cond shut [] (own turned)) ≡ true
directory-child true turned name rest own later found = let bad : false ≡ true = found in cc
directory-child false turned name rest own later found = (later turned found).1

pub starts-directory_found : (found : Option Inode) (rest : List Inode) → elim found as (λ _. Bool) [ Some inode ↦ is_directory inode | None ↦ false ] ≡ true → starts_directory (cons_option found rest) ≡ true
starts-directory_found None rest is = let bad : false ≡ true = is in cc
starts-directory_found (Some inode) rest is = is

any-front : (name : PathName) (one other : List PathName) → list_any (name_eq name) one ≡ true → list_any (name_eq name) (one ++ other) ≡ true
any-front name one other has = list_any-append (name_eq name) one other ∙ ap (λ b. b || list_any (name_eq name) other) has

any-back : (name : PathName) (one other : List PathName) → list_any (name_eq name) other ≡ true → list_any (name_eq name) (one ++ other) ≡ true
any-back name one other has = list_any-append (name_eq name) one other ∙ (ap (λ b. list_any (name_eq name) one || b) has ∙ or-true (list_any (name_eq name) one))

-- where something is found with one more name, a directory is found first without it,
-- and the name is one of the layers' own along the walks
pub child_found : (layers : List Entries) → All IsLayer layers → (path : PathNames) (name : PathName) → any_found (things_found layers (child_path path name)) ≡ true → (starts_directory (things_found layers path) ≡ true) × (list_any (name_eq name) (own_names_along layers path) ≡ true)
child_found [] each path name found = let bad : false ≡ true = found in cc
child_found (layer ∷ layers) each path name found =
    by (λ p. child_found layers (all-rest IsLayer layer layers each) p name) (is_directory_at layer path) refl (entry_at layer (child_path path name)) refl
  where
    is : IsLayer layer
    is = all-first IsLayer layer layers each

    found_here : any_found (found_of (walk layer (child_path path name)) (things_found layers)) ≡ true
    found_here = ap any_found (sym (things_found-step layer layers (child_path path name))) ∙ found

    by : ((p : PathNames) → any_found (things_found layers (child_path p name)) ≡ true → (starts_directory (things_found layers p) ≡ true) × (list_any (name_eq name) (own_names_along layers p) ≡ true))
        → (b : Bool) → is_directory_at layer path ≡ b → (entry : Option Inode) → entry_at layer (child_path path name) ≡ entry
        → (starts_directory (things_found (layer ∷ layers) path) ≡ true) × (list_any (name_eq name) (own_names_along (layer ∷ layers) path) ≡ true)
    by later true e (Some inode) here = (
      ap starts_directory (things_found-step layer layers path)
          ∙ (ap (λ (s : Step). starts_directory (found_of s (things_found layers))) (walk-whole layer path e)
          ∙ starts-directory_found (entry_at layer path) (cond (is_shut layer path) [] (things_found layers (turn layer path))) e),
      any-front name (names_below layer path) (cond (walk layer path).closed [] (own_names_along layers (walk layer path).next)) (names_below-has layer path name inode here),
    )
    by later true e None here = (
      ap starts_directory (things_found-step layer layers path)
          ∙ (ap (λ (s : Step). starts_directory (found_of s (things_found layers))) (walk-whole layer path e)
          ∙ starts-directory_found (entry_at layer path) (cond (is_shut layer path) [] (things_found layers (turn layer path))) e),
      any-back name (names_below layer path) (cond (walk layer path).closed [] (own_names_along layers (walk layer path).next))
          (ap (λ (s : Step). list_any (name_eq name) (cond s.closed [] (own_names_along layers s.next))) (walk-whole layer path e)
          ∙ directory-child (is_shut layer path) (turn layer path) name (things_found layers) (own_names_along layers) later
          (ap (λ (s : Step). any_found (found_of s (things_found layers))) (sym (walk-child_none layer path name is e here)) ∙ found_here)),
    )
    by later false e entry here =
        let parts = below-child (walk layer path) (walk layer (child_path path name)) name (things_found layers) (own_names_along layers) (walk-below layer path name is e) later found_here in (
          ap starts_directory (things_found-step layer layers path) ∙ parts.0,
          any-back name (names_below layer path) (cond (walk layer path).closed [] (own_names_along layers (walk layer path).next)) parts.1,
        )

-- ---- what is shown, by what is found

pub shown-any : (data_only : List Entries) (found : List Inode) → not (is_nothing (shown_of data_only found)) ≡ any_found found
shown-any data_only [] = refl
shown-any data_only (inode ∷ below) = by (is_regular inode && has_metacopy inode) (data_of data_only (inode ∷ below))
  where
    by : (b : Bool) (o : Option Inode) → not (is_nothing (cond b (by_data inode o) (Shown (visible inode)))) ≡ true
    by true None = refl
    by true (Some contents) = refl
    by false o = refl

-- ---- a file that is found first is no directory

data_kind : (o : Option Inode) (contents : Inode) → elim o as (λ _. Option Inode) [ Some inode ↦ cond (is_data inode) (Some inode) None | None ↦ None ] ≡ Some contents → is_data contents ≡ true
data_kind None contents e = let bad : None ≡ Some contents = e in cc
data_kind (Some inode) contents e = by (is_data inode) refl e
  where
    by : (b : Bool) → is_data inode ≡ b → cond b (Some inode) None ≡ Some contents → is_data contents ≡ true
    by false d e = let bad : None ≡ Some contents = e in cc
    by true d e = let same : inode ≡ contents = cc in ap is_data (sym same) ∙ d

pub data-regular : (data_only : List Entries) (found : List Inode) (contents : Inode) → data_of data_only found ≡ Some contents → is_data contents ≡ true
data-regular data_only found contents e = by (list_all is_metacopy found) e
  where
    by : (b : Bool) → cond b (data_at_place data_only (last_place found)) (elim (last_of (hits_of found)) as (λ _. Option Inode) [ Some inode ↦ cond (is_data inode) (Some inode) None | None ↦ None ]) ≡ Some contents → is_data contents ≡ true
    by true e = placed-data data_only (last_place found) contents e
    by false e = data_kind (last_of (hits_of found)) contents e

-- ---- what holds of all inodes of layers holds of all that is found, and of data among it

-- all inodes of a layer pass a test
abbrev pub Passes : (Inode → Bool) → Entries → Type 0
Passes test layer = list_all (λ (entry : Entry). test entry.1) layer ≡ true

pub found-passing : (test : Inode → Bool) (layers : List Entries) → All IsLayer layers → All (Passes test) layers → (path : PathNames) → list_all test (things_found layers path) ≡ true
found-passing test [] each pass path = refl
found-passing test (layer ∷ layers) each pass path =
    ap (list_all test) (things_found-step layer layers path)
    ∙ by (found-passing test layers (all-rest IsLayer layer layers each) (all-rest (Passes test) layer layers pass) (walk layer path).next) (walk layer path).found refl (walk layer path).closed
  where
    by : list_all test (things_found layers (walk layer path).next) ≡ true → (here : Option Inode) → (walk layer path).found ≡ here → (closed : Bool) → list_all test (cons_option here (cond closed [] (things_found layers (walk layer path).next))) ≡ true
    by later None h true = refl
    by later None h false = later
    by later (Some inode) h closed =
        let is : IsLayer layer = all-first IsLayer layer layers each in
        let holds : test inode ≡ true = lookup-all (λ (entry : Entry). test entry.1) path layer inode (all-first (Passes test) layer layers pass) (walk-finds layer path inode is h).0 in
        (λ j. holds j && rest closed j)
      where
        rest : (c : Bool) → list_all test (cond c [] (things_found layers (walk layer path).next)) ≡ true
        rest true = refl
        rest false = later

leading_directories-all : (test : Inode → Bool) (found : List Inode) → list_all test found ≡ true → list_all test (leading_directories found) ≡ true
leading_directories-all test [] all = refl
leading_directories-all test (inode ∷ found) all = by (is_directory inode) (leading_directories-all test found parts.1)
  where
    parts : (test inode ≡ true) × (list_all test found ≡ true)
    parts = both {a = test inode} {b = list_all test found} all

    by : (b : Bool) → list_all test (leading_directories found) ≡ true → list_all test (cond b (inode ∷ leading_directories found) []) ≡ true
    by true later = (λ j. parts.0 j && later j)
    by false later = refl

leading_files-all : (test : Inode → Bool) (found : List Inode) → list_all test found ≡ true → list_all test (leading_files found) ≡ true
leading_files-all test [] all = refl
leading_files-all test (inode ∷ found) all = by (is_directory inode) (is_metacopy inode) (leading_files-all test found parts.1)
  where
    parts : (test inode ≡ true) × (list_all test found ≡ true)
    parts = both {a = test inode} {b = list_all test found} all

    by : (d m : Bool) → list_all test (leading_files found) ≡ true → list_all test (cond d [] (cond m (inode ∷ leading_files found) (inode ∷ []))) ≡ true
    by true m later = refl
    by false true later = (λ j. parts.0 j && later j)
    by false false later = (λ j. parts.0 j && true)

hits-all : (test : Inode → Bool) (found : List Inode) → list_all test found ≡ true → list_all test (hits_of found) ≡ true
hits-all test [] all = refl
hits-all test (inode ∷ found) all = by (is_directory inode)
  where
    by : (b : Bool) → list_all test (cond b (leading_directories (inode ∷ found)) (leading_files (inode ∷ found))) ≡ true
    by true = leading_directories-all test (inode ∷ found) all
    by false = leading_files-all test (inode ∷ found) all

last-all : (test : Inode → Bool) (hits : List Inode) (inode : Inode) → list_all test hits ≡ true → last_of hits ≡ Some inode → test inode ≡ true
last-all test [] inode all last = let bad : None ≡ Some inode = last in cc
last-all test (hit ∷ []) inode all last = let same : hit ≡ inode = cc in ap test (sym same) ∙ (both {a = test hit} {b = true} all).0
last-all test (hit ∷ other ∷ hits) inode all last = last-all test (other ∷ hits) inode (both {a = test hit} {b = list_all test (other ∷ hits)} all).1 last

-- what layers have at a path
entries-passing : (test : Inode → Bool) (layers : List Entries) → All (Passes test) layers → (path : PathNames) → list_all test (filter_map (λ (layer : Entries). entry_at layer path) layers) ≡ true
entries-passing test [] pass path = refl
entries-passing test (layer ∷ layers) pass path = by (entry_at layer path) refl (entries-passing test layers (all-rest (Passes test) layer layers pass) path)
  where
    by : (here : Option Inode) → entry_at layer path ≡ here → list_all test (filter_map (λ (layer : Entries). entry_at layer path) layers) ≡ true
        → list_all test (cons_option here (filter_map (λ (layer : Entries). entry_at layer path) layers)) ≡ true
    by None h later = later
    by (Some inode) h later =
        let holds : test inode ≡ true = lookup-all (λ (entry : Entry). test entry.1) path layer inode (all-first (Passes test) layer layers pass) h in
        (λ j. holds j && later j)

-- the full file that data-only layers have
full_file-passing : (test : Inode → Bool) (layers : List Entries) → All (Passes test) layers → (path : PathNames) (contents : Inode) → full_file_in layers path ≡ Some contents → test contents ≡ true
full_file-passing test layers pass path contents e = find-all is_full_file test (filter_map (λ (layer : Entries). entry_at layer path) layers) contents (entries-passing test layers pass path) e

placed-passing : (test : Inode → Bool) (data_only : List Entries) → All (Passes test) data_only → (place : Option PathNames) (contents : Inode) → data_at_place data_only place ≡ Some contents → test contents ≡ true
placed-passing test data_only pass None contents e = let bad : None ≡ Some contents = e in cc
placed-passing test data_only pass (Some place) contents e = full_file-passing test data_only pass place contents e

pub data-passing : (test : Inode → Bool) (data_only : List Entries) → All (Passes test) data_only → (found : List Inode) (contents : Inode) → list_all test found ≡ true → data_of data_only found ≡ Some contents → test contents ≡ true
data-passing test data_only pass found contents all is = alone (list_all is_metacopy found) is
  where
    alone : (b : Bool) → cond b (data_at_place data_only (last_place found)) (elim (last_of (hits_of found)) as (λ _. Option Inode) [ Some inode ↦ cond (is_data inode) (Some inode) None | None ↦ None ]) ≡ Some contents → test contents ≡ true
    alone true d = placed-passing test data_only pass (last_place found) contents d
    alone false d = by (last_of (hits_of found)) refl d
      where
        by : (last : Option Inode) → last_of (hits_of found) ≡ last → elim last as (λ _. Option Inode) [ Some inode ↦ cond (is_data inode) (Some inode) None | None ↦ None ] ≡ Some contents → test contents ≡ true
        by None e d = let bad : None ≡ Some contents = d in cc
        by (Some inode) e d = split (is_data inode) d
          where
            split : (b : Bool) → cond b (Some inode) None ≡ Some contents → test contents ≡ true
            split true d = let same : inode ≡ contents = cc in ap test (sym same) ∙ last-all test (hits_of found) inode (hits-all test found all) e
            split false d = let bad : None ≡ Some contents = d in cc

-- the same of a test that all layers pass
module _ (test : Inode → Bool) (of : (layer : Entries) → IsLayer layer → Passes test layer) where
  passing : (layers : List Entries) → All IsLayer layers → All (Passes test) layers
  passing layers each k d inside = of (get_or layers k d) (each k d inside)

  pub found-all : (layers : List Entries) → All IsLayer layers → (path : PathNames) → list_all test (things_found layers path) ≡ true
  found-all layers each = found-passing test layers each (passing layers each)

  pub data-all : (data_only : List Entries) → All IsLayer data_only → (found : List Inode) (contents : Inode) → list_all test found ≡ true → data_of data_only found ≡ Some contents → test contents ≡ true
  data-all data_only each = data-passing test data_only (passing data_only each)
