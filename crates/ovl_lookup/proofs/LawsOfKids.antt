-- Laws of the names in a directory of the merged tree.
use Rattle.std.proofs.Common.{◌≡◌, ℕ, Bool, true, false, cond, Option, Some, None, List, [], ◌∷◌, refl, sym, ap, ◌∙◌, suc, ◌+◌, ◌*◌, ◌≤◌, length, ◌++◌, arith, append_assoc, length-append, zero, ◌<◌}
use Rattle.std.specs.Prelude.{◌||◌, ◌&&◌, not, filter}
use Rattle.std.specs.List.{list_all, cons_option, list_any, All}
use Rattle.std.specs.Ordering.{is_lt, ordering_reverse, ordering_then}
use Rattle.std.specs.Cmp.Lexicographic.{bytes_decides, nat_list_cmp_total}
use Rattle.std.proofs.lemmas.List.{append-nil}
use Rattle.std.proofs.lemmas.List.Folds.{list_all-append}
use Rattle.std.proofs.Math.Bool.{and-false}
use Rattle.std.specs.declared.cmp.Ordering.{Ordering}
use Rattle.std.specs.declared.cmp.Ordering.TheVariants.{Less, Equal, Greater}
use Rattle.std.specs.Map.{lookup}
use Rattle.std.proofs.lemmas.Cmp.{tied_itself}
use Rattle.ovl_names.specs.Names.{PathName, name_eq, name_cmp}
use Rattle.ovl_names.specs.Order.{ascends}
use Rattle.ovl_names.specs.Paths.{PathNames, child_path, path_cmp, path_eq, depth_limit}
use Rattle.ovl_names.proofs.LawsOfNameSets.{any-put, ascends-put}
use Rattle.ovl_names.proofs.Ascending.{both, ascends-filter, is_lt-Less}
use Rattle.ovl_inode.specs.declared.inodes.Inode.{Inode}
use Rattle.ovl_layer.specs.Layers.{Entry, Entries, entry_cmp, name_below, names_below, IsLayer, entry_at}
use Rattle.ovl_layer.proofs.SheetLemmas.{path_cmp-beside}
use Rattle.ovl_lookup.specs.declared.steps.Step.{Step}
use Rattle.ovl_lookup.specs.declared.looks.Look.{Look}
use Rattle.ovl_lookup.specs.declared.looks.Look.TheVariants.{Shown, Broken, Nothing}
use Rattle.ovl_lookup.specs.Walk.{turn, is_shut}
use Rattle.ovl_lookup.specs.Trace.{things_found}
use Rattle.ovl_lookup.specs.Merged.{is_nothing, AreKids, shows, IsMerged, look, look_at, look_cmp, shows_directory}
use Rattle.ovl_lookup.specs.Passes.{own_names_along, kids_along, looks_under, looks_placed, looks_from}
use Rattle.ovl_names.specs.NameSets.{put_names}
use Rattle.ovl_lookup.specs.Stacks.{StackView}
use Rattle.ovl_lookup.proofs.ListLemmas.{Looks, flat}
use Rattle.ovl_lookup.proofs.LawsOfPaths.{all-first}
use Rattle.ovl_lookup.proofs.LawsOfWalks.{walk-whole}
use Rattle.ovl_lookup.proofs.LawsOfFound.{any_found, child_found, found_of, starts-directory_found, starts_directory, things_found-step}
use Rattle.ovl_lookup.proofs.LawsOfLooks.{ShowsParents-holds, shows-found, shows-limited}

-- ---- the names directly below a path of a layer, in order

pub below-path : (directory path : PathNames) (name : PathName) → name_below directory path ≡ Some name → path ≡ child_path directory name
below-path [] [] name is = let bad : None ≡ Some name = is in cc
below-path [] (own ∷ []) name is = ap (λ (o : Option PathName). elim o as (λ _. PathNames) [ Some n ↦ n ∷ [] | None ↦ [] ]) is
below-path [] (own ∷ other ∷ names) name is = let bad : None ≡ Some name = is in cc
below-path (first ∷ directory) [] name is = let bad : None ≡ Some name = is in cc
below-path (first ∷ directory) (own ∷ names) name is = by (below-path directory names name) (name_eq first own) refl is
  where
    by : (name_below directory names ≡ Some name → names ≡ child_path directory name) → (b : Bool) → name_eq first own ≡ b → cond b (name_below directory names) None ≡ Some name → own ∷ names ≡ child_path (first ∷ directory) name
    by later true e is = (λ j. sym ((bytes_decides first own).0 e) j ∷ later is j)
    by later false e is = let bad : None ≡ Some name = is in cc

-- a name of a path that comes before these entries comes before theirs
names-after : (directory : PathNames) (entry : Entry) (name : PathName) → name_below directory entry.0 ≡ Some name → (layer : Entries) → list_all (λ later. is_lt (entry_cmp entry later)) layer ≡ true → list_all (λ later. is_lt (name_cmp name later)) (names_below layer directory) ≡ true
names-after directory entry name is [] before = refl
names-after directory entry name is (other ∷ layer) before = by (names-after directory entry name is layer parts.1) (name_below directory other.0) refl
  where
    parts : (is_lt (entry_cmp entry other) ≡ true) × (list_all (λ later. is_lt (entry_cmp entry later)) layer ≡ true)
    parts = both {a = is_lt (entry_cmp entry other)} {b = list_all (λ later. is_lt (entry_cmp entry later)) layer} before

    by : list_all (λ later. is_lt (name_cmp name later)) (names_below layer directory) ≡ true → (o : Option PathName) → name_below directory other.0 ≡ o → list_all (λ later. is_lt (name_cmp name later)) (cons_option o (names_below layer directory)) ≡ true
    by rest None e = rest
    by rest (Some later) e =
        let beside : is_lt (name_cmp name later) ≡ true =
        path_cmp-beside directory name later ((λ j. is_lt (path_cmp (sym (below-path directory entry.0 name is) j) (sym (below-path directory other.0 later e) j))) ∙ parts.0) in
        rw beside rest

pub kid-names-ascend : (layer : Entries) (directory : PathNames) → ascends entry_cmp layer ≡ true → ascends name_cmp (names_below layer directory) ≡ true
kid-names-ascend [] directory up = refl
kid-names-ascend (entry ∷ layer) directory up = by (kid-names-ascend layer directory parts.1) (name_below directory entry.0) refl
  where
    parts : (list_all (λ later. is_lt (entry_cmp entry later)) layer ≡ true) × (ascends entry_cmp layer ≡ true)
    parts = both {a = list_all (λ later. is_lt (entry_cmp entry later)) layer} {b = ascends entry_cmp layer} up

    by : ascends name_cmp (names_below layer directory) ≡ true → (o : Option PathName) → name_below directory entry.0 ≡ o → ascends name_cmp (cons_option o (names_below layer directory)) ≡ true
    by rest None e = rest
    by rest (Some name) e = rw (names-after directory entry name e layer parts.0) rest

-- the root of the first layer is found first
root-found : (layer : Entries) (layers : List Entries) → IsLayer layer → starts_directory (things_found (layer ∷ layers) []) ≡ true
root-found layer layers is =
    ap starts_directory (things_found-step layer layers [])
    ∙ (ap (λ (s : Step). starts_directory (found_of s (things_found layers))) (walk-whole layer [] is.rooted)
    ∙ starts-directory_found (entry_at layer []) (cond (is_shut layer []) [] (things_found layers (turn layer []))) is.rooted)

-- those that pass a test
pub any-filter : (q : PathName) (test : PathName → Bool) (names : List PathName) → list_any (name_eq q) (filter test names) ≡ (list_any (name_eq q) names && test q)
any-filter q test [] = refl
any-filter q test (name ∷ names) = by (any-filter q test names) (test name) refl (name_eq q name) refl
  where
    by : list_any (name_eq q) (filter test names) ≡ (list_any (name_eq q) names && test q) → (t : Bool) → test name ≡ t → (e : Bool) → name_eq q name ≡ e → list_any (name_eq q) (cond t (name ∷ filter test names) (filter test names)) ≡ ((name_eq q name || list_any (name_eq q) names) && test q)
    by later true t true e =
        let same : test q ≡ true = ap test ((bytes_decides q name).0 e) ∙ t in
        (λ j. e j || list_any (name_eq q) (filter test names)) ∙ sym (λ j. (e j || list_any (name_eq q) names) && same j)
    by later true t false e =
        (λ j. e j || later j) ∙ sym (λ j. (e j || list_any (name_eq q) names) && test q)
    by later false t true e =
        let same : test q ≡ false = ap test ((bytes_decides q name).0 e) ∙ t in
        later ∙ ((λ j. list_any (name_eq q) names && same j) ∙ (and-false (list_any (name_eq q) names) ∙ sym (λ j. (e j || list_any (name_eq q) names) && same j)))
    by later false t false e = later ∙ sym (λ j. (e j || list_any (name_eq q) names) && test q)

-- ---- the layers' own names along the walks, below which something is shown, are the directory's

pub kids-ascend : (stack : StackView) (path : PathNames) → ascends name_cmp (kids_along stack path) ≡ true
kids-ascend stack path = ascends-filter name_cmp (λ name. shows stack (child_path path name)) (put_names [] (own_names_along stack.layers path)) (ascends-put [] (own_names_along stack.layers path) refl)

pub kids-same : (stack : StackView) → All IsLayer stack.layers → (path : PathNames) (name : PathName) → list_any (name_eq name) (kids_along stack path) ≡ shows stack (child_path path name)
kids-same stack each path name =
    any-filter name (λ n. shows stack (child_path path n)) (put_names [] (own_names_along stack.layers path))
    ∙ (ap (λ b. b && shows stack (child_path path name)) (any-put name [] (own_names_along stack.layers path))
    ∙ by (shows stack (child_path path name)) refl)
  where
    by : (b : Bool) → shows stack (child_path path name) ≡ b → (list_any (name_eq name) (own_names_along stack.layers path) && b) ≡ b
    by true e = ap (λ b. b && true) (child_found stack.layers each path name (sym (shows-found stack (child_path path name)) ∙ e)).1
    by false e = and-false (list_any (name_eq name) (own_names_along stack.layers path))

pub are-kids : (stack : StackView) → All IsLayer stack.layers → (path : PathNames) (names : List PathName) → names ≡ kids_along stack path → AreKids stack path names
are-kids stack each path names is = record {
  in_order = ap (ascends name_cmp) is ∙ kids-ascend stack path;
  same = λ name. ap (list_any (name_eq name)) is ∙ kids-same stack each path name;
}

-- ---- what is at a path

abbrev or_else : Option Look → Option Look → Option Look
or_else None other = other
or_else (Some one) other = Some one

same_twice : {X : Type 0} (b : Bool) (x : X) → cond b x x ≡ x
same_twice true x = refl
same_twice false x = refl

lookup-under : (name own : PathName) (path : PathNames) (looks rest : Looks) → lookup (path_eq (name ∷ path)) (looks_under own looks ++ rest) ≡ cond (name_eq name own) (or_else (lookup (path_eq path) looks) (lookup (path_eq (name ∷ path)) rest)) (lookup (path_eq (name ∷ path)) rest)
lookup-under name own path [] rest = sym (same_twice (name_eq name own) (lookup (path_eq (name ∷ path)) rest))
lookup-under name own path (entry ∷ looks) rest =
    ap (λ (o : Option Look). cond (name_eq name own && path_eq path entry.0) (Some entry.1) o) (lookup-under name own path looks rest)
    ∙ by (name_eq name own) (path_eq path entry.0)
  where
    by : (b c : Bool) → cond (b && c) (Some entry.1) (cond b (or_else (lookup (path_eq path) looks) (lookup (path_eq (name ∷ path)) rest)) (lookup (path_eq (name ∷ path)) rest)) ≡ cond b (or_else (cond c (Some entry.1) (lookup (path_eq path) looks)) (lookup (path_eq (name ∷ path)) rest)) (lookup (path_eq (name ∷ path)) rest)
    by true true = refl
    by true false = refl
    by false c = refl

lookup-flat : (name : PathName) (path : PathNames) (names : List PathName) (of : PathName → Looks) → lookup (path_eq (name ∷ path)) (flat names of) ≡ cond (list_any (name_eq name) names) (lookup (path_eq path) (of name)) None
lookup-flat name path [] of = refl
lookup-flat name path (own ∷ names) of =
    lookup-under name own path (of own) (flat names of)
    ∙ by (lookup-flat name path names of) (name_eq name own) refl
  where
    once : (b : Bool) (found : Option Look) → or_else found (cond b found None) ≡ found
    once true None = refl
    once false None = refl
    once b (Some one) = refl

    by : lookup (path_eq (name ∷ path)) (flat names of) ≡ cond (list_any (name_eq name) names) (lookup (path_eq path) (of name)) None
        → (b : Bool) → name_eq name own ≡ b → cond b (or_else (lookup (path_eq path) (of own)) (lookup (path_eq (name ∷ path)) (flat names of))) (lookup (path_eq (name ∷ path)) (flat names of)) ≡ cond (b || list_any (name_eq name) names) (lookup (path_eq path) (of name)) None
    by later true e =
        let same : name ≡ own = (bytes_decides name own).0 e in
        (λ j. or_else (lookup (path_eq path) (of (sym same j))) (later j))
        ∙ once (list_any (name_eq name) names) (lookup (path_eq path) (of name))
    by later false e = later

-- ---- their order

name_cmp-same : (name : PathName) → name_cmp name name ≡ Equal
name_cmp-same name = by (name_cmp name name) (nat_list_cmp_total.antisymm name name)
  where
    by : (o : Ordering) → o ≡ ordering_reverse o → o ≡ Equal
    by Less e = cc
    by Equal e = refl
    by Greater e = cc

before-under : (name : PathName) (entry : PathNames × Look) (looks : Looks) → list_all (λ later. is_lt (look_cmp entry later)) looks ≡ true → list_all (λ later. is_lt (look_cmp (name ∷ entry.0, entry.1) later)) (looks_under name looks) ≡ true
before-under name entry [] all = refl
before-under name entry (later ∷ looks) all =
    let parts = both {a = is_lt (look_cmp entry later)} {b = list_all (λ l. is_lt (look_cmp entry l)) looks} all in
    (λ j. (ap (λ o. is_lt (ordering_then o (path_cmp entry.0 later.0))) (name_cmp-same name) ∙ parts.0) j && before-under name entry looks parts.1 j)

ascends-under : (name : PathName) (looks : Looks) → ascends look_cmp looks ≡ true → ascends look_cmp (looks_under name looks) ≡ true
ascends-under name [] up = refl
ascends-under name (entry ∷ looks) up =
    let parts = both {a = list_all (λ later. is_lt (look_cmp entry later)) looks} {b = ascends look_cmp looks} up in
    (λ j. before-under name entry looks parts.0 j && ascends-under name looks parts.1 j)

before-other : (name own : PathName) (path : PathNames) (shown : Look) (looks : Looks) → is_lt (name_cmp name own) ≡ true → list_all (λ later. is_lt (look_cmp (name ∷ path, shown) later)) (looks_under own looks) ≡ true
before-other name own path shown [] before = refl
before-other name own path shown (later ∷ looks) before =
    (λ j. ap (λ o. is_lt (ordering_then o (path_cmp path later.0))) (is_lt-Less (name_cmp name own) before) j && before-other name own path shown looks before j)

before-flat : (name : PathName) (path : PathNames) (shown : Look) (names : List PathName) (of : PathName → Looks) → list_all (λ later. is_lt (name_cmp name later)) names ≡ true → list_all (λ later. is_lt (look_cmp (name ∷ path, shown) later)) (flat names of) ≡ true
before-flat name path shown [] of all = refl
before-flat name path shown (own ∷ names) of all =
    let parts = both {a = is_lt (name_cmp name own)} {b = list_all (λ later. is_lt (name_cmp name later)) names} all in
    list_all-append (λ later. is_lt (look_cmp (name ∷ path, shown) later)) (looks_under own (of own)) (flat names of)
    ∙ (λ j. before-other name own path shown (of own) parts.0 j && before-flat name path shown names of parts.1 j)

ascends-append : (one other : Looks) → ascends look_cmp one ≡ true → ascends look_cmp other ≡ true → list_all (λ entry. list_all (λ later. is_lt (look_cmp entry later)) other) one ≡ true → ascends look_cmp (one ++ other) ≡ true
ascends-append [] other up after all = after
ascends-append (entry ∷ one) other up after all =
    let parts = both {a = list_all (λ later. is_lt (look_cmp entry later)) one} {b = ascends look_cmp one} up in
    let ends = both {a = list_all (λ later. is_lt (look_cmp entry later)) other} {b = list_all (λ e. list_all (λ later. is_lt (look_cmp e later)) other) one} all in
    (λ j. (list_all-append (λ later. is_lt (look_cmp entry later)) one other ∙ (λ k. parts.0 k && ends.0 k)) j && ascends-append one other parts.1 after ends.1 j)

all-before-flat : (own : PathName) (looks : Looks) (names : List PathName) (of : PathName → Looks) → list_all (λ later. is_lt (name_cmp own later)) names ≡ true → list_all (λ entry. list_all (λ later. is_lt (look_cmp entry later)) (flat names of)) (looks_under own looks) ≡ true
all-before-flat own [] names of all = refl
all-before-flat own (entry ∷ looks) names of all = (λ j. before-flat own entry.0 entry.1 names of all j && all-before-flat own looks names of all j)

ascends-flat : (names : List PathName) (of : PathName → Looks) → ascends name_cmp names ≡ true → ((name : PathName) → ascends look_cmp (of name) ≡ true) → ascends look_cmp (flat names of) ≡ true
ascends-flat [] of up each = refl
ascends-flat (own ∷ names) of up each =
    let parts = both {a = list_all (λ later. is_lt (name_cmp own later)) names} {b = ascends name_cmp names} up in
    ascends-append (looks_under own (of own)) (flat names of) (ascends-under own (of own) (each own)) (ascends-flat names of parts.1 each) (all-before-flat own (of own) names of parts.0)

root-under : (shown : Look) (own : PathName) (looks : Looks) → list_all (λ later. is_lt (look_cmp ([], shown) later)) (looks_under own looks) ≡ true
root-under shown own [] = refl
root-under shown own (entry ∷ looks) = root-under shown own looks

root-flat : (shown : Look) (names : List PathName) (of : PathName → Looks) → list_all (λ later. is_lt (look_cmp ([], shown) later)) (flat names of) ≡ true
root-flat shown [] of = refl
root-flat shown (own ∷ names) of =
    list_all-append (λ later. is_lt (look_cmp ([], shown) later)) (looks_under own (of own)) (flat names of)
    ∙ (λ j. root-under shown own (of own) j && root-flat shown names of j)

looks-ascend : (depth : ℕ) (stack : StackView) (path : PathNames) → ascends look_cmp (looks_from depth stack path) ≡ true
looks-ascend zero stack path = refl
looks-ascend (suc depth) stack path =
    (λ j. root-flat (look stack path) (kids_along stack path) (λ name. looks_from depth stack (child_path path name)) j
    && ascends-flat (kids_along stack path) (λ name. looks_from depth stack (child_path path name)) (kids-ascend stack path) (λ name. looks-ascend depth stack (child_path path name)) j)

-- ---- what is at each path under one

abbrev at_shown : Look → Option Look
at_shown Nothing = None
at_shown (Shown inode) = Some (Shown inode)
at_shown (Broken inode) = Some (Broken inode)

shown-some : (shown : Look) → not (is_nothing shown) ≡ true → Some shown ≡ at_shown shown
shown-some Nothing some = let bad : false ≡ true = some in cc
shown-some (Shown inode) some = refl
shown-some (Broken inode) some = refl

shown-none : (shown : Look) → not (is_nothing shown) ≡ false → None ≡ at_shown shown
shown-none Nothing none = refl
shown-none (Shown inode) none = let bad : true ≡ false = none in cc
shown-none (Broken inode) none = let bad : true ≡ false = none in cc

starts-any : (found : List Inode) → starts_directory found ≡ true → any_found found ≡ true
starts-any [] is = is
starts-any (inode ∷ found) is = refl

-- where something is shown, something is shown at the directory that holds it
shows-parent : (stack : StackView) → All IsLayer stack.layers → (path : PathNames) (name : PathName) → shows stack (child_path path name) ≡ true → shows stack path ≡ true
shows-parent stack each path name shown =
    shows-found stack path ∙ starts-any (things_found stack.layers path) (child_found stack.layers each path name (sym (shows-found stack (child_path path name)) ∙ shown)).0

shows-above : (stack : StackView) → All IsLayer stack.layers → (path rest : PathNames) → shows stack (path ++ rest) ≡ true → shows stack path ≡ true
shows-above stack each path [] shown = ap (shows stack) (sym (append-nil path)) ∙ shown
shows-above stack each path (name ∷ rest) shown =
    shows-parent stack each path name (shows-above stack each (child_path path name) rest (ap (shows stack) (append_assoc path (name ∷ []) rest) ∙ shown))

not-above : (stack : StackView) → All IsLayer stack.layers → (path rest : PathNames) → shows stack path ≡ false → shows stack (path ++ rest) ≡ false
not-above stack each path rest none = by (shows stack (path ++ rest)) refl
  where
    by : (b : Bool) → shows stack (path ++ rest) ≡ b → b ≡ false
    by true e = sym (shows-above stack each path rest e) ∙ none
    by false e = refl

looks-same : (depth : ℕ) (stack : StackView) → All IsLayer stack.layers → (path : PathNames) → shows stack path ≡ true → depth_limit * length stack.layers + 1 ≤ length path + depth → (rest : PathNames) → lookup (path_eq rest) (looks_from depth stack path) ≡ at_shown (look stack (path ++ rest))
looks-same zero stack each path shown deep rest =
    let limit : length path ≤ depth_limit * length stack.layers = shows-limited stack each path shown in absurd (omega (arith, limit))
looks-same (suc depth) stack each path shown deep [] =
    shown-some (look stack path) shown ∙ ap (λ (p : PathNames). at_shown (look stack p)) (sym (append-nil path))
looks-same (suc depth) stack each path shown deep (name ∷ rest) =
    lookup-flat name rest (kids_along stack path) (λ n. looks_from depth stack (child_path path n))
    ∙ (ap (λ b. cond b (lookup (path_eq rest) (looks_from depth stack (child_path path name))) None) (kids-same stack each path name)
    ∙ by (looks-same depth stack each (child_path path name)) (shows stack (child_path path name)) refl)
  where
    by : (shows stack (child_path path name) ≡ true → depth_limit * length stack.layers + 1 ≤ length (child_path path name) + depth → (rest : PathNames) → lookup (path_eq rest) (looks_from depth stack (child_path path name)) ≡ at_shown (look stack (child_path path name ++ rest)))
        → (b : Bool) → shows stack (child_path path name) ≡ b → cond b (lookup (path_eq rest) (looks_from depth stack (child_path path name))) None ≡ at_shown (look stack (path ++ name ∷ rest))
    by later true e =
        later e (omega (arith, length-append path (name ∷ []))) rest
        ∙ ap (λ (p : PathNames). at_shown (look stack p)) (append_assoc path (name ∷ []) rest)
    by later false e =
        shown-none (look stack (child_path path name ++ rest)) (not-above stack each (child_path path name) rest e)
        ∙ ap (λ (p : PathNames). at_shown (look stack p)) (append_assoc path (name ∷ []) rest)

-- the whole list, where the root is shown and the depth suffices
found_or_nothing : (shown : Look) → elim (at_shown shown) as (λ _. Look) [ Some found ↦ found | None ↦ Nothing ] ≡ shown
found_or_nothing Nothing = refl
found_or_nothing (Shown inode) = refl
found_or_nothing (Broken inode) = refl

never_nothing : (shown : Look) → at_shown shown ≡ Some Nothing → ⊥
never_nothing Nothing e = cc
never_nothing (Shown inode) e = cc
never_nothing (Broken inode) e = cc

placed-root : (looks : Looks) → looks_placed [] looks ≡ looks
placed-root [] = refl
placed-root (entry ∷ looks) = ap (λ (rest : Looks). entry ∷ rest) (placed-root looks)

pub is-merged : (stack : StackView) → All IsLayer stack.layers → shows stack [] ≡ true → (looks : Looks) → looks ≡ looks_placed [] (looks_from (depth_limit * length stack.layers + 1) stack []) → IsMerged stack looks
is-merged stack each root looks is =
    let whole : looks ≡ looks_from (depth_limit * length stack.layers + 1) stack [] = is ∙ placed-root (looks_from (depth_limit * length stack.layers + 1) stack []) in
    let same = looks-same (depth_limit * length stack.layers + 1) stack each [] root (omega arith) in
    record {
      in_order = ap (ascends look_cmp) whole ∙ looks-ascend (depth_limit * length stack.layers + 1) stack [];
      same = λ path. ap (λ (l : Looks). look_at l path) whole ∙ (ap (λ (o : Option Look). elim o as (λ _. Look) [ Some found ↦ found | None ↦ Nothing ]) (same path) ∙ found_or_nothing (look stack path));
      shown = λ path found. never_nothing (look stack path) (sym (same path) ∙ (ap (λ (l : Looks). lookup (path_eq path) l) (sym whole) ∙ found));
    }

-- ---- the list, name by name

-- a stack with a layer shows its root
pub shows-root : (stack : StackView) → All IsLayer stack.layers → 0 < length stack.layers → shows stack [] ≡ true
shows-root stack each some = shows-found stack [] ∙ starts-any (things_found stack.layers []) (by stack.layers each some)
  where
    by : (layers : List Entries) → All IsLayer layers → 0 < length layers → starts_directory (things_found layers []) ≡ true
    by [] each some = absurd (omega arith)
    by (layer ∷ layers) each some = root-found layer layers (all-first IsLayer layer layers each)

pub no-name : (names : List PathName) → ((name : PathName) → list_any (name_eq name) names ≡ true → ⊥) → names ≡ []
no-name [] none = refl
no-name (name ∷ names) none = absurd (none name (ap (λ b. b || list_any (name_eq name) names) ((bytes_decides name name).1 refl)))

not-later : (name : PathName) (names : List PathName) → list_all (λ later. is_lt (name_cmp name later)) names ≡ true → list_any (name_eq name) names ≡ false
not-later name [] all = refl
not-later name (other ∷ names) all = by (not-later name names) (name_eq name other) refl
  where
    parts : (is_lt (name_cmp name other) ≡ true) × (list_all (λ later. is_lt (name_cmp name later)) names ≡ true)
    parts = both {a = is_lt (name_cmp name other)} {b = list_all (λ later. is_lt (name_cmp name later)) names} all

    by : (list_all (λ later. is_lt (name_cmp name later)) names ≡ true → list_any (name_eq name) names ≡ false) → (b : Bool) → name_eq name other ≡ b → (name_eq name other || list_any (name_eq name) names) ≡ false
    by later true e =
        let same : name ≡ other = (bytes_decides name other).0 e in
        let bad : Less ≡ Equal = sym (is_lt-Less (name_cmp name other) parts.0) ∙ (ap (name_cmp name) (sym same) ∙ tied_itself nat_list_cmp_total name) in cc
    by later false e = ap (λ b. b || list_any (name_eq name) names) e ∙ later parts.1

is-later : (name first : PathName) (names : List PathName) → list_all (λ later. is_lt (name_cmp first later)) names ≡ true → list_any (name_eq name) names ≡ true → name_cmp first name ≡ Less
is-later name first [] all has = let bad : false ≡ true = has in cc
is-later name first (other ∷ names) all has = by (is-later name first names) (name_eq name other) refl
  where
    parts : (is_lt (name_cmp first other) ≡ true) × (list_all (λ later. is_lt (name_cmp first later)) names ≡ true)
    parts = both {a = is_lt (name_cmp first other)} {b = list_all (λ later. is_lt (name_cmp first later)) names} all

    by : (list_all (λ later. is_lt (name_cmp first later)) names ≡ true → list_any (name_eq name) names ≡ true → name_cmp first name ≡ Less) → (b : Bool) → name_eq name other ≡ b → name_cmp first name ≡ Less
    by later true e = ap (name_cmp first) ((bytes_decides name other).0 e) ∙ is_lt-Less (name_cmp first other) parts.0
    by later false e = later parts.1 (sym (ap (λ b. b || list_any (name_eq name) names) e) ∙ has)

not-both : (one other : PathName) → name_cmp one other ≡ Less → name_cmp other one ≡ Less → ⊥
not-both one other a b = let bad : Less ≡ Greater = sym a ∙ (nat_list_cmp_total.antisymm one other ∙ ap ordering_reverse b) in cc

same-first : (one other : PathName) (ones others : List PathName)
    → list_all (λ later. is_lt (name_cmp one later)) ones ≡ true → list_all (λ later. is_lt (name_cmp other later)) others ≡ true
    → ((name : PathName) → list_any (name_eq name) (one ∷ ones) ≡ list_any (name_eq name) (other ∷ others)) → one ≡ other
same-first one other ones others a b same = by (name_eq one other) refl (name_eq other one) refl
  where
    by : (r : Bool) → name_eq one other ≡ r → (s : Bool) → name_eq other one ≡ s → one ≡ other
    by true e s f = (bytes_decides one other).0 e
    by false e true f = sym ((bytes_decides other one).0 f)
    by false e false f =
        let here : list_any (name_eq one) others ≡ true = sym (ap (λ r. r || list_any (name_eq one) others) e) ∙ (sym (same one) ∙ ap (λ r. r || list_any (name_eq one) ones) ((bytes_decides one one).1 refl)) in
        let there : list_any (name_eq other) ones ≡ true = sym (ap (λ r. r || list_any (name_eq other) ones) f) ∙ (same other ∙ ap (λ r. r || list_any (name_eq other) others) ((bytes_decides other other).1 refl)) in
        absurd (not-both other one (is-later one other others b here) (is-later other one ones a there))

same-rest : (first : PathName) (ones others : List PathName)
    → list_all (λ later. is_lt (name_cmp first later)) ones ≡ true → list_all (λ later. is_lt (name_cmp first later)) others ≡ true
    → ((name : PathName) → list_any (name_eq name) (first ∷ ones) ≡ list_any (name_eq name) (first ∷ others)) → (name : PathName) → list_any (name_eq name) ones ≡ list_any (name_eq name) others
same-rest first ones others a b same name = by (name_eq name first) refl
  where
    by : (r : Bool) → name_eq name first ≡ r → list_any (name_eq name) ones ≡ list_any (name_eq name) others
    by true e =
        let is : name ≡ first = (bytes_decides name first).0 e in
        ap (λ n. list_any (name_eq n) ones) is ∙ (not-later first ones a ∙ (sym (not-later first others b) ∙ ap (λ n. list_any (name_eq n) others) (sym is)))
    by false e = sym (ap (λ r. r || list_any (name_eq name) ones) e) ∙ (same name ∙ ap (λ r. r || list_any (name_eq name) others) e)

pub same-names : (ones others : List PathName) → ascends name_cmp ones ≡ true → ascends name_cmp others ≡ true → ((name : PathName) → list_any (name_eq name) ones ≡ list_any (name_eq name) others) → ones ≡ others
same-names [] others up down same = sym (no-name others (λ name has. let bad : false ≡ true = same name ∙ has in cc))
same-names (one ∷ ones) [] up down same = no-name (one ∷ ones) (λ name has. let bad : true ≡ false = sym has ∙ same name in cc)
same-names (one ∷ ones) (other ∷ others) up down same =
    let a = both {a = list_all (λ later. is_lt (name_cmp one later)) ones} {b = ascends name_cmp ones} up in
    let b = both {a = list_all (λ later. is_lt (name_cmp other later)) others} {b = ascends name_cmp others} down in
    let first : one ≡ other = same-first one other ones others a.0 b.0 same in
    let before : list_all (λ later. is_lt (name_cmp other later)) ones ≡ true = ap (λ (n : PathName). list_all (λ later. is_lt (name_cmp n later)) ones) (sym first) ∙ a.0 in
    let rest : ones ≡ others = same-names ones others a.1 b.1 (same-rest other ones others before b.0
    (λ name. ap (λ (n : PathName). list_any (name_eq name) (n ∷ ones)) (sym first) ∙ same name)) in
    λ j. first j ∷ rest j

-- the names of a directory are the only ones that the merged tree has in it
pub kids-unique : (stack : StackView) → All IsLayer stack.layers → (path : PathNames) (names : List PathName) → AreKids stack path names → names ≡ kids_along stack path
kids-unique stack each path names are = same-names names (kids_along stack path) are.in_order (kids-ascend stack path) (λ name. are.same name ∙ sym (kids-same stack each path name))

-- where no directory is shown, nothing is shown in it
pub no-kids : (stack : StackView) → All IsLayer stack.layers → (path : PathNames) → shows_directory stack path ≡ false → AreKids stack path []
no-kids stack each path none = record { in_order = refl; same = λ name. by name (shows stack (child_path path name)) refl }
  where
    by : (name : PathName) (b : Bool) → shows stack (child_path path name) ≡ b → false ≡ shows stack (child_path path name)
    by name true e = let bad : true ≡ false = sym (ShowsParents-holds stack each path name e) ∙ none in cc
    by name false e = sym e

pub none-along : (stack : StackView) → All IsLayer stack.layers → (path : PathNames) → shows_directory stack path ≡ false → [] ≡ kids_along stack path
none-along stack each path none = kids-unique stack each path [] (no-kids stack each path none)
