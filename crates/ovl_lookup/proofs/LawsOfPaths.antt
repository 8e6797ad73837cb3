-- Laws of paths and of lists of entries.
use Rattle.std.proofs.Common.{◌≡◌, ℕ, Bool, true, false, cond, Some, None, List, [], ◌∷◌, refl, sym, ap, ◌∙◌, zero, suc, ◌≤◌, length, drop, Option, arith, ◌-◌, ◌++◌, take, subst, append_assoc, length-append, inl, inr, ◌⊎◌}
use Rattle.std.specs.Prelude.{not, filter, ◌&&◌, ◌||◌, reverse}
use Rattle.std.specs.Ordering.{is_lt, ordering_reverse}
use Rattle.std.specs.Cmp.Lexicographic.{bytes_decides, pointwise_decides}
use Rattle.std.specs.List.{list_all, list_any, All}
use Rattle.std.specs.Map.{lookup}
use Rattle.std.proofs.Math.Seq.{take-append_seam}
use Rattle.std.proofs.lemmas.List.{append-nil, take-append-drop, reverse-reverse}
use Rattle.ovl_names.specs.Names.{PathName}
use Rattle.ovl_names.specs.Paths.{PathNames, path_eq, child_path, parent_path, is_root, path_cmp}
use Rattle.ovl_names.proofs.Ascending.{both, is_lt-Less}
use Rattle.ovl_names.specs.Order.{ascends}
use Rattle.ovl_inode.specs.declared.inodes.Inode.{Inode}
use Rattle.ovl_layer.specs.Layers.{Entries, entry_at, Entry, entry_cmp}
use Rattle.ovl_layer.proofs.LayerLemmas.{path_cmp-same, path_order}
use Rattle.ovl_lookup.specs.Words.{is_at_or_under}
use Rattle.ovl_lookup.specs.PathRopes.{rope_eq}

-- what passes a test passes one that it implies, before or after
pub filter-filter : {X : Type 0} (one other : X → Bool) (xs : List X) → ((x : X) → one x ≡ true → other x ≡ true) → filter one (filter other xs) ≡ filter one xs
filter-filter one other [] imply = refl
filter-filter {X} one other (x ∷ xs) imply = by (filter-filter one other xs imply) (other x) refl (one x) refl
  where
    by : filter one (filter other xs) ≡ filter one xs → (b : Bool) → other x ≡ b → (a : Bool) → one x ≡ a → filter one (cond b (x ∷ filter other xs) (filter other xs)) ≡ cond a (x ∷ filter one xs) (filter one xs)
    by later true o a e = ap (λ c. cond c (x ∷ filter one (filter other xs)) (filter one (filter other xs))) e ∙ ap (λ (rest : List X). cond a (x ∷ rest) rest) later
    by later false o false e = later
    by later false o true e = let bad : false ≡ true = sym o ∙ imply x e in cc

-- past the last layer nothing is found
pub drop_past : {X : Type 0} (xs : List X) (i : ℕ) → length xs ≤ i → drop i xs ≡ []
drop_past [] zero past = refl
drop_past [] (suc i) past = refl
drop_past (x ∷ xs) zero past = absurd (omega arith)
drop_past (x ∷ xs) (suc i) past = drop_past xs i (omega arith)

-- what holds of each entry holds of the one that is found
pub lookup-all : (P : PathNames × Inode → Bool) (path : PathNames) (entries : Entries) (inode : Inode) → list_all P entries ≡ true → lookup (path_eq path) entries ≡ Some inode → P (path, inode) ≡ true
lookup-all P path [] inode all here = cc
lookup-all P path (entry ∷ entries) inode all here = by (lookup-all P path entries inode) (path_eq path entry.0) refl (P entry) refl all here
  where
    by : (list_all P entries ≡ true → lookup (path_eq path) entries ≡ Some inode → P (path, inode) ≡ true) → (b : Bool) → path_eq path entry.0 ≡ b → (c : Bool) → P entry ≡ c → (c && list_all P entries) ≡ true → cond b (Some entry.1) (lookup (path_eq path) entries) ≡ Some inode → P (path, inode) ≡ true
    by later b e false p all here = cc
    by later false e true p all here = later all here
    by later true e true p all here =
        let one : path ≡ entry.0 = (pointwise_decides bytes_decides path entry.0).0 e in
        let same : entry.1 ≡ inode = cc in
        ap P (λ i. (one i, sym same i)) ∙ p

pub length-child : (path : PathNames) (name : PathName) → is_root (child_path path name) ≡ false
length-child [] name = refl
length-child (first ∷ path) name = refl

pub parent_path-child : (path : PathNames) (name : PathName) → parent_path (child_path path name) ≡ path
parent_path-child path name =
    let len : length (path ++ name ∷ []) - 1 ≡ length path = omega (arith, length-append path (name ∷ [])) in
    ap (λ n. take n (path ++ name ∷ [])) len ∙ take-append_seam path (name ∷ [])

pub all-first : {X : Type 0} (P : X → Type 0) (x : X) (xs : List X) → All P (x ∷ xs) → P x
all-first P x xs all = all 0 x (omega arith)

pub all-rest : {X : Type 0} (P : X → Type 0) (x : X) (xs : List X) → All P (x ∷ xs) → All P xs
all-rest P x xs all = λ k d inside. all (suc k) d (omega arith)

-- ---- induction over a path by its last name

by_child_from : (P : PathNames → Type 0) → ((path : PathNames) (name : PathName) → P path → P (child_path path name)) → (front : PathNames) → P front → (rest : PathNames) → P (front ++ rest)
by_child_from P step front holds [] = subst P (sym (append-nil front)) holds
by_child_from P step front holds (name ∷ rest) = subst P (append_assoc front (name ∷ []) rest) (by_child_from P step (child_path front name) (step front name holds) rest)

pub by_child : (P : PathNames → Type 0) → P [] → ((path : PathNames) (name : PathName) → P path → P (child_path path name)) → (path : PathNames) → P path
by_child P root step path = by_child_from P step [] root path

-- ---- a path is the root, or has a last name

pub last-name : (path : PathNames) → (path ≡ []) ⊎ ((directory : PathNames) × (name : PathName) × (path ≡ child_path directory name))
last-name = by_child (λ path. (path ≡ []) ⊎ ((directory : PathNames) × (name : PathName) × (path ≡ child_path directory name))) (inl refl) (λ path name later. inr (path, name, refl))

-- ---- what lies at or under a path

pub under-append : (path more : PathNames) → is_at_or_under path (path ++ more) ≡ true
under-append path more = (pointwise_decides bytes_decides path (take (length path) (path ++ more))).1 (sym (take-append_seam path more))

pub under-parts : (path other : PathNames) → is_at_or_under path other ≡ true → path ++ drop (length path) other ≡ other
under-parts path other e =
    ap (λ (front : PathNames). front ++ drop (length path) other) ((pointwise_decides bytes_decides path (take (length path) other)).0 e)
    ∙ take-append-drop (length path) other

-- what lies under an entry of a directory lies under the directory
pub under-child : (path other : PathNames) (name : PathName) → is_at_or_under (child_path path name) other ≡ true → is_at_or_under path other ≡ true
under-child path other name e =
    let rest : PathNames = drop (length (child_path path name)) other in
    ap (is_at_or_under path) (sym (under-parts (child_path path name) other e) ∙ append_assoc path (name ∷ []) rest)
    ∙ under-append path (name ∷ rest)

-- ---- lists

pub all-imply : {X : Type 0} (one other : X → Bool) (xs : List X) → ((x : X) → one x ≡ true → other x ≡ true) → list_all one xs ≡ true → list_all other xs ≡ true
all-imply one other [] imply all = refl
all-imply one other (x ∷ xs) imply all =
    let parts = both {a = one x} {b = list_all one xs} all in
    (λ j. imply x parts.0 j && all-imply one other xs imply parts.1 j)

pub filter-all : {X : Type 0} (test : X → Bool) (xs : List X) → list_all test xs ≡ true → filter test xs ≡ xs
filter-all test [] all = refl
filter-all test (x ∷ xs) all =
    let parts = both {a = test x} {b = list_all test xs} all in
    ap (λ b. cond b (x ∷ filter test xs) (filter test xs)) parts.0 ∙ ap (λ rest. x ∷ rest) (filter-all test xs parts.1)

-- ---- an entry is what is found at its path

pub own-first : (entry : Entry) (layer : Entries) → entry_at (entry ∷ layer) entry.0 ≡ Some entry.1
own-first entry layer = ap (λ b. cond b (Some entry.1) (entry_at layer entry.0)) ((pointwise_decides bytes_decides entry.0 entry.0).1 refl)

pub own-later : (first : Entry) (layer : Entries) (path : PathNames) (inode : Inode) → list_all (λ later. is_lt (entry_cmp first later)) layer ≡ true → entry_at layer path ≡ Some inode → entry_at (first ∷ layer) path ≡ Some inode
own-later first layer path inode before here = by (path_eq path first.0) refl
  where
    by : (b : Bool) → path_eq path first.0 ≡ b → cond b (Some first.1) (entry_at layer path) ≡ Some inode
    by false e = here
    by true e =
        let same : path ≡ first.0 = (pointwise_decides bytes_decides path first.0).0 e in
        let less : is_lt (path_cmp first.0 path) ≡ true = lookup-all (λ later. is_lt (entry_cmp first later)) path layer inode before here in
        let bad : false ≡ true = sym (ap is_lt (path_cmp-same path)) ∙ (ap (λ (p : PathNames). is_lt (path_cmp p path)) same ∙ less) in cc

-- what holds of all that is found holds of all entries
pub all-entries : (test : Entry → Bool) (layer : Entries) → ascends entry_cmp layer ≡ true → ((path : PathNames) (inode : Inode) → entry_at layer path ≡ Some inode → test (path, inode) ≡ true) → list_all test layer ≡ true
all-entries test [] up each = refl
all-entries test (entry ∷ layer) up each =
    let parts = both {a = list_all (λ later. is_lt (entry_cmp entry later)) layer} {b = ascends entry_cmp layer} up in
    (λ j. each entry.0 entry.1 (own-first entry layer) j
    && all-entries test layer parts.1 (λ path inode here. each path inode (own-later entry layer path inode parts.0 here)) j)

-- what some entry has is what is found somewhere
pub some-entry : (test : Entry → Bool) (layer : Entries) → ascends entry_cmp layer ≡ true → list_any test layer ≡ true → (path : PathNames) × (inode : Inode) × (entry_at layer path ≡ Some inode) × (test (path, inode) ≡ true)
some-entry test [] up any = let bad : false ≡ true = any in cc
some-entry test (entry ∷ layer) up any = by (some-entry test layer parts.1) (test entry) refl any
  where
    parts : (list_all (λ later. is_lt (entry_cmp entry later)) layer ≡ true) × (ascends entry_cmp layer ≡ true)
    parts = both {a = list_all (λ later. is_lt (entry_cmp entry later)) layer} {b = ascends entry_cmp layer} up

    by : (list_any test layer ≡ true → (path : PathNames) × (inode : Inode) × (entry_at layer path ≡ Some inode) × (test (path, inode) ≡ true)) → (b : Bool) → test entry ≡ b → (b || list_any test layer) ≡ true → (path : PathNames) × (inode : Inode) × (entry_at (entry ∷ layer) path ≡ Some inode) × (test (path, inode) ≡ true)
    by later true e any = (entry.0, entry.1, own-first entry layer, e)
    by later false e any =
        let found = later any in
        (found.0, found.1, own-later entry layer found.0 found.1 parts.0 found.2, found.3)

pub any-entry : (test : Entry → Bool) (layer : Entries) (path : PathNames) (inode : Inode) → entry_at layer path ≡ Some inode → test (path, inode) ≡ true → list_any test layer ≡ true
any-entry test layer path inode here holds = by (list_any test layer) refl
  where
    none : (entries : Entries) → list_any test entries ≡ false → list_all (λ entry. not (test entry)) entries ≡ true
    none [] e = refl
    none (entry ∷ entries) e = split (none entries) (test entry) refl e
      where
        split : (list_any test entries ≡ false → list_all (λ other. not (test other)) entries ≡ true) → (b : Bool) → test entry ≡ b → (b || list_any test entries) ≡ false → list_all (λ other. not (test other)) (entry ∷ entries) ≡ true
        split later true t e = let bad : true ≡ false = e in cc
        split later false t e = (λ j. not (t j) && later e j)

    by : (b : Bool) → list_any test layer ≡ b → b ≡ true
    by true e = refl
    by false e =
        let not_here : not (test (path, inode)) ≡ true = lookup-all (λ entry. not (test entry)) path layer inode (none layer e) here in
        let bad : false ≡ true = ap not (sym holds) ∙ not_here in cc

-- two paths of which each is found where the other is first are one
first-least : (first : Entry) (layer : Entries) (path : PathNames) (inode : Inode) → list_all (λ later. is_lt (entry_cmp first later)) layer ≡ true → entry_at (first ∷ layer) path ≡ Some inode → (path_eq path first.0 ≡ true) ⊎ (is_lt (path_cmp first.0 path) ≡ true)
first-least first layer path inode before here = by (path_eq path first.0) refl here
  where
    by : (b : Bool) → path_eq path first.0 ≡ b → cond b (Some first.1) (entry_at layer path) ≡ Some inode → (path_eq path first.0 ≡ true) ⊎ (is_lt (path_cmp first.0 path) ≡ true)
    by true e h = inl e
    by false e h = inr (lookup-all (λ later. is_lt (entry_cmp first later)) path layer inode before h)

-- an entry is before none of those that come after it
not_both : (one other : PathNames) → is_lt (path_cmp one other) ≡ true → is_lt (path_cmp other one) ≡ true → false ≡ true
not_both one other before after =
    sym (ap is_lt (path_order.antisymm other one ∙ ap ordering_reverse (is_lt-Less (path_cmp one other) before))) ∙ after

pub entries-unique : (one other : Entries) → ascends entry_cmp one ≡ true → ascends entry_cmp other ≡ true → ((path : PathNames) → entry_at one path ≡ entry_at other path) → one ≡ other
entries-unique [] [] up above same = refl
entries-unique [] (entry ∷ other) up above same = let bad : None ≡ Some entry.1 = same entry.0 ∙ own-first entry other in cc
entries-unique (entry ∷ one) [] up above same = let bad : Some entry.1 ≡ None = sym (own-first entry one) ∙ same entry.0 in cc
entries-unique (entry ∷ one) (first ∷ other) up above same =
    by (first-least first other entry.0 entry.1 uppers.0 (sym (same entry.0) ∙ own-first entry one)) (first-least entry one first.0 first.1 parts.0 (same first.0 ∙ own-first first other)) (entries-unique one other parts.1 uppers.1)
  where
    parts : (list_all (λ later. is_lt (entry_cmp entry later)) one ≡ true) × (ascends entry_cmp one ≡ true)
    parts = both {a = list_all (λ later. is_lt (entry_cmp entry later)) one} {b = ascends entry_cmp one} up

    uppers : (list_all (λ later. is_lt (entry_cmp first later)) other ≡ true) × (ascends entry_cmp other ≡ true)
    uppers = both {a = list_all (λ later. is_lt (entry_cmp first later)) other} {b = ascends entry_cmp other} above

    whole : entry.0 ≡ first.0 → (((path : PathNames) → entry_at one path ≡ entry_at other path) → one ≡ other) → entry ∷ one ≡ first ∷ other
    whole path later = (λ j. (path j, inode j) ∷ later rest j)
      where
        inode : entry.1 ≡ first.1
        inode =
            let found : Some entry.1 ≡ Some first.1 = sym (own-first entry one) ∙ (same entry.0 ∙ (ap (entry_at (first ∷ other)) path ∙ own-first first other)) in
            cc

        -- what comes later is found at no path of the first
        rest : (p : PathNames) → entry_at one p ≡ entry_at other p
        rest p = split (path_eq p entry.0) refl
          where
            absent : (head : Entry) (tail : Entries) → head.0 ≡ p → list_all (λ later. is_lt (entry_cmp head later)) tail ≡ true → entry_at tail p ≡ None
            absent head tail e before = none (entry_at tail p) refl
              where
                none : (found : Option Inode) → entry_at tail p ≡ found → entry_at tail p ≡ None
                none None f = f
                none (Some i) f =
                    let less : is_lt (path_cmp head.0 p) ≡ true = lookup-all (λ later. is_lt (entry_cmp head later)) p tail i before f in
                    let bad : false ≡ true = sym (ap is_lt (path_cmp-same p)) ∙ (ap (λ (q : PathNames). is_lt (path_cmp q p)) (sym e) ∙ less) in cc

            split : (b : Bool) → path_eq p entry.0 ≡ b → entry_at one p ≡ entry_at other p
            split true e =
                let here : entry.0 ≡ p = sym ((pointwise_decides bytes_decides p entry.0).0 e) in
                absent entry one here parts.0 ∙ sym (absent first other (sym path ∙ here) uppers.0)
            split false e =
                let other_end : path_eq p first.0 ≡ false = ap (path_eq p) (sym path) ∙ e in
                sym (ap (λ b. cond b (Some entry.1) (entry_at one p)) e) ∙ (same p ∙ ap (λ b. cond b (Some first.1) (entry_at other p)) other_end)

    by : (path_eq entry.0 first.0 ≡ true) ⊎ (is_lt (path_cmp first.0 entry.0) ≡ true) → (path_eq first.0 entry.0 ≡ true) ⊎ (is_lt (path_cmp entry.0 first.0) ≡ true)
        → (((path : PathNames) → entry_at one path ≡ entry_at other path) → one ≡ other) → entry ∷ one ≡ first ∷ other
    by (inl e) _ later = whole ((pointwise_decides bytes_decides entry.0 first.0).0 e) later
    by (inr e) (inl f) later = whole (sym ((pointwise_decides bytes_decides first.0 entry.0).0 f)) later
    by (inr e) (inr f) later = let bad : false ≡ true = not_both first.0 entry.0 e f in cc

-- ropes are equal exactly if their paths are
pub rope_eq-path : (one other : PathNames) → rope_eq one other ≡ path_eq one other
rope_eq-path one other = by (rope_eq one other) refl (path_eq one other) refl
  where
    by : (b : Bool) → rope_eq one other ≡ b → (c : Bool) → path_eq one other ≡ c → b ≡ c
    by true e true f = refl
    by false e false f = refl
    by true e false f =
        let ends : reverse one ≡ reverse other = (pointwise_decides bytes_decides (reverse one) (reverse other)).0 e in
        let same : one ≡ other = sym (reverse-reverse one) ∙ (ap reverse ends ∙ reverse-reverse other) in
        let bad : false ≡ true = sym f ∙ (pointwise_decides bytes_decides one other).1 same in cc
    by false e true f =
        let ends : reverse one ≡ reverse other = ap reverse ((pointwise_decides bytes_decides one other).0 f) in
        let bad : false ≡ true = sym e ∙ (pointwise_decides bytes_decides (reverse one) (reverse other)).1 ends in cc
