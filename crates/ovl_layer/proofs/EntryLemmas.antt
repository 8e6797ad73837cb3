-- Entries that a manifest can state, and the limits of their paths.
use Rattle.std.proofs.Common.{◌≡◌, ℕ, suc, ◌+◌, ◌*◌, ◌++◌, ◌<◌, ◌≤◌, ◌⊎◌, ◌∙◌, subst, Ok, List, [], ◌∷◌, Bool, true, false, Option, Some, None, refl, sym, ap, length, length-append, length-take, map, take, arith, le-leb}
use Rattle.std.specs.Prelude.{◌==◌, ◌&&◌, ◌↔◌, not, Result, Err, IfSome, IsTrue, nat_le, nat_lt, is_none, if◌then◌else◌}
use Rattle.std.specs.Result.{result_err}
use Rattle.std.specs.List.{starts_with}
use Rattle.std.specs.Cmp.Lexicographic.{bytes_decides, pointwise_decides}
use Rattle.std.proofs.lemmas.Bool.Decides.{nat_tests}
use Rattle.std.proofs.lemmas.List.{length-map}
use Rattle.ovl_names.specs.Names.{name_fault, is_name, name_eq, slash, name_limit}
use Rattle.ovl_names.specs.declared.names.NameFault.TheVariants.{Empty, TooLong}
use Rattle.ovl_names.specs.Paths.{PathNames, parent_path, is_root, has_names, depth_limit, text_limit}
use Rattle.ovl_names.proofs.Ascending.{both}
use Rattle.ovl_inode.specs.Attributes.{has_escaped_name}
use Rattle.ovl_inode.specs.Marks.{is_directory}
use Rattle.ovl_layer.specs.Layers.{Entry, Entries, is_directory_at, is_within_limits, entry_limit}
use Rattle.ovl_layer.specs.TextPaths.{slashed}
use Rattle.ovl_layer.specs.Entries.{is_statable, stated_pair, comes_after, fault_after, entry_fault, entry_after, entries_after, is_miscounted, layer_of_entries, layer_of_pairs, first_fault, is_of_first, IsFaultOf}
use Rattle.ovl_layer.specs.declared.faults.LayerFault.{LayerFault}
use Rattle.ovl_layer.specs.declared.faults.LayerFault.TheVariants.{NotJson, Shape, Version as WrongVersion, Count, Entry as WrongEntry, Order, NoParent, Root, Escaped, Memory}

-- ---- one more entry

-- it is taken where it has no fault
pub entry-taken : (first : Entry) (before : Entries) (entry : Entry) → has_escaped_name entry.1.attrs ≡ false → comes_after (first ∷ before) entry.0 ≡ true → is_directory_at (first ∷ before) (parent_path entry.0) ≡ true → entry_after (first ∷ before) (Some entry) ≡ Ok ((first ∷ before) ++ entry ∷ [])
entry-taken first before entry unescaped after parent = rw (none, entry_after) refl
  where
    others : Entries
    others = first ∷ before

    none : entry_fault others entry ≡ None
    none =
        ap (λ b. if b then Some (Escaped (length others)) else fault_after others entry) unescaped
        ∙ (ap (λ b. if not b then Some (Order (length others)) else if not (is_directory_at others (parent_path entry.0)) then Some (NoParent (length others)) else None) after
        ∙ ap (λ b. if not b then Some (NoParent (length others)) else None) parent)

pub one_more : (before : Entries) (one : Option Entry) (entries : Entries) → entry_after before one ≡ Ok entries → length entries ≡ length before + 1
one_more before None entries is = let bad : Err (WrongEntry (length before)) ≡ Ok entries = is in cc
one_more before (Some entry) entries is = by (entry_fault before entry) refl
  where
    by : (o : Option LayerFault) → entry_fault before entry ≡ o → length entries ≡ length before + 1
    by None e = let made : Ok (before ++ entry ∷ []) ≡ Ok entries = rw (e, entry_after) at is in let same : before ++ entry ∷ [] ≡ entries = cc in ap length (sym same) ∙ length-append before (entry ∷ [])
    by (Some fault) e = let bad : Err fault ≡ Ok entries = rw (e, entry_after) at is in cc

-- the fault that is stated is given
pub is_told : (stated : Result Entries LayerFault) (fault : LayerFault) → stated ≡ Err fault → IsFaultOf stated fault
is_told stated NotJson is = is
is_told stated Shape is = is
is_told stated WrongVersion is = is
is_told stated Count is = is
is_told stated (WrongEntry n) is = is
is_told stated (Order n) is = is
is_told stated (NoParent n) is = is
is_told stated Root is = is
is_told stated (Escaped n) is = is
is_told stated Memory is = tt

-- ---- how many entries there are

pub counted : (stated : List (Option Entry)) → 1 ≤ length stated → length stated ≤ entry_limit → layer_of_entries stated ≡ entries_after [] stated
counted stated some limit = rw (none, most) refl
  where
    none : (length stated == 0) ≡ false
    none = grind (arith, nat_tests)

    most : nat_lt entry_limit (length stated) ≡ false
    most = grind (arith, nat_tests)

pub miscounted : (stated : List (Option Entry)) → (length stated ≡ 0) ⊎ (entry_limit < length stated) → layer_of_entries stated ≡ Err Count
miscounted stated count = by (length stated == 0) refl
  where
    by : (b : Bool) → (length stated == 0) ≡ b → layer_of_entries stated ≡ Err Count
    by true e = rw e refl
    by false e = rw (e, past) refl
      where
        past : nat_lt entry_limit (length stated) ≡ true
        past = grind (arith, nat_tests, count)

-- ---- the text of a path, name by name

pub name_length : (name : List ℕ) → is_name name ≡ true → length name ≤ name_limit
name_length name is = by (nat_lt name_limit (length name)) refl
  where
    none : is_none (name_fault name) ≡ true
    none = (both is).0

    never : (empty : Bool) → is_none (if empty then Some Empty else Some TooLong) ≡ true → length name ≤ name_limit
    never true none = let bad : false ≡ true = none in cc
    never false none = let bad : false ≡ true = none in cc

    by : (b : Bool) → nat_lt name_limit (length name) ≡ b → length name ≤ name_limit
    by true e = never (length name == 0) (rw e at none)
    by false e = grind (arith, nat_tests)

pub limits : (path : PathNames) → length path ≤ depth_limit → nat_le (length (slashed path)) text_limit ≡ is_within_limits path
limits [] shallow = refl
limits (name ∷ path) shallow = rw (le-leb (length (name ∷ path)) depth_limit shallow) refl

-- each name takes at most 256 bytes
pub slashed-short : (path : PathNames) → has_names path ≡ true → length (slashed path) ≤ 256 * length path
slashed-short [] named = omega arith
slashed-short (name ∷ names) named =
    let parts = both {a = is_name name} {b = has_names names} named in
    omega (arith, name_length name parts.0, slashed-short names parts.1, length-append (slash ∷ name) (slashed names))

-- so that a short path keeps the limits
pub short-limits : (path : PathNames) → has_names path ≡ true → length path ≤ 15 → is_within_limits path ≡ true
short-limits path named short =
    let bytes : length (slashed path) ≤ text_limit = omega (arith, slashed-short path named, short) in
    sym (limits path (omega (arith, short))) ∙ le-leb (length (slashed path)) text_limit bytes

-- ---- an entry of a directory on the way to the last

pub on_way : (last directory : PathNames) → starts_with name_eq last directory ≡ true → (take (length directory) last ≡ directory) × (length directory ≤ length last)
on_way last directory begins =
    let same : directory ≡ take (length directory) last = (pointwise_decides bytes_decides directory (take (length directory) last)).0 begins in
    (sym same, omega (arith, ap length same, length-take (length directory) last))

-- ---- pairs, one after another

pub stated_pair_statable : (pair : Entry) (entry : Option Entry) → entry ≡ stated_pair pair → IfSome entry (λ e. IsTrue (is_statable e))
stated_pair_statable pair entry is = subst (λ (o : Option Entry). IfSome o (λ e. IsTrue (is_statable e))) (sym is) (by (is_statable pair) refl)
  where
    by : (b : Bool) → is_statable pair ≡ b → IfSome (stated_pair pair) (λ e. IsTrue (is_statable e))
    by true e = rw (e, stated_pair) e
    by false e = rw (e, stated_pair) tt

-- where the first pair is taken, it has no fault
pub none_first : (pairs more : Entries) (pair : Entry) (entries : Entries) → pairs ≡ pair ∷ more → entry_after [] (stated_pair pair) ≡ Ok entries → first_fault pairs ≡ None
none_first pairs more pair entries is taken = ap first_fault is ∙ by (is_miscounted (length (pair ∷ more)))
  where
    by : (b : Bool) → (if b then None else result_err (entry_after [] (stated_pair pair))) ≡ None
    by true = refl
    by false = ap result_err taken

pub well_counted : (pairs more : Entries) (pair : Entry) → pairs ≡ pair ∷ more → length pairs ≤ entry_limit → is_miscounted (length pairs) ≡ false
well_counted pairs more pair is limit = rw (none, most) refl
  where
    some : 1 ≤ length pairs
    some = omega (arith, ap length is)

    none : (length pairs == 0) ≡ false
    none = grind (arith, nat_tests)

    most : nat_lt entry_limit (length pairs) ≡ false
    most = grind (arith, nat_tests)

-- where it isn't taken, its fault is one of a first entry, and is given
fails_first : (one : Option Entry) (fault : LayerFault) → entry_after [] one ≡ Err fault → is_of_first fault ≡ true
fails_first None fault is = let same : WrongEntry 0 ≡ fault = cc in ap is_of_first (sym same)
fails_first (Some entry) fault is = by (has_escaped_name entry.1.attrs) (is_root entry.0 && is_directory entry.1) is
  where
    by : (escaped rooted : Bool) → ◌≡◌ {A = Result Entries LayerFault} (elim (if escaped then Some (Escaped 0) else if rooted then None else Some Root) [ Some f ↦ Err f | None ↦ Ok (entry ∷ []) ]) (Err fault) → is_of_first fault ≡ true
    by true rooted told = let same : Escaped 0 ≡ fault = cc in ap is_of_first (sym same)
    by false true told = let bad : Ok (entry ∷ []) ≡ Err fault = told in cc
    by false false told = let same : Root ≡ fault = cc in ap is_of_first (sym same)

pub first_refused : {T : Type 0} (result : Result T LayerFault) (pairs more : Entries) (pair : Entry) (fault : LayerFault) → pairs ≡ pair ∷ more → length pairs ≤ entry_limit → entry_after [] (stated_pair pair) ≡ Err fault → result ≡ Err fault → (told : LayerFault) → (first_fault pairs ≡ Some told) ↔ ((result ≡ Err told) × IsTrue (is_of_first told))
first_refused result pairs more pair fault is limit fails err told = (
  λ own. let same : Some fault ≡ Some told = sym first ∙ own in let one : fault ≡ told = cc in (err ∙ ap Err one, ap is_of_first (sym one) ∙ fails_first (stated_pair pair) fault fails),
  λ both. let same : Err fault ≡ Err told = sym err ∙ both.0 in let one : fault ≡ told = cc in first ∙ ap Some one,
)
  where
    first : first_fault pairs ≡ Some fault
    first =
        ap first_fault is
        ∙ (ap (λ b. if b then None else result_err (entry_after [] (stated_pair pair))) (ap (λ (ps : Entries). is_miscounted (length ps)) (sym is) ∙ well_counted pairs more pair is limit)
        ∙ ap result_err fails)

pub layer_refused : (pairs more : Entries) (pair : Entry) (fault : LayerFault) → pairs ≡ pair ∷ more → length pairs ≤ entry_limit → entry_after [] (stated_pair pair) ≡ Err fault → IsFaultOf (layer_of_pairs pairs) fault
layer_refused pairs more pair fault is limit fails = is_told (layer_of_pairs pairs) fault (ap layer_of_pairs is ∙ (counted (map stated_pair (pair ∷ more)) (omega arith) (omega (arith, length-map more stated_pair, ap length is)) ∙ rw (fails, entries_after) refl))

-- a fault that can come after the first entry
abbrev pub is_later : LayerFault → Bool
is_later Count = false
is_later fault = not (is_of_first fault)

after_first : (n : ℕ) → not (suc n == 0) ≡ true
after_first n = ap not none
  where
    none : (suc n == 0) ≡ false
    none = grind (arith, nat_tests)

-- so an entry after others has such a fault
fails_later : (first : Entry) (before : Entries) (one : Option Entry) (fault : LayerFault) → entry_after (first ∷ before) one ≡ Err fault → is_later fault ≡ true
fails_later first before None fault is = let same : WrongEntry (length (first ∷ before)) ≡ fault = cc in ap is_later (sym same) ∙ after_first (length before)
fails_later first before (Some entry) fault is = by (has_escaped_name entry.1.attrs) (comes_after others entry.0) (is_directory_at others (parent_path entry.0)) is
  where
    others : Entries
    others = first ∷ before

    by : (escaped after parent : Bool) → ◌≡◌ {A = Result Entries LayerFault} (elim (if escaped then Some (Escaped (length others)) else if not after then Some (Order (length others)) else if not parent then Some (NoParent (length others)) else None) [ Some f ↦ Err f | None ↦ Ok (others ++ entry ∷ []) ]) (Err fault) → is_later fault ≡ true
    by true after parent told = let same : Escaped (length others) ≡ fault = cc in ap is_later (sym same) ∙ after_first (length before)
    by false false parent told = let same : Order (length others) ≡ fault = cc in ap is_later (sym same)
    by false true false told = let same : NoParent (length others) ≡ fault = cc in ap is_later (sym same)
    by false true true told = let bad : Ok (others ++ entry ∷ []) ≡ Err fault = told in cc

pub told_later : (first : Entry) (before : Entries) (one : Option Entry) (fault : LayerFault) → IsFaultOf (entry_after (first ∷ before) one) fault → is_later fault ≡ true
told_later first before one Count is = fails_later first before one Count is
told_later first before one (WrongEntry n) is = fails_later first before one (WrongEntry n) is
told_later first before one (Escaped n) is = fails_later first before one (Escaped n) is
told_later first before one Root is = fails_later first before one Root is
told_later first before one NotJson is = refl
told_later first before one Shape is = refl
told_later first before one WrongVersion is = refl
told_later first before one (Order n) is = refl
told_later first before one (NoParent n) is = refl
told_later first before one Memory is = refl

-- what a result states that has no fault of its count or of its first entry
module _ {T : Type 0} (result : Result T LayerFault) (pairs : Entries) (later : (fault : LayerFault) → result ≡ Err fault → is_later fault ≡ true) where
  pub count_later : is_miscounted (length pairs) ≡ false → (result ≡ Err Count) ↔ IsTrue (is_miscounted (length pairs))
  count_later few = (λ is. let bad : false ≡ true = later Count is in cc, λ many. let bad : false ≡ true = sym few ∙ many in cc)

  pub first_later : first_fault pairs ≡ None → (fault : LayerFault) → (first_fault pairs ≡ Some fault) ↔ ((result ≡ Err fault) × IsTrue (is_of_first fault))
  first_later none fault = (λ is. let bad : None ≡ Some fault = sym none ∙ is in cc, λ told. let bad : false ≡ true = not_both fault (later fault told.0) told.1 in cc)
    where
      not_both : (fault : LayerFault) → is_later fault ≡ true → is_of_first fault ≡ true → false ≡ true
      not_both Count after of = after
      not_both (WrongEntry n) after of = sym (ap not of) ∙ after
      not_both (Escaped n) after of = sym (ap not of) ∙ after
      not_both Root after of = after
      not_both NotJson after of = of
      not_both Shape after of = of
      not_both WrongVersion after of = of
      not_both (Order n) after of = of
      not_both (NoParent n) after of = of
      not_both Memory after of = of

pub one_taken : (before : Entries) (one : Option Entry) (more : List (Option Entry)) (entries : Entries) → entry_after before one ≡ Ok entries → entries_after before (one ∷ more) ≡ entries_after entries more
one_taken before one more entries is = rw (is, entries_after) refl
