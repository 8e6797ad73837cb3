-- Laws of sets of names.
use Rattle.std.proofs.Common.{◌≡◌, Bool, true, false, List, [], ◌∷◌, ◌++◌, refl, sym, ap, ◌∙◌}
use Rattle.std.specs.Prelude.{◌||◌, ◌&&◌}
use Rattle.std.specs.BTreeSet.{insert_key}
use Rattle.std.specs.List.{list_all, list_any}
use Rattle.std.specs.Ordering.{is_eq, is_lt, ordering_reverse, match_ordering}
use Rattle.std.specs.Cmp.Lexicographic.{bytes_decides, nat_list_cmp_total}
use Rattle.std.specs.declared.cmp.Ordering.{Ordering}
use Rattle.std.specs.declared.cmp.Ordering.TheVariants.{Less, Equal, Greater}
use Rattle.std.proofs.Math.Bool.{or-false}
use Rattle.std.proofs.lemmas.Map.Text.{is_eq-slice_cmp}
use Rattle.ovl_names.specs.Names.{PathName, name_eq, name_cmp}
use Rattle.ovl_names.specs.NameSets.{put_names}
use Rattle.ovl_names.specs.Order.{ascends}
use Rattle.ovl_names.proofs.Ascending.{both, list_all-before}

-- names put one after another
pub put_names-append : (names one other : List PathName) → put_names names (one ++ other) ≡ put_names (put_names names one) other
put_names-append names [] other = refl
put_names-append names (name ∷ one) other = put_names-append (insert_key name_cmp names name) one other

-- ---- a name put among ascending ones

first-insert : (x name : PathName) (names : List PathName) → is_lt (name_cmp x name) ≡ true → list_all (λ later. is_lt (name_cmp x later)) names ≡ true → list_all (λ later. is_lt (name_cmp x later)) (insert_key name_cmp names name) ≡ true
first-insert x name [] before all = ap (λ b. b && true) before
first-insert x name (first ∷ names) before all = by (first-insert x name names before) (name_cmp name first)
  where
    parts : (is_lt (name_cmp x first) ≡ true) × (list_all (λ later. is_lt (name_cmp x later)) names ≡ true)
    parts = both {a = is_lt (name_cmp x first)} {b = list_all (λ later. is_lt (name_cmp x later)) names} all

    by : (list_all (λ later. is_lt (name_cmp x later)) names ≡ true → list_all (λ later. is_lt (name_cmp x later)) (insert_key name_cmp names name) ≡ true) → (o : Ordering) → list_all (λ later. is_lt (name_cmp x later)) (match_ordering o (name ∷ first ∷ names) (first ∷ names) (first ∷ insert_key name_cmp names name)) ≡ true
    by later Less = (λ j. before j && all j)
    by later Equal = all
    by later Greater = (λ j. parts.0 j && later parts.1 j)

pub ascends-insert : (name : PathName) (names : List PathName) → ascends name_cmp names ≡ true → ascends name_cmp (insert_key name_cmp names name) ≡ true
ascends-insert name [] up = refl
ascends-insert name (first ∷ names) up = by (ascends-insert name names) (name_cmp name first) refl
  where
    parts : (list_all (λ later. is_lt (name_cmp first later)) names ≡ true) × (ascends name_cmp names ≡ true)
    parts = both {a = list_all (λ later. is_lt (name_cmp first later)) names} {b = ascends name_cmp names} up

    by : (ascends name_cmp names ≡ true → ascends name_cmp (insert_key name_cmp names name) ≡ true) → (o : Ordering) → name_cmp name first ≡ o → ascends name_cmp (match_ordering o (name ∷ first ∷ names) (first ∷ names) (first ∷ insert_key name_cmp names name)) ≡ true
    by later Less e =
        let before : is_lt (name_cmp name first) ≡ true = ap is_lt e in
        let rest = list_all-before nat_list_cmp_total name first names before parts.0 in
        (λ j. (before j && rest j) && up j)
    by later Equal e = up
    by later Greater e =
        let before : is_lt (name_cmp first name) ≡ true = ap is_lt (nat_list_cmp_total.antisymm first name ∙ ap ordering_reverse e) in
        (λ j. first-insert first name names before parts.0 j && later parts.1 j)

pub ascends-put : (names more : List PathName) → ascends name_cmp names ≡ true → ascends name_cmp (put_names names more) ≡ true
ascends-put names [] up = up
ascends-put names (name ∷ more) up = ascends-put (insert_key name_cmp names name) more (ascends-insert name names up)

-- which names are there then
swap : (a b c : Bool) → (a || (b || c)) ≡ (b || (a || c))
swap true true c = refl
swap true false c = refl
swap false b c = refl

or_same : (a b : Bool) → (a || (a || b)) ≡ (a || b)
or_same true b = refl
or_same false b = refl

turn_about : (a b c : Bool) → ((a || b) || c) ≡ (b || (a || c))
turn_about true true c = refl
turn_about true false c = refl
turn_about false true c = refl
turn_about false false c = refl

pub any-insert : (q name : PathName) (names : List PathName) → list_any (name_eq q) (insert_key name_cmp names name) ≡ (name_eq q name || list_any (name_eq q) names)
any-insert q name [] = refl
any-insert q name (first ∷ names) = by (any-insert q name names) (name_cmp name first) refl
  where
    by : list_any (name_eq q) (insert_key name_cmp names name) ≡ (name_eq q name || list_any (name_eq q) names) → (o : Ordering) → name_cmp name first ≡ o → list_any (name_eq q) (match_ordering o (name ∷ first ∷ names) (first ∷ names) (first ∷ insert_key name_cmp names name)) ≡ (name_eq q name || (name_eq q first || list_any (name_eq q) names))
    by later Less e = refl
    by later Equal e =
        let same : name ≡ first = (bytes_decides name first).0 (sym (is_eq-slice_cmp name first) ∙ ap is_eq e) in
        sym (ap (λ (n : PathName). name_eq q n || (name_eq q first || list_any (name_eq q) names)) same ∙ or_same (name_eq q first) (list_any (name_eq q) names))
    by later Greater e = ap (λ b. name_eq q first || b) later ∙ swap (name_eq q first) (name_eq q name) (list_any (name_eq q) names)

pub any-put : (q : PathName) (names more : List PathName) → list_any (name_eq q) (put_names names more) ≡ (list_any (name_eq q) names || list_any (name_eq q) more)
any-put q names [] = sym (or-false (list_any (name_eq q) names))
any-put q names (name ∷ more) =
    any-put q (insert_key name_cmp names name) more
    ∙ (ap (λ b. b || list_any (name_eq q) more) (any-insert q name names)
    ∙ turn_about (name_eq q name) (list_any (name_eq q) names) (list_any (name_eq q) more))
