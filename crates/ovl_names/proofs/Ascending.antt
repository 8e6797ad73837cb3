-- Lists in strictly ascending order.
use Rattle.std.proofs.Common.{◌≡◌, ℕ, zero, suc, ◌<◌, length, get_or, arith, Some, None, Bool, true, false, List, [], ◌∷◌, ◌++◌, refl, sym, ap, ◌∙◌}
use Rattle.std.specs.Prelude.{◌&&◌, not, filter, slice_get, unwrap_or}
use Rattle.std.specs.List.{list_all}
use Rattle.std.specs.Ordering.{is_lt, ordering_reverse}
use Rattle.std.specs.Cmp.{IsTotalOrder}
use Rattle.std.specs.declared.cmp.Ordering.{Ordering}
use Rattle.std.specs.declared.cmp.Ordering.TheVariants.{Less, Equal, Greater}
use Rattle.std.proofs.lemmas.List.Folds.{list_all-append}
use Rattle.ovl_names.specs.Order.{ascends}

-- the two parts of a conjunction
pub both : {a b : Bool} → a && b ≡ true → (a ≡ true) × (b ≡ true)
both {a} {b} e = by a b e
  where
    by : (a b : Bool) → a && b ≡ true → (a ≡ true) × (b ≡ true)
    by true b e = (refl, e)
    by false b e = let bad : false ≡ true = e in cc

pub not_true : (b : Bool) → not b ≡ true → b ≡ false
not_true true e = let bad : false ≡ true = e in cc
not_true false e = refl

pub not_false : (b : Bool) → not b ≡ false → b ≡ true
not_false true e = refl
not_false false e = let bad : true ≡ false = e in cc

-- what holds of all elements holds of each
pub list_all-get : {X : Type 0} (test : X → Bool) (xs : List X) (place : ℕ) (x : X) → list_all test xs ≡ true → slice_get xs place ≡ Some x → test x ≡ true
list_all-get test [] place x all at = let bad : None ≡ Some x = at in cc
list_all-get test (first ∷ xs) zero x all at = ap test (sym (ap (λ o. unwrap_or o first) at)) ∙ (both {a = test first} {b = list_all test xs} all).0
list_all-get test (first ∷ xs) (suc place) x all at = list_all-get test xs place x (both {a = test first} {b = list_all test xs} all).1 at

pub is_lt-Less : (o : Ordering) → is_lt o ≡ true → o ≡ Less
is_lt-Less Less e = refl
is_lt-Less Equal e = let bad : false ≡ true = e in cc
is_lt-Less Greater e = let bad : false ≡ true = e in cc

module _ {X : Type 0} {cmp : X → X → Ordering} (order : IsTotalOrder cmp) where
  -- what comes before an element comes before all that the element comes before
  pub list_all-before : (x y : X) (zs : List X) → is_lt (cmp x y) ≡ true → list_all (λ later. is_lt (cmp y later)) zs ≡ true → list_all (λ later. is_lt (cmp x later)) zs ≡ true
  list_all-before x y [] before all = refl
  list_all-before x y (z ∷ zs) before all =
      let parts = both {a = is_lt (cmp y z)} {b = list_all (λ later. is_lt (cmp y later)) zs} all in
      rw (order.trans x y z (is_lt-Less (cmp x y) before) (is_lt-Less (cmp y z) parts.0)) (list_all-before x y zs before parts.1)

  -- an element that another comes before comes after it
  pub reversed : (x y : X) → is_lt (cmp x y) ≡ true → cmp y x ≡ Greater
  reversed x y before = order.antisymm y x ∙ ap ordering_reverse (is_lt-Less (cmp x y) before)

-- each element comes before the next
pub ascends-next : {X : Type 0} (cmp : X → X → Ordering) (xs : List X) (k : ℕ) (d : X) → ascends cmp xs ≡ true → suc k < length xs → is_lt (cmp (get_or xs k d) (get_or xs (suc k) d)) ≡ true
ascends-next cmp [] k d up inside = absurd (omega arith)
ascends-next cmp (x ∷ []) k d up inside = absurd (omega arith)
ascends-next cmp (x ∷ y ∷ xs) zero d up inside =
    let parts = both {a = list_all (λ later. is_lt (cmp x later)) (y ∷ xs)} {b = ascends cmp (y ∷ xs)} up in
    (both {a = is_lt (cmp x y)} {b = list_all (λ later. is_lt (cmp x later)) xs} parts.0).0
ascends-next cmp (x ∷ y ∷ xs) (suc k) d up inside =
    ascends-next cmp (y ∷ xs) k d (both {a = list_all (λ later. is_lt (cmp x later)) (y ∷ xs)} {b = ascends cmp (y ∷ xs)} up).1 (omega arith)

-- what holds of each element holds of all
pub list_all-from_each : {X : Type 0} (test : X → Bool) (xs : List X) → ((i : ℕ) (d : X) → i < length xs → test (get_or xs i d) ≡ true) → list_all test xs ≡ true
list_all-from_each test [] each = refl
list_all-from_each test (x ∷ xs) each =
    rw (each zero x (omega arith)) (list_all-from_each test xs (λ i d inside. each (suc i) d (omega arith)))

-- what holds of all elements holds of those that pass a test
pub list_all-filter : {X : Type 0} (holds test : X → Bool) (xs : List X) → list_all holds xs ≡ true → list_all holds (filter test xs) ≡ true
list_all-filter holds test [] all = refl
list_all-filter {X} holds test (x ∷ xs) all = by (list_all-filter holds test xs) (test x) refl
  where
    by : (list_all holds xs ≡ true → list_all holds (filter test xs) ≡ true) → (b : Bool) → test x ≡ b → list_all holds (filter test (x ∷ xs)) ≡ true
    by later true e = rw e (rw (both {a = holds x} {b = list_all holds xs} all).0 (later (both {a = holds x} {b = list_all holds xs} all).1))
    by later false e = rw e (later (both {a = holds x} {b = list_all holds xs} all).1)

-- the elements that pass a test ascend as they did
pub ascends-filter : {X : Type 0} (cmp : X → X → Ordering) (test : X → Bool) (xs : List X) → ascends cmp xs ≡ true → ascends cmp (filter test xs) ≡ true
ascends-filter cmp test [] up = refl
ascends-filter {X} cmp test (x ∷ xs) up = by (ascends-filter cmp test xs) (test x) refl
  where
    parts : (list_all (λ later. is_lt (cmp x later)) xs ≡ true) × (ascends cmp xs ≡ true)
    parts = both {a = list_all (λ later. is_lt (cmp x later)) xs} {b = ascends cmp xs} up

    by : (ascends cmp xs ≡ true → ascends cmp (filter test xs) ≡ true) → (b : Bool) → test x ≡ b → ascends cmp (filter test (x ∷ xs)) ≡ true
    by later true e = rw e (rw (list_all-filter (λ later. is_lt (cmp x later)) test xs parts.0) (later parts.1))
    by later false e = rw e (later parts.1)

-- ---- one list after another

pub list_all-front : {X : Type 0} (test : X → Bool) (xs ys : List X) → list_all test (xs ++ ys) ≡ true → (list_all test xs ≡ true) × (list_all test ys ≡ true)
list_all-front test xs ys all = both {a = list_all test xs} {b = list_all test ys} (sym (list_all-append test xs ys) ∙ all)

-- a list in order, and one more that comes after all of it
pub ascends-more : {X : Type 0} (cmp : X → X → Ordering) (xs : List X) (y : X) → ascends cmp xs ≡ true → list_all (λ x. is_lt (cmp x y)) xs ≡ true → ascends cmp (xs ++ y ∷ []) ≡ true
ascends-more cmp [] y up before = refl
ascends-more cmp (x ∷ xs) y up before =
    let parts = both {a = list_all (λ later. is_lt (cmp x later)) xs} {b = ascends cmp xs} up in
    let firsts = both {a = is_lt (cmp x y)} {b = list_all (λ z. is_lt (cmp z y)) xs} before in
    let later : list_all (λ z. is_lt (cmp x z)) (xs ++ y ∷ []) ≡ true = rw (list_all-append (λ z. is_lt (cmp x z)) xs (y ∷ []), parts.0, firsts.0) refl in
    rw later (ascends-more cmp xs y parts.1 firsts.1)

-- the end of a list in order, and what comes before its first element
pub ascends-back : {X : Type 0} (cmp : X → X → Ordering) (xs ys : List X) → ascends cmp (xs ++ ys) ≡ true → ascends cmp ys ≡ true
ascends-back cmp [] ys up = up
ascends-back cmp (x ∷ xs) ys up = ascends-back cmp xs ys (both {a = list_all (λ later. is_lt (cmp x later)) (xs ++ ys)} {b = ascends cmp (xs ++ ys)} up).1

pub ascends-across : {X : Type 0} (cmp : X → X → Ordering) (xs : List X) (y : X) (ys : List X) → ascends cmp (xs ++ y ∷ ys) ≡ true → list_all (λ x. is_lt (cmp x y)) xs ≡ true
ascends-across cmp [] y ys up = refl
ascends-across cmp (x ∷ xs) y ys up =
    let parts = both {a = list_all (λ later. is_lt (cmp x later)) (xs ++ y ∷ ys)} {b = ascends cmp (xs ++ y ∷ ys)} up in
    let later = list_all-front (λ later. is_lt (cmp x later)) xs (y ∷ ys) parts.0 in
    rw (both {a = is_lt (cmp x y)} {b = list_all (λ z. is_lt (cmp x z)) ys} later.1).0 (ascends-across cmp xs y ys parts.1)
