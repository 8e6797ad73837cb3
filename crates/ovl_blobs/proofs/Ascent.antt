-- Strictly ascending lists, and their members.
use Rattle.std.proofs.Common.{◌≡◌, inl, inr, Bool, true, false, cond, List, [], ◌∷◌, map, refl, sym, ap, ◌∙◌, subst}
use Rattle.std.specs.Prelude.{◌&&◌, filter}
use Rattle.std.specs.List.{list_all, AllByRecursion}
use Rattle.std.specs.List.Sorted.{IsStrictlySortedBy}
use Rattle.std.specs.Ordering.{is_lt}
use Rattle.std.specs.Cmp.{IsTotalOrder}
use Rattle.std.proofs.lemmas.Cmp.{tied_itself}
use Rattle.std.proofs.lemmas.List.Folds.{list_all-map}
use Rattle.std.specs.declared.cmp.Ordering.{Ordering}
use Rattle.std.specs.declared.cmp.Ordering.TheVariants.{Less, Equal}
use Rattle.ovl_names.specs.Order.{ascends}
use Rattle.ovl_names.proofs.Ascending.{both, is_lt-Less}
use Rattle.ovl_board.proofs.LawsOfMembers.{In, Every, Rises, rising_same}

-- ---- tests of all elements, and of some

pub list_all-Every : {X : Type 0} (test : X → Bool) (xs : List X) → list_all test xs ≡ true → Every (λ x. test x ≡ true) xs
list_all-Every test [] all x h = absurd h
list_all-Every test (y ∷ xs) all x (inl e) = ap test e ∙ (both {a = test y} {b = list_all test xs} all).0
list_all-Every test (y ∷ xs) all x (inr h) = list_all-Every test xs (both {a = test y} {b = list_all test xs} all).1 x h

pub list_all-from_Every : {X : Type 0} (test : X → Bool) (xs : List X) → Every (λ x. test x ≡ true) xs → list_all test xs ≡ true
list_all-from_Every test [] each = refl
list_all-from_Every test (y ∷ xs) each = (λ j. each y (inl refl) j && list_all-from_Every test xs (λ x h. each x (inr h)) j)

-- ---- what passes a test

pub In-filter : {X : Type 0} (test : X → Bool) (x : X) (xs : List X) → In x xs → test x ≡ true → In x (filter test xs)
In-filter test x [] h t = absurd h
In-filter {X} test x (y ∷ xs) (inl e) t =
    subst (λ b. In x (cond b (y ∷ filter test xs) (filter test xs))) (sym (ap test (sym e) ∙ t)) (inl e)
In-filter {X} test x (y ∷ xs) (inr h) t = by (test y) (In-filter test x xs h t)
  where
    by : (b : Bool) → In x (filter test xs) → In x (cond b (y ∷ filter test xs) (filter test xs))
    by true later = inr later
    by false later = later

-- ---- order

-- the two ways to say that each element comes before all later ones
pub Rises-ascends : {X : Type 0} (cmp : X → X → Ordering) (xs : List X) → ascends cmp xs ≡ true → Rises (λ a b. cmp a b ≡ Less) xs
Rises-ascends cmp [] up = tt
Rises-ascends cmp (x ∷ xs) up =
    let parts = both {a = list_all (λ later. is_lt (cmp x later)) xs} {b = ascends cmp xs} up in
    ((λ y h. is_lt-Less (cmp x y) (list_all-Every (λ later. is_lt (cmp x later)) xs parts.0 y h)), Rises-ascends cmp xs parts.1)

pub ascends-Rises : {X : Type 0} (cmp : X → X → Ordering) (xs : List X) → Rises (λ a b. cmp a b ≡ Less) xs → ascends cmp xs ≡ true
ascends-Rises cmp [] up = refl
ascends-Rises cmp (x ∷ xs) up =
    (λ j. list_all-from_Every (λ later. is_lt (cmp x later)) xs (λ y h. ap is_lt (up.0 y h)) j && ascends-Rises cmp xs up.1 j)

-- a list through a map ascends where its elements do by what they are mapped to
pub ascends-map : {X Y : Type 0} (cmp : Y → Y → Ordering) (f : X → Y) (xs : List X) → ascends cmp (map f xs) ≡ ascends (λ a b. cmp (f a) (f b)) xs
ascends-map cmp f [] = refl
ascends-map cmp f (x ∷ xs) = (λ j. list_all-map (λ later. is_lt (cmp (f x) later)) f xs j && ascends-map cmp f xs j)

pub Rises-sorted : {X : Type 0} (cmp : X → X → Ordering) (xs : List X) → IsStrictlySortedBy cmp xs → Rises (λ a b. cmp a b ≡ Less) xs
unfolding IsStrictlySortedBy
Rises-sorted cmp [] up = tt
Rises-sorted {X} cmp (x ∷ xs) up = (first xs up.0, Rises-sorted cmp xs up.1)
  where
    first : (ys : List X) → AllByRecursion (λ y. cmp x y ≡ Less) ys → Every (λ y. cmp x y ≡ Less) ys
    first [] all y h = absurd h
    first (z ∷ ys) all y (inl e) = ap (cmp x) e ∙ all.0
    first (z ∷ ys) all y (inr h) = first ys all.1 y h

-- two strictly ascending lists with the same members are one, by a total order
pub less_never : {X : Type 0} {cmp : X → X → Ordering} (order : IsTotalOrder cmp) (x : X) → cmp x x ≡ Less → ⊥
less_never order x lt = let bad : Less ≡ Equal = sym lt ∙ tied_itself order x in absurd (cc)

pub ordered_same : {X : Type 0} {cmp : X → X → Ordering} (order : IsTotalOrder cmp) (ps qs : List X) → Rises (λ a b. cmp a b ≡ Less) ps → Rises (λ a b. cmp a b ≡ Less) qs → ((x : X) → In x ps → In x qs) → ((x : X) → In x qs → In x ps) → ps ≡ qs
ordered_same {X} {cmp} order ps qs a b f g = rising_same (λ x y. cmp x y ≡ Less) (less_never order) order.trans ps qs a b f g
