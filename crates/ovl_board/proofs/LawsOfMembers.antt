-- Laws of what is in a list, and of lists that rise.
use Rattle.std.proofs.Common.{◌≡◌, ℕ, zero, suc, ◌+◌, ◌<◌, ◌⊎◌, inl, inr, Bool, true, false, cond, List, [], ◌∷◌, ◌++◌, length, get_or, map, filter, refl, sym, ap, ◌∙◌, subst, arith, All, Contains, AllPairs}
use Rattle.std.specs.List.{flat_map, AllAdjacentBelow}

-- x is an element of the list
abbrev pub In : {X : Type 0} → X → List X → Type 0
In x [] = ⊥
In x (y ∷ ys) = (x ≡ y) ⊎ In x ys

-- P holds of each element
abbrev pub Every : {X : Type 0} → (X → Type 0) → List X → Type 0
Every {X} P xs = (x : X) → In x xs → P x

-- R holds of each element and each later one
abbrev pub Rises : {X : Type 0} → (X → X → Type 0) → List X → Type 0
Rises R [] = Unit {0}
Rises R (x ∷ xs) = Every (R x) xs × Rises R xs

module _ {X : Type 0} where
  pub In-left : (x : X) (xs ys : List X) → In x xs → In x (xs ++ ys)
  In-left x [] ys h = absurd h
  In-left x (y ∷ xs) ys (inl e) = inl e
  In-left x (y ∷ xs) ys (inr h) = inr (In-left x xs ys h)

  pub In-right : (x : X) (xs ys : List X) → In x ys → In x (xs ++ ys)
  In-right x [] ys h = h
  In-right x (y ∷ xs) ys h = inr (In-right x xs ys h)

  pub In-cases : (x : X) (xs ys : List X) → In x (xs ++ ys) → In x xs ⊎ In x ys
  In-cases x [] ys h = inr h
  In-cases x (y ∷ xs) ys (inl e) = inl (inl e)
  In-cases x (y ∷ xs) ys (inr h) = elim (In-cases x xs ys h) [ inl a ↦ inl (inr a) | inr b ↦ inr b ]

  pub Rises-append : (R : X → X → Type 0) (xs ys : List X) → Rises R xs → Rises R ys → ((x y : X) → In x xs → In y ys → R x y) → Rises R (xs ++ ys)
  Rises-append R [] ys a b across = b
  Rises-append R (x ∷ xs) ys a b across = (
    (λ y h. elim (In-cases y xs ys h) [ inl l ↦ a.0 y l | inr r ↦ across x y (inl refl) r ]),
    Rises-append R xs ys a.1 b (λ u v p q. across u v (inr p) q),
  )

  -- a list round one of its elements
  pub In-split : (x : X) (xs : List X) → In x xs → (front : List X) × ((back : List X) × (xs ≡ front ++ x ∷ back))
  In-split x [] h = absurd h
  In-split x (y ∷ xs) (inl e) = ([], (xs, ap (λ z. z ∷ xs) (sym e)))
  In-split x (y ∷ xs) (inr h) = let s = In-split x xs h in (y ∷ s.0, (s.1.0, ap (λ l. y ∷ l) s.1.1))

  pub Rises-parts : (R : X → X → Type 0) (xs ys : List X) → Rises R (xs ++ ys) → Rises R xs × Rises R ys × ((x y : X) → In x xs → In y ys → R x y)
  Rises-parts R [] ys r = (tt, r, λ x y h k. absurd h)
  Rises-parts R (x ∷ xs) ys r =
      let more = Rises-parts R xs ys r.1 in (
        ((λ y h. r.0 y (In-left y xs ys h)), more.0),
        more.1,
        (λ u v h k. elim h [ inl e ↦ (let P : X → Type 0 = λ w. R w v in subst P (sym e) (r.0 v (In-right v xs ys k))) | inr i ↦ more.2 u v i k ]),
      )

  -- the words of std
  pub get_or-In : (xs : List X) (k : ℕ) (d : X) → k < length xs → In (get_or xs k d) xs
  get_or-In [] k d h = absurd (omega arith)
  get_or-In (x ∷ xs) zero d h = inl refl
  get_or-In (x ∷ xs) (suc k) d h = inr (get_or-In xs k d (omega arith))

  pub place : (x : X) (xs : List X) → In x xs → (k : ℕ) × (k < length xs) × ((d : X) → get_or xs k d ≡ x)
  place x [] h = absurd h
  place x (y ∷ ys) (inl e) = (0, omega arith, λ d. sym e)
  place x (y ∷ ys) (inr h) = let r = place x ys h in (suc r.0, omega (arith, r.1), r.2)

  pub Contains-In : (x : X) (xs : List X) → In x xs → Contains xs x
  Contains-In x xs h = let r = place x xs h in (r.0, r.1, r.2 x)

  pub In-Contains : (x : X) (xs : List X) → Contains xs x → In x xs
  In-Contains x xs c = let P : X → Type 0 = λ y. In y xs in subst P c.2 (get_or-In xs c.0 x c.1)

  pub All-Every : (P : X → Type 0) (xs : List X) → Every P xs → All P xs
  All-Every P xs e = λ k d h. e (get_or xs k d) (get_or-In xs k d h)

  pub Every-All : (P : X → Type 0) (xs : List X) → All P xs → Every P xs
  Every-All P xs a x h = let r = place x xs h in subst P (r.2 x) (a r.0 x r.1)

  pub AllPairs-Rises : (R : X → X → Type 0) (xs : List X) → Rises R xs → AllPairs R xs
  AllPairs-Rises R [] r i j d lt in_range = absurd (omega arith)
  AllPairs-Rises R (x ∷ xs) r i zero d lt in_range = absurd (omega arith)
  AllPairs-Rises R (x ∷ xs) r zero (suc j) d lt in_range = r.0 (get_or xs j d) (get_or-In xs j d (omega arith))
  AllPairs-Rises R (x ∷ xs) r (suc i) (suc j) d lt in_range = AllPairs-Rises R xs r.1 i j d (omega arith) (omega arith)

  pub Rises-AllPairs : (R : X → X → Type 0) (xs : List X) → AllPairs R xs → Rises R xs
  Rises-AllPairs R [] a = tt
  Rises-AllPairs R (x ∷ xs) a = (
    (λ y h. let r = place y xs h in subst (R x) (r.2 y) (a 0 (suc r.0) y (omega arith) (omega (arith, r.1)))),
    Rises-AllPairs R xs (λ i j d lt h. a (suc i) (suc j) d (omega arith) (omega arith)),
  )

pub In-map : {X Y : Type 0} (f : X → Y) (x : X) (xs : List X) → In x xs → In (f x) (map f xs)
In-map f x [] h = absurd h
In-map f x (y ∷ xs) (inl e) = inl (ap f e)
In-map f x (y ∷ xs) (inr h) = inr (In-map f x xs h)

pub In-map-cases : {X Y : Type 0} (f : X → Y) (y : Y) (xs : List X) → In y (map f xs) → (x : X) × (In x xs × (y ≡ f x))
In-map-cases f y [] h = absurd h
In-map-cases f y (x ∷ xs) (inl e) = (x, (inl refl, e))
In-map-cases f y (x ∷ xs) (inr h) = let r = In-map-cases f y xs h in (r.0, (inr r.1.0, r.1.1))

module _ {X Y : Type 0} (f : X → List Y) where
  pub In-flat_map : (y : Y) (x : X) (xs : List X) → In x xs → In y (f x) → In y (flat_map f xs)
  In-flat_map y x [] h k = absurd h
  In-flat_map y x (z ∷ xs) (inl e) k = let P : X → Type 0 = λ w. In y (f w) in In-left y (f z) (flat_map f xs) (subst P e k)
  In-flat_map y x (z ∷ xs) (inr h) k = In-right y (f z) (flat_map f xs) (In-flat_map y x xs h k)

  pub In-flat_map-cases : (y : Y) (xs : List X) → In y (flat_map f xs) → (x : X) × (In x xs) × (In y (f x))
  In-flat_map-cases y [] h = absurd h
  In-flat_map-cases y (x ∷ xs) h = elim (In-cases y (f x) (flat_map f xs) h) [
    | inl a ↦ (x, inl refl, a)
    | inr b ↦ let r = In-flat_map-cases y xs b in (r.0, inr r.1, r.2)
  ]

  pub Rises-flat_map : (R : Y → Y → Type 0) (xs : List X) → Every (λ x. Rises R (f x)) xs → Rises (λ a b. (y z : Y) → In y (f a) → In z (f b) → R y z) xs → Rises R (flat_map f xs)
  Rises-flat_map R [] e r = tt
  Rises-flat_map R (x ∷ xs) e r =
      Rises-append R (f x) (flat_map f xs) (e x (inl refl)) (Rises-flat_map R xs (λ y h. e y (inr h)) r.1)
      (λ y z p q. let c = In-flat_map-cases z xs q in r.0 c.0 c.1 y z p c.2)

-- each element and the next one are in a relation that goes on: so do each and every later one
module _ {X : Type 0} (R : X → X → Type 0) (trans : (x y z : X) → R x y → R y z → R x z) where
  pub Rises-from_adjacent : (xs : List X) → AllAdjacentBelow R xs (length xs) → Rises R xs
  Rises-from_adjacent [] a = tt
  Rises-from_adjacent (x ∷ []) a = ((λ y h. absurd h), tt)
  Rises-from_adjacent (x ∷ (y ∷ ys)) a = by (Rises-from_adjacent (y ∷ ys) (λ k d h. let e : suc k + 1 ≡ suc (k + 1) = omega arith in subst (λ n. R (get_or (y ∷ ys) k d) (get_or (x ∷ (y ∷ ys)) n d)) e (a (suc k) d (omega arith)))) (a 0 x (omega arith))
    where
      by : Rises R (y ∷ ys) → R x y → Rises R (x ∷ (y ∷ ys))
      by more first = ((λ z h. elim h [ inl e ↦ subst (R x) (sym e) first | inr i ↦ trans x y z first (more.0 z i) ]), more)

-- ---- what passes a test

pub In-filter-cases : {X : Type 0} (test : X → Bool) (x : X) (xs : List X) → In x (filter test xs) → In x xs × (test x ≡ true)
In-filter-cases test x [] h = absurd h
In-filter-cases {X} test x (y ∷ xs) h = by (In-filter-cases test x xs) (test y) refl h
  where
    by : (In x (filter test xs) → In x xs × (test x ≡ true)) → (b : Bool) → test y ≡ b → In x (cond b (y ∷ filter test xs) (filter test xs)) → In x (y ∷ xs) × (test x ≡ true)
    by later true t (inl e) = (inl e, ap test e ∙ t)
    by later true t (inr k) = (inr (later k).0, (later k).1)
    by later false t k = (inr (later k).0, (later k).1)

pub Rises-filter : {X : Type 0} (R : X → X → Type 0) (test : X → Bool) (xs : List X) → Rises R xs → Rises R (filter test xs)
Rises-filter R test [] up = tt
Rises-filter {X} R test (x ∷ xs) up = by (test x) (Rises-filter R test xs up.1)
  where
    by : (b : Bool) → Rises R (filter test xs) → Rises R (cond b (x ∷ filter test xs) (filter test xs))
    by true later = ((λ y h. up.0 y (In-filter-cases test y xs h).0), later)
    by false later = later

-- ---- strictly ascending lists with the same members

module _ {X : Type 0} (R : X → X → Type 0) (never : (x : X) → R x x → ⊥) (trans : (x y z : X) → R x y → R y z → R x z) where
  pub rising_same : (ps qs : List X) → Rises R ps → Rises R qs → ((x : X) → In x ps → In x qs) → ((x : X) → In x qs → In x ps) → ps ≡ qs
  rising_same [] [] a b f g = refl
  rising_same [] (q ∷ qs) a b f g = absurd (g q (inl refl))
  rising_same (p ∷ ps) [] a b f g = absurd (f p (inl refl))
  rising_same (p ∷ ps) (q ∷ qs) a b f g =
      let same = heads (f p (inl refl)) (g q (inl refl)) in
      ap (λ x. x ∷ ps) same ∙ ap (λ xs. q ∷ xs) (rising_same ps qs a.1 b.1
      (λ x i. elim (f x (inr i)) [ inl e ↦ absurd (never x (subst (λ y. R y x) (same ∙ sym e) (a.0 x i))) | inr k ↦ k ])
      (λ x i. elim (g x (inr i)) [ inl e ↦ absurd (never x (subst (λ y. R y x) (sym same ∙ sym e) (b.0 x i))) | inr k ↦ k ]))
    where
      heads : In p (q ∷ qs) → In q (p ∷ ps) → p ≡ q
      heads (inl e) k = e
      heads (inr i) (inl e) = sym e
      heads (inr i) (inr k) = absurd (never p (trans p q p (a.0 q k) (b.0 p i)))
