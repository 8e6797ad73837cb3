-- Lists through a test and through a map, and their fronts and ends.
use Rattle.std.proofs.Common.{◌≡◌, ℕ, zero, suc, ◌≤◌, ◌<◌, Bool, true, false, cond, Some, List, [], ◌∷◌, length, get_or, take, drop, map, refl, sym, ap, ◌∙◌, arith}
use Rattle.std.specs.Prelude.{filter, slice_get}
use Rattle.std.specs.List.{find}
use Rattle.std.specs.Option.{option_map}

-- a list without what fails a test at its front, and at its end
pub filter-after : {X : Type 0} (p : X → Bool) (xs : List X) (start : ℕ) → ((k : ℕ) (d : X) → k < start → k < length xs → p (get_or xs k d) ≡ false) → filter p (drop start xs) ≡ filter p xs
filter-after p xs zero none = refl
filter-after p [] (suc start) none = refl
filter-after p (x ∷ xs) (suc start) none =
    filter-after p xs start (λ k d early inside. none (suc k) d (omega arith) (omega arith))
    ∙ sym (ap (λ b. cond b (x ∷ filter p xs) (filter p xs)) (none 0 x (omega arith) (omega arith)))

pub filter-before : {X : Type 0} (p : X → Bool) (xs : List X) (end : ℕ) → ((k : ℕ) (d : X) → end ≤ k → k < length xs → p (get_or xs k d) ≡ false) → filter p (take end xs) ≡ filter p xs
filter-before p [] zero none = refl
filter-before p [] (suc end) none = refl
filter-before p (x ∷ xs) zero none =
    filter-before p xs zero (λ k d late inside. none (suc k) d (omega arith) (omega arith))
    ∙ sym (ap (λ b. cond b (x ∷ filter p xs) (filter p xs)) (none 0 x (omega arith) (omega arith)))
filter-before p (x ∷ xs) (suc end) none =
    ap (λ rest. cond (p x) (x ∷ rest) rest) (filter-before p xs end (λ k d late inside. none (suc k) d (omega arith) (omega arith)))

pub filter-map : {X Y : Type 0} (f : X → Y) (p : Y → Bool) (xs : List X) → filter p (map f xs) ≡ map f (filter (λ x. p (f x)) xs)
filter-map f p [] = refl
filter-map {X} {Y} f p (x ∷ xs) = by (p (f x)) (filter-map f p xs)
  where
    by : (b : Bool) → filter p (map f xs) ≡ map f (filter (λ x. p (f x)) xs) → cond b (f x ∷ filter p (map f xs)) (filter p (map f xs)) ≡ map f (cond b (x ∷ filter (λ x. p (f x)) xs) (filter (λ x. p (f x)) xs))
    by true later = ap (λ rest. f x ∷ rest) later
    by false later = later

pub find-map : {X Y : Type 0} (f : X → Y) (p : Y → Bool) (xs : List X) → find p (map f xs) ≡ option_map f (find (λ x. p (f x)) xs)
find-map f p [] = refl
find-map {X} {Y} f p (x ∷ xs) = by (p (f x)) (find-map f p xs)
  where
    by : (b : Bool) → find p (map f xs) ≡ option_map f (find (λ x. p (f x)) xs) → cond b (Some (f x)) (find p (map f xs)) ≡ option_map f (cond b (Some x) (find (λ x. p (f x)) xs))
    by true later = refl
    by false later = later

-- the first element that passes a test is the first of those that do
pub find-filter : {X : Type 0} (p : X → Bool) (xs : List X) → find p xs ≡ slice_get (filter p xs) 0
find-filter p [] = refl
find-filter {X} p (x ∷ xs) = by (p x) (find-filter p xs)
  where
    by : (b : Bool) → find p xs ≡ slice_get (filter p xs) 0 → cond b (Some x) (find p xs) ≡ slice_get (cond b (x ∷ filter p xs) (filter p xs)) 0
    by true later = refl
    by false later = later
