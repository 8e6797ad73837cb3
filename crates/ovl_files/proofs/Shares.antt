-- Lists that are read in shares of one size, in their order.
use Rattle.std.proofs.Common.{◌≡◌, ◌∙◌, ◌+◌, ◌*◌, ◌∷◌, ◌++◌, [], ℕ, suc, List, arith, ap, subst, sym, length, length-append, drop, map, take}
use native.Mathlib.Nat.{suc-mul}
use Rattle.std.specs.Prelude.{Contains}
use Rattle.std.specs.Fork.{slice_chunk}
use Rattle.std.proofs.lemmas.List.{drop-take, map-append, take-append-drop, take-take}
use Rattle.std.proofs.lemmas.List.Elements.{Contains-append_left, Contains-append_right}

share_here : {X : Type 0} (xs : List X) (size n : ℕ) → take (suc n * size) xs ≡ take (n * size) xs ++ slice_chunk xs size n
share_here {X} xs size n =
    let ys = take (n * size + size) xs in
    ap (λ (k : ℕ). take k xs) (suc-mul n size)
    ∙ (sym (take-append-drop (n * size) ys)
    ∙ (ap (λ (front : List X). front ++ drop (n * size) ys) (take-take (n * size) (n * size + size) xs (omega arith))
    ∙ ap (λ (back : List X). take (n * size) xs ++ back) (drop-take (n * size) size xs)))

-- one share more
pub one_more : {X Y : Type 0} (xs : List X) (size : ℕ) (read : List Y) (next : Y) (share : List X) → share ≡ slice_chunk xs size (length read)
    → take (length (read ++ next ∷ []) * size) xs ≡ take (length read * size) xs ++ share
one_more xs size read next share is =
    let longer : length (read ++ next ∷ []) ≡ suc (length read) = omega (arith, length-append read (next ∷ [])) in
    ap (λ n. take (n * size) xs) longer ∙ (share_here xs size (length read) ∙ ap (λ part. take (length read * size) xs ++ part) (sym is))

-- the same of something that each of the list has
pub one_more_of : {X Y Z : Type 0} (f : X → Z) (xs : List X) (size : ℕ) (read : List Y) (next : Y) (share : List X) → share ≡ slice_chunk xs size (length read)
    → map f (take (length (read ++ next ∷ []) * size) xs) ≡ map f (take (length read * size) xs) ++ map f share
one_more_of f xs size read next share is = ap (map f) (one_more xs size read next share is) ∙ map-append f (take (length read * size) xs) share

module _ {X : Type 0} (path_of : X → List ℕ) where
  parts : (n : ℕ) (xs : List X) → map path_of (take n xs) ++ map path_of (drop n xs) ≡ map path_of xs
  parts n xs = sym (map-append path_of (take n xs) (drop n xs)) ∙ ap (map path_of) (take-append-drop n xs)

  -- the paths of a share are among all
  pub within_share : (xs : List X) (size start : ℕ) (share : List X) → share ≡ take size (drop start xs) → (path : List ℕ) → Contains (map path_of share) path → Contains (map path_of xs) path
  within_share xs size start share is path inside =
      let behind = drop start xs in
      subst (λ paths. Contains paths path) (parts start xs) (Contains-append_right (map path_of (take start xs)) (map path_of behind) path
      (subst (λ paths. Contains paths path) (parts size behind) (Contains-append_left (map path_of (take size behind)) (map path_of (drop size behind)) path (rw is at inside))))
