-- Tests of some element of a list, and the front of what a list is mapped to.
use Rattle.std.proofs.Common.{◌≡◌, ℕ, ◌+◌, ◌<◌, Bool, List, [], ◌∷◌, ◌++◌, length, get_or, take, map, refl, sym, ap, ◌∙◌, append_assoc}
use Rattle.std.specs.Prelude.{◌||◌}
use Rattle.std.specs.List.{list_any, flat_map}
use Rattle.std.proofs.lemmas.List.{take_more, flat_map_more}

pub any-map : {X Y : Type 0} (f : X → Y) (p : Y → Bool) (xs : List X) → list_any p (map f xs) ≡ list_any (λ x. p (f x)) xs
any-map f p [] = refl
any-map f p (x ∷ xs) = ap (λ b. p (f x) || b) (any-map f p xs)

-- the loop over what is found
pub flat-more : {X Y : Type 0} (f : X → List Y) (xs : List X) (i : ℕ) (d : X) (start old new : List Y) → i < length xs → old ≡ start ++ flat_map f (take i xs) → new ≡ old ++ f (get_or xs i d) → new ≡ start ++ flat_map f (take (i + 1) xs)
flat-more f xs i d start old new inside so_far added =
    added
    ∙ (ap (λ ys. ys ++ f (get_or xs i d)) so_far
    ∙ (append_assoc start (flat_map f (take i xs)) (f (get_or xs i d))
    ∙ ap (λ ys. start ++ ys) (flat_map_more f [] (take i xs) (get_or xs i d) ∙ ap (flat_map f) (sym (take_more xs i d inside)))))
