-- The order of ropes, where one of them has no names left.
use Rattle.std.proofs.Common.{◌≡◌, ◌⊎◌, inl, inr, ◌<◌, ◌++◌, ◌∷◌, [], Less, Equal, Greater, nat_cmp, length, reverse, length-append, refl, sym, ap, ◌∙◌, arith}
use Rattle.std.specs.Cmp.{nat_cmp_is}
use Rattle.std.proofs.lemmas.List.{length-reverse}
use Rattle.ovl_names.specs.Paths.{PathNames, path_cmp}

before-some : (names : PathNames) → 0 < length names → path_cmp [] names ≡ Less
before-some [] some = absurd (omega arith)
before-some (name ∷ names) some = refl

after-none : (names : PathNames) → 0 < length names → path_cmp names [] ≡ Greater
after-none [] some = absurd (omega arith)
after-none (name ∷ names) some = refl

none-first : (above names : PathNames) → (names ≡ [] → above ≡ []) → path_cmp [] (reverse (above ++ names)) ≡ nat_cmp 0 (length names)
none-first above [] all = ap (λ (front : PathNames). path_cmp [] (reverse (front ++ []))) (all refl) ∙ nat_cmp_is 0 0 Equal (omega arith)
none-first above (name ∷ names) all =
    before-some (reverse (above ++ (name ∷ names))) (omega (arith, length-reverse (above ++ (name ∷ names)), length-append above (name ∷ names)))
    ∙ nat_cmp_is 0 (length (name ∷ names)) Less (omega arith)

none-second : (above names : PathNames) → (names ≡ [] → above ≡ []) → path_cmp (reverse (above ++ names)) [] ≡ nat_cmp (length names) 0
none-second above [] all = ap (λ (front : PathNames). path_cmp (reverse (front ++ [])) []) (all refl) ∙ nat_cmp_is 0 0 Equal (omega arith)
none-second above (name ∷ names) all =
    after-none (reverse (above ++ (name ∷ names))) (omega (arith, length-reverse (above ++ (name ∷ names)), length-append above (name ∷ names)))
    ∙ nat_cmp_is (length (name ∷ names)) 0 Greater (omega arith)

-- where one of two ropes has no names left in its last part, and so none at all
pub order-at_end : (above own their_above their : PathNames) → (own ≡ [] → above ≡ []) → (their ≡ [] → their_above ≡ []) → (own ≡ []) ⊎ (their ≡ []) → path_cmp (reverse (above ++ own)) (reverse (their_above ++ their)) ≡ nat_cmp (length own) (length their)
order-at_end above own their_above their all their_all (inl none) =
    (λ j. path_cmp (reverse (all none j ++ none j)) (reverse (their_above ++ their)))
    ∙ (none-first their_above their their_all ∙ sym (ap (λ (names : PathNames). nat_cmp (length names) (length their)) none))
order-at_end above own their_above their all their_all (inr none) =
    (λ j. path_cmp (reverse (above ++ own)) (reverse (their_all none j ++ none j)))
    ∙ (none-second above own all ∙ sym (ap (λ (names : PathNames). nat_cmp (length own) (length names)) none))
