-- Lists in strictly ascending order.
use Rattle.std.specs.Prelude.{Bool, true, ◌&&◌, List, [], ◌∷◌}
use Rattle.std.specs.List.{list_all}
use Rattle.std.specs.Ordering.{is_lt}
use Rattle.std.specs.declared.cmp.Ordering.{Ordering}

-- each element comes before all later ones
abbrev pub ascends : {X : Type 0} → (X → X → Ordering) → List X → Bool
ascends cmp [] = true
ascends cmp (x ∷ xs) = list_all (λ later. is_lt (cmp x later)) xs && ascends cmp xs
