-- Lists of names in order, each with what belongs to it.
use Rattle.std.specs.Prelude.{◌≡◌, true, List, [], ◌∷◌, map}
use Rattle.std.specs.Ordering.{match_ordering}
use Rattle.ovl_names.specs.Names.{PathName, name_cmp}
use Rattle.ovl_names.specs.Order.{ascends}

abbrev pub names_of : {X : Type 0} → List (PathName × X) → List PathName
names_of names = map (λ name. name.0) names

-- the names are in order, and none of them comes twice
abbrev pub AreInOrder : {X : Type 0} → List (PathName × X) → Type 0
AreInOrder names = ascends name_cmp (names_of names) ≡ true

-- a name put at its place among others; where it is there, what belongs to both is joined
abbrev pub put_joined : {X : Type 0} → (X → X → X) → List (PathName × X) → PathName × X
    → List (PathName × X)
put_joined joined [] new = new ∷ []
put_joined joined (own ∷ names) new =
    match_ordering (name_cmp new.0 own.0) (new ∷ own ∷ names)
    ((own.0, joined own.1 new.1) ∷ names) (own ∷ put_joined joined names new)

-- two lists in one: the names of the second put among those of the first
abbrev pub both_joined : {X : Type 0} → (X → X → X) → List (PathName × X) → List (PathName × X)
    → List (PathName × X)
both_joined joined names [] = names
both_joined joined names (new ∷ more) = both_joined joined (put_joined joined names new) more
