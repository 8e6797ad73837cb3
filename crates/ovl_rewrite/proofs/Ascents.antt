-- Lists in order, and names among names.
use Rattle.std.proofs.Common.{◌≡◌, inl, inr, Bool, true, false, List, [], ◌∷◌, refl, ap, ◌∙◌}
use Rattle.std.specs.Prelude.{◌||◌, ◌&&◌}
use Rattle.std.specs.List.{list_any, list_all}
use Rattle.std.specs.Ordering.{is_lt}
use Rattle.std.specs.declared.cmp.Ordering.{Ordering}
use Rattle.std.specs.declared.cmp.Ordering.TheVariants.{Less}
use Rattle.std.specs.Cmp.Lexicographic.{bytes_decides}
use Rattle.ovl_names.specs.Names.{PathName, name_eq, name_cmp}
use Rattle.ovl_names.specs.Order.{ascends}
use Rattle.ovl_names.proofs.Ascending.{both, is_lt-Less}
use Rattle.ovl_board.proofs.LawsOfMembers.{In, Every, Rises}

module _ {X : Type 0} (cmp : X → X → Ordering) where
  abbrev pub Before : X → X → Type 0
  Before one other = cmp one other ≡ Less

  later-each : (first : X) (xs : List X) → list_all (λ later. is_lt (cmp first later)) xs ≡ true → Every (Before first) xs
  later-each first [] all x h = absurd h
  later-each first (other ∷ xs) all x h = by (later-each first xs parts.1 x) h
    where
      parts : (is_lt (cmp first other) ≡ true) × (list_all (λ later. is_lt (cmp first later)) xs ≡ true)
      parts = both {a = is_lt (cmp first other)} {b = list_all (λ later. is_lt (cmp first later)) xs} all

      by : (In x xs → Before first x) → In x (other ∷ xs) → Before first x
      by later (inl same) = ap (cmp first) same ∙ is_lt-Less (cmp first other) parts.0
      by later (inr h) = later h

  pub ascending-rise : (xs : List X) → ascends cmp xs ≡ true → Rises Before xs
  ascending-rise [] up = tt
  ascending-rise (x ∷ xs) up =
      let parts = both {a = list_all (λ later. is_lt (cmp x later)) xs} {b = ascends cmp xs} up in
      (later-each x xs parts.0, ascending-rise xs parts.1)

  before-all : (first : X) (xs : List X) → Every (Before first) xs → list_all (λ later. is_lt (cmp first later)) xs ≡ true
  before-all first [] each = refl
  before-all first (other ∷ xs) each =
      let here : is_lt (cmp first other) ≡ true = ap is_lt (each other (inl refl)) in
      let later = before-all first xs (λ x h. each x (inr h)) in
      (λ j. here j && later j)

  pub rising-ascend : (xs : List X) → Rises Before xs → ascends cmp xs ≡ true
  rising-ascend [] up = refl
  rising-ascend (x ∷ xs) up = let first = before-all x xs up.0 in let later = rising-ascend xs up.1 in (λ j. first j && later j)

abbrev pub NameBefore : PathName → PathName → Type 0
NameBefore one other = name_cmp one other ≡ Less

pub rising-names : (names : List PathName) → ascends name_cmp names ≡ true → Rises NameBefore names
rising-names names up = ascending-rise name_cmp names up

-- a name is one of them where the test says so
pub any-In : (name : PathName) (names : List PathName) → list_any (name_eq name) names ≡ true → In name names
any-In name [] any = let bad : false ≡ true = any in cc
any-In name (other ∷ names) any = by (any-In name names) (name_eq name other) refl any
  where
    by : (list_any (name_eq name) names ≡ true → In name names) → (b : Bool) → name_eq name other ≡ b → (b || list_any (name_eq name) names) ≡ true → In name (other ∷ names)
    by later true e any = inl ((bytes_decides name other).0 e)
    by later false e any = inr (later any)
