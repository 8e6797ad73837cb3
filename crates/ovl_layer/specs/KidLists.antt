-- The kids of rows in two flat lists: one of their numbers, and one of where those of each row
-- begin.
use Rattle.std.specs.Prelude.{◌≡◌, ℕ, zero, suc, ◌-◌, ◌<◌, ◌≤◌, List, [], ◌∷◌, if◌then◌else◌, length, take, drop, nat_lt, slice_index}
use Rattle.ovl_layer.specs.Sheets.{kid_numbers}

-- the parts of a list, each from its start to the next one
abbrev pub parts_of : List ℕ → List ℕ → List (List ℕ)
parts_of [] numbers = []
parts_of (start ∷ []) numbers = []
parts_of (start ∷ end ∷ starts) numbers =
    take (end - start) (drop start numbers) ∷ parts_of (end ∷ starts) numbers

-- no start lies after the next one, and none past the end of a list of this many
pub record AreKidStarts (starts : List ℕ) (count : ℕ) : Type 0 where
  pub rise : (number : ℕ) → suc number < length starts
      → slice_index starts number ≤ slice_index starts (suc number)
  pub within : (number : ℕ) → number < length starts → slice_index starts number ≤ count

-- how many of these parents have a number below that
abbrev pub count_below : List ℕ → ℕ → ℕ
count_below [] number = zero
count_below (parent ∷ parents) number =
    if nat_lt parent number then suc (count_below parents number) else count_below parents number

-- how many kids each row with these parents has, and past the last row none
pub record AreCounts (parents counts : List ℕ) : Type 0 where
  pub count : length counts ≡ suc (length parents)
  pub each : (number : ℕ) → number ≤ length parents
      → slice_index counts number ≡ length (kid_numbers 1 (drop 1 parents) number)

-- where the kids of each row end, if those of all rows lie row after row
pub record AreKidEnds (parents ends : List ℕ) : Type 0 where
  pub count : length ends ≡ suc (length parents)
  pub each : (number : ℕ) → number ≤ length parents
      → slice_index ends number ≡ count_below (drop 1 parents) (suc number)
