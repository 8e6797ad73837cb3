-- Elements with names that ascend, and where those of each first byte begin among them.
use Rattle.std.specs.Prelude.{◌≡◌, ℕ, ◌<◌, ◌≤◌, Bool, true, false, Option, List, length, nat_lt, slice_index}
use Rattle.std.specs.List.{find}
use Rattle.std.specs.List.Sorted.{IsPartitionPoint}
use Rattle.std.specs.Str.{bytes_eq}
use Rattle.ovl_names.specs.Order.{ascends}
use Rattle.std.specs.declared.cmp.Ordering.{Ordering}
use Rattle.ovl_blobs.specs.Blobs.{digest_cmp}

-- elements are ordered by their names
abbrev pub by_name : {X : Type 0} → (X → List ℕ) → X → X → Ordering
by_name name one other = digest_cmp (name one) (name other)

-- the names ascend strictly
abbrev pub names_ascend : {X : Type 0} → (X → List ℕ) → List X → Bool
names_ascend name xs = ascends (by_name name) xs

-- the first element of a name
abbrev pub element_named : {X : Type 0} → (X → List ℕ) → List X → List ℕ → Option X
element_named name xs own = find (λ x. bytes_eq (name x) own) xs

-- before this place come those whose name has a lower first byte, and no other does
abbrev pub IsStart : {X : Type 0} → (X → List ℕ) → List X → ℕ → ℕ → Type 0
IsStart name xs byte place =
    (place ≤ length xs)
    × IsPartitionPoint (λ x. nat_lt (slice_index (name x) 0) byte ≡ true)
    (λ x. nat_lt (slice_index (name x) 0) byte ≡ false) xs place

-- these places are those of all first bytes, and the end
abbrev pub AreStarts : {X : Type 0} → (X → List ℕ) → List X → List ℕ → Type 0
AreStarts name xs starts = (byte : ℕ) → byte < 257 → IsStart name xs byte (slice_index starts byte)
