-- What comes to writers of parts that are handed out in their order.
use Rattle.std.specs.Prelude.{◌<◌, ℕ, zero, suc, ⊤, Option, List, [], ◌∷◌, length, take}
use Rattle.std.specs.Io.KnownBytes.{Appends, Keeps}

-- each writer has what it had, and then its part
unfoldable pub AreWhole : List (Option (List ℕ)) → List (Option (List ℕ)) → List (List ℕ) → Type 0
AreWhole [] [] [] = ⊤
AreWhole (before ∷ befores) (after ∷ afters) (part ∷ parts) =
    Appends before after part × AreWhole befores afters parts
AreWhole _ _ _ = ⊥

-- each writer has what it had
unfoldable pub AreKept : List (Option (List ℕ)) → List (Option (List ℕ)) → Type 0
AreKept [] [] = ⊤
AreKept (before ∷ befores) (after ∷ afters) = Keeps before after × AreKept befores afters
AreKept _ _ = ⊥

-- the first parts, this many of them, are whole; of the next its first bytes, this many and
-- fewer than all; later writers have what they had
unfoldable pub IsCutAt : ℕ → ℕ → List (Option (List ℕ)) → List (Option (List ℕ)) → List (List ℕ)
    → Type 0
IsCutAt zero written (before ∷ befores) (after ∷ afters) (part ∷ parts) =
    (written < length part) × (Appends before after (take written part) × AreKept befores afters)
IsCutAt (suc index) written (before ∷ befores) (after ∷ afters) (part ∷ parts) =
    Appends before after part × IsCutAt index written befores afters parts
IsCutAt _ _ _ _ _ = ⊥
