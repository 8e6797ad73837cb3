-- The account of a lane: what was pushed is what the owner and the passes took, and what the deque
-- holds.
use Rattle.std.specs.Prelude.{◌≡◌, ℕ, ◌+◌, true, false, List, [], ◌∷◌}
use Rattle.std.specs.List.{sum_by}
use Rattle.ovl_board.specs.declared.pieces.Piece.{Piece}
use Rattle.ovl_lanes.specs.declared.accounts.Account.{Account}

-- an owner's account: the passes split off and joined, and the pieces pushed and taken
abbrev pub owned : ℕ → ℕ → List Piece → List Piece → Account
owned split joined pushed taken =
    record { owner = true; split = split; joined = joined; pushed = pushed; taken = taken }

-- a pass's account: it was split off once, or is spent, and has taken these pieces
abbrev pub lent : ℕ → List Piece → Account
lent split taken = record { owner = false; split = split; joined = 0; pushed = []; taken = taken }

-- a pass isn't the owner, and a spent one has taken nothing
abbrev pub IsLent : Account → Type 0
IsLent v = (v.owner ≡ false) × (v.split ≡ 0 → v.taken ≡ [])

abbrev pub AreLent : List Account → Type 0
AreLent [] = Unit {0}
AreLent (v ∷ vs) = IsLent v × AreLent vs

-- however pieces are weighed, what was pushed weighs what the owner and the passes took with what
-- is held
abbrev pub Weighs : List Piece → Account → List Account → Type 0
Weighs items o ps =
    (h : Piece → ℕ)
    → sum_by h o.pushed ≡ sum_by h o.taken + sum_by (λ v. sum_by h v.taken) ps + sum_by h items

-- the rule of a lane: the first account is the owner's, and each pass that was split off is joined
-- again or among the others
abbrev pub Kept : List Piece → List Account → Type 0
Kept items [] = ⊥
Kept items (o ∷ ps) =
    (o.owner ≡ true) × (o.split ≡ o.joined + sum_by (λ v. v.split) ps) × Weighs items o ps
    × AreLent ps
