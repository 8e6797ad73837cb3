-- Laws of how often a piece is in a list.
use Rattle.std.proofs.Common.{◌≡◌, ℕ, ◌+◌, ◌≤◌, ◌⊎◌, inl, inr, cond, List, [], ◌∷◌, refl, arith}
use Rattle.std.specs.Ordering.{is_eq}
use Rattle.std.specs.declared.cmp.Ordering.{Ordering}
use Rattle.std.specs.declared.cmp.Ordering.TheVariants.{Less, Equal, Greater}
use Rattle.std.proofs.lemmas.List.Sums.{sum_by-cons}
use Rattle.ovl_board.specs.declared.pieces.Piece.{Piece}
use Rattle.ovl_board.specs.Pieces.{piece_cmp}
use Rattle.ovl_board.specs.Parcels.{ParcelView}
use Rattle.ovl_board.specs.Balance.{is_same, times, kids_in}
use Rattle.ovl_board.proofs.LawsOfMembers.{In, In-flat_map-cases}
use Rattle.ovl_board.proofs.LawsOfPieces.{same_itself, same_piece}

-- 1 at p, and 0 elsewhere
abbrev pub mark : Piece → Piece → ℕ
mark p q = cond (is_same p q) 1 0

pub mark_cases : (p q : Piece) → ((mark p q ≡ 1) × (p ≡ q)) ⊎ (mark p q ≡ 0)
mark_cases p q = by (piece_cmp p q) refl
  where
    by : (r : Ordering) → piece_cmp p q ≡ r → ((◌≡◌ {A = ℕ} (cond (is_eq r) 1 0) 1) × (p ≡ q)) ⊎ (◌≡◌ {A = ℕ} (cond (is_eq r) 1 0) 0)
    by Less e = inr refl
    by Equal e = inl (refl, same_piece p q e)
    by Greater e = inr refl

pub mark_itself : (p q : Piece) → p ≡ q → mark p q ≡ 1
mark_itself p q e = rw (← e, same_itself p)

pub times-cons : (p q : Piece) (ps : List Piece) → times p (q ∷ ps) ≡ mark p q + times p ps
times-cons p q ps = sum_by-cons (mark p) q ps

pub In-times : (p : Piece) (ps : List Piece) → In p ps → 1 ≤ times p ps
In-times p [] h = absurd h
In-times p (q ∷ ps) (inl e) = omega (arith, times-cons p q ps, mark_itself p q e)
In-times p (q ∷ ps) (inr h) = omega (arith, times-cons p q ps, In-times p ps h)

pub times-In : (p : Piece) (ps : List Piece) → 1 ≤ times p ps → In p ps
times-In p [] h = absurd (omega arith)
times-In p (q ∷ ps) h = elim (mark_cases p q) [ inl m ↦ inl m.1 | inr m ↦ inr (times-In p ps (omega (arith, times-cons p q ps))) ]

-- the parcel of which a piece is a kid
pub parcel_of_kid : {S : Type 0} (views : List (ParcelView S)) (p : Piece) → In p (kids_in views) → (v : ParcelView S) × (In v views × In p v.kids)
parcel_of_kid {S} views p h = let c = In-flat_map-cases (λ (v : ParcelView S). v.kids) p views h in (c.0, (c.1, c.2))
