-- Sorted lists of pieces: their first double, and what a search in them says.
use Rattle.std.proofs.Common.{◌≡◌, ℕ, ◌+◌, ◌-◌, ◌<◌, ◌≤◌, inl, inr, true, false, List, [], ◌∷◌, ◌++◌, length, get_or, take, drop, refl, sym, ap, ◌∙◌, subst, arith, Contains, Result, Ok, Err, OnOk, zero, IsSorted, suc, drop-cons}
use Rattle.std.proofs.lemmas.List.{get_or-take, take-append-drop, get_or_read, length-take}
use Rattle.std.proofs.lemmas.List.Sorted.{ranks_by, searchable_from_sorted, all_adjacent_more}
use Rattle.std.proofs.lemmas.Bool.{cases_lt}
use Rattle.std.specs.List.{AllAdjacentBelow}
use Rattle.std.specs.List.Sorted.{IsBinarySearchResult, IsSearchInRange, IsSortedBy}
use Rattle.std.specs.Result.{is_err}
use Rattle.std.specs.Cmp.{IsStrictWeakOrder}
use Rattle.std.specs.Ordering.{is_lt}
use Rattle.std.specs.declared.cmp.Ordering.TheVariants.{Equal, Greater}
use Rattle.ovl_board.specs.declared.pieces.Piece.{Piece}
use Rattle.ovl_board.specs.Pieces.{piece_cmp, IsBefore}
use Rattle.ovl_board.specs.declared.works.Parcel.{Parcel}
use Rattle.ovl_board.specs.Parcels.{pieces_of}
use Rattle.ovl_board.specs.Balance.{times}
use Rattle.ovl_board.specs.Assembly.{IsLeast, IsAbsent, bare}
use Rattle.ovl_board.proofs.CountLemmas.{times-append, times_rising, times_none}
use Rattle.ovl_board.proofs.LawsOfMembers.{In, Rises, Rises-from_adjacent, Rises-parts, get_or-In}
use Rattle.ovl_board.proofs.LawsOfPieces.{IsAtMost, Rises-sorted, at_most, before_trans, before_unless_same, less_differs, piece_cmp_total, same_itself, same_piece}
use Rattle.ovl_board.proofs.LawsOfCounts.{In-times, mark_itself, times-cons}

-- a piece that is at the end of an ascending front and again right after it is the least double
pub double_least : (front back : List Piece) (p : Piece) → Rises IsAtMost (front ++ p ∷ back) → Rises IsBefore front → In p front → IsLeast (λ q. 2 ≤ times q (front ++ p ∷ back)) p
double_least front back p up once h =
    let parts = Rises-parts IsAtMost front (p ∷ back) up in (
      omega (arith, times-append p front (p ∷ back), times-cons p p back, mark_itself p p refl, In-times p front h),
      (λ q twice before.
          let behind : In q (p ∷ back) → ⊥ = elim [ inl e ↦ less_differs q p before e | inr i ↦ parts.1.0 q i before ] in
          absurd (omega (arith, times-append q front (p ∷ back), times_rising q front once, times_none q (p ∷ back) behind))),
    )

adjacent-take : (ps : List Piece) (i : ℕ) → i ≤ length ps → AllAdjacentBelow IsBefore ps i → Rises IsBefore (take i ps)
adjacent-take ps i within up = Rises-from_adjacent IsBefore before_trans (take i ps) (λ k d h.
    let below : k + 1 < i = omega (arith, length-take i ps) in
    rw (get_or-take i ps k d (omega arith), get_or-take i ps (k + 1) d below) (up k d below))

pub double_at : (ps : List Piece) (i : ℕ) (p : Piece) → IsSorted piece_cmp ps → 0 < i → i < length ps → AllAdjacentBelow IsBefore ps i
    → p ≡ get_or ps i p → p ≡ get_or ps (i - 1) p → IsLeast (λ q. 2 ≤ times q ps) p
double_at ps i p up some within ascend here before =
    let next : i + 1 ≡ suc i = omega arith in
    let whole : take i ps ++ p ∷ drop (i + 1) ps ≡ ps =
    ap (λ l. take i ps ++ l) (ap (λ q. q ∷ drop (i + 1) ps) here ∙ (ap (λ n. get_or ps i p ∷ drop n ps) next ∙ sym (drop-cons ps i p within))) ∙ take-append-drop i ps in
    let last : get_or (take i ps) (i - 1) p ≡ p = get_or-take i ps (i - 1) p (omega arith) ∙ sym before in
    subst (λ l. IsLeast (λ q. 2 ≤ times q l) p) whole
    (double_least (take i ps) (drop (i + 1) ps) p (subst (Rises IsAtMost) (sym whole) (Rises-sorted ps up)) (adjacent-take ps i (omega arith) ascend)
    (subst (λ q. In q (take i ps)) last (get_or-In (take i ps) (i - 1) p (omega (arith, length-take i ps)))))

pub ascend_more : (ps : List Piece) (i : ℕ) (p q : Piece) → IsSorted piece_cmp ps → 0 < i → i < length ps → AllAdjacentBelow IsBefore ps i
    → p ≡ get_or ps (i - 1) p → q ≡ get_or ps i q → (p ≡ q → ⊥) → AllAdjacentBelow IsBefore ps (i + 1)
ascend_more ps i p q up some within ascend e f differ =
    all_adjacent_more ps IsBefore i some ascend (λ d. before_unless_same (get_or ps (i - 1) d) (get_or ps i d) (at_most ps up (i - 1) i d (omega arith) within)
    (λ same. differ (get_or_read ps (i - 1) p (omega arith) e d ∙ same ∙ sym (get_or_read ps i q within f d))))

-- what a search in a sorted list says
module _ (ps : List Piece) (p : Piece) (up : IsSorted piece_cmp ps) where
  pub found : (r : Result ℕ ℕ) → IsSearchInRange r (length ps) → IsBinarySearchResult (λ q. piece_cmp q p) ps r → is_err r ≡ false → Contains ps p
  found (Ok i) range h e = (i, range, same_piece (get_or ps i p) p (h p))
  found (Err i) range h e = absurd (cc)

  pub unfound : (r : Result ℕ ℕ) → IsBinarySearchResult (λ q. piece_cmp q p) ps r → is_err r ≡ true → Contains ps p → ⊥
  unfound (Ok i) h e c = absurd (cc)
  unfound (Err i) h e c =
      let point = h (searchable_from_sorted piece_cmp_total (λ (q : Piece). q) ps p up) in
      elim (cases_lt c.0 i) [
        | inl lt ↦ less_differs (get_or ps c.0 p) p (point.0 c.0 p (omega arith) lt) c.2
        | inr ge ↦ greater_differs (get_or ps c.0 p) p (point.1 c.0 p ge c.1) c.2
      ]
    where
      greater_differs : (q r : Piece) → piece_cmp q r ≡ Greater → q ≡ r → ⊥
      greater_differs q r g e = let no : Greater ≡ Equal = sym g ∙ ap (piece_cmp q) (sym e) ∙ same_itself q in absurd (cc)

-- what is before the place at which a search first fails isn't absent
pub before_absent : (ps among : List Piece) (i : ℕ) (p : Piece) → IsSorted piece_cmp ps → ((d : Piece) (k : ℕ) → k < i → Contains among (get_or ps k d)) → p ≡ get_or ps i p
    → (q : Piece) → IsAbsent ps among q → IsBefore q p → ⊥
before_absent ps among i p up passed here q absent before =
    let at = absent.0 in
    elim (cases_lt at.0 i) [
      | inl lt ↦ absent.1 (subst (Contains among) at.2 (passed q at.0 lt))
      | inr ge ↦ at_most ps up i at.0 q ge at.1 (subst (λ r. IsBefore r (get_or ps i q)) (sym at.2) (subst (IsBefore q) (get_or_read ps i p (omega (arith, at.1)) here q) before))
    ]

-- parcels that are sorted by their pieces have sorted pieces
module _ {O : Type 0} where
  get_or-piece : (parcels : List (Parcel O)) (k : ℕ) (p : Piece) (e : Parcel O) → k < length parcels → get_or (pieces_of (bare parcels)) k p ≡ (get_or parcels k e).piece
  get_or-piece [] k p e h = absurd (omega arith)
  get_or-piece (x ∷ xs) zero p e h = refl
  get_or-piece (x ∷ xs) (suc k) p e h = get_or-piece xs k p e (omega arith)

  pieces_length : (parcels : List (Parcel O)) → length (pieces_of (bare parcels)) ≡ length parcels
  pieces_length [] = refl
  pieces_length (x ∷ xs) = ap suc (pieces_length xs)

  sorted_pieces : (parcels : List (Parcel O)) → IsSortedBy (λ x y. is_lt (piece_cmp x.piece y.piece)) parcels → IsSorted piece_cmp (pieces_of (bare parcels))
  sorted_pieces [] up k p z h = absurd (omega arith)
  sorted_pieces (x ∷ xs) up k p z h =
      let within : k + 1 < length (x ∷ xs) = omega (arith, pieces_length (x ∷ xs)) in
      rw (get_or-piece (x ∷ xs) k p x (omega arith), get_or-piece (x ∷ xs) (k + 1) p x within) (up k x z within)

  -- what a sort by a closure that compares pieces gives
  pub ranks_parcels : IsStrictWeakOrder (λ (x : Parcel O) (y : Parcel O). is_lt (piece_cmp x.piece y.piece))
  ranks_parcels = ranks_by piece_cmp_total (λ (x : Parcel O). x.piece)

  pub sorted-OnOk : {T E : Type 0} (r : Result T E) (parcels : List (Parcel O)) → OnOk r (IsSortedBy (λ x y. is_lt (piece_cmp x.piece y.piece)) parcels) → OnOk r (IsSorted piece_cmp (pieces_of (bare parcels)))
  sorted-OnOk (Ok x) parcels up = sorted_pieces parcels up
  sorted-OnOk (Err e) parcels up = tt
