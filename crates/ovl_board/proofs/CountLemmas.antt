-- What the balance says once nothing is open: each reached piece has one parcel, and no other piece has one.
use Rattle.std.proofs.Common.{◌≡◌, ℕ, zero, suc, ◌+◌, ◌-◌, ◌<◌, ◌≤◌, ◌⊎◌, inl, inr, Bool, true, false, eqb, ◌&&◌, eq-eqb, List, [], ◌∷◌, ◌++◌, length, min, refl, sym, ap, ◌∙◌, subst, arith, IsPermutation}
use Rattle.std.proofs.lemmas.Bool.{cases_lt, eqb-true}
use Rattle.std.proofs.lemmas.List.Sums.{sum_by-append}
use Rattle.std.proofs.lemmas.List.Sorted.{IsPermutation-refl, IsPermutation-cons, IsPermutation-trans, IsPermutation-sym, IsPermutation-middle}
use Rattle.ovl_names.specs.Paths.{path_eq}
use Rattle.ovl_board.specs.declared.pieces.Piece.{Piece}
use Rattle.ovl_board.specs.Pieces.{piece_at, IsBefore, IsOneBelow, AreLawfulKids}
use Rattle.ovl_board.specs.Walks.{Reached, start, next}
use Rattle.ovl_board.specs.Parcels.{ParcelView, pieces_of}
use Rattle.ovl_board.specs.Balance.{times, kids_in, IsBalanced, AllLawful, HasKid}
use Rattle.ovl_board.proofs.LawsOfMembers.{Contains-In, Every, Every-All, In, In-Contains, In-flat_map, In-map, In-split, Rises, Rises-AllPairs}
use Rattle.ovl_board.proofs.LawsOfPieces.{length_below, less_differs, path_eq_decides, piece_eq, snoc_same, snoc_view}
use Rattle.ovl_board.proofs.LawsOfCounts.{In-times, mark, mark_cases, mark_itself, parcel_of_kid, times-In, times-cons}

pub times-append : (p : Piece) (ps qs : List Piece) → times p (ps ++ qs) ≡ times p ps + times p qs
times-append p ps qs = sum_by-append (mark p) ps qs

pub times_none : (p : Piece) (ps : List Piece) → (In p ps → ⊥) → times p ps ≡ 0
times_none p [] h = refl
times_none p (q ∷ ps) h = elim (mark_cases p q) [ inl m ↦ absurd (h (inl m.1)) | inr m ↦ omega (arith, times-cons p q ps, m, times_none p ps (λ i. h (inr i))) ]

-- a piece is in a list, or it doesn't
pub In-or : (p : Piece) (ps : List Piece) → In p ps ⊎ (In p ps → ⊥)
In-or p ps = elim (cases_lt 0 (times p ps)) [ inl some ↦ inl (times-In p ps (omega arith)) | inr none ↦ inr (λ i. absurd (omega (arith, In-times p ps i))) ]

-- a strictly ascending list has each piece once
pub times_rising : (p : Piece) (ps : List Piece) → Rises IsBefore ps → times p ps ≤ 1
times_rising p [] r = omega arith
times_rising p (q ∷ ps) r = elim (mark_cases p q) [
  | inl m ↦ omega (arith, times-cons p q ps, m.0, times_none p ps (λ i. less_differs q p (r.0 p i) (sym m.1)))
  | inr m ↦ omega (arith, times-cons p q ps, m, times_rising p ps r.1)
]

-- two lists that have each piece equally often are one another's permutation
pub IsPermutation-from_times : (ps qs : List Piece) → ((p : Piece) → times p ps ≡ times p qs) → IsPermutation ps qs
IsPermutation-from_times [] [] h = IsPermutation-refl []
IsPermutation-from_times [] (q ∷ qs) h = absurd (omega (arith, h q, times-cons q q qs, mark_itself q q refl))
IsPermutation-from_times (p ∷ ps) qs h =
    let s = In-split p qs (times-In p qs (omega (arith, h p, times-cons p p ps, mark_itself p p refl))) in
    let rest : IsPermutation ps (s.0 ++ s.1.0) = IsPermutation-from_times ps (s.0 ++ s.1.0) (λ q.
    omega (arith, h q, times-cons q p ps, ap (times q) s.1.1, times-append q s.0 (p ∷ s.1.0), times-cons q p s.1.0, times-append q s.0 s.1.0)) in
    let middle : IsPermutation (p ∷ (s.0 ++ s.1.0)) (s.0 ++ p ∷ s.1.0) = IsPermutation-sym (s.0 ++ p ∷ s.1.0) (p ∷ (s.0 ++ s.1.0)) (IsPermutation-middle s.0 p s.1.0) in
    subst (IsPermutation (p ∷ ps)) (sym s.1.1) (IsPermutation-trans (p ∷ ps) (p ∷ (s.0 ++ s.1.0)) (s.0 ++ p ∷ s.1.0) (IsPermutation-cons p ps (s.0 ++ s.1.0) rest) middle)

pub same_parent : (p q kid : Piece) → IsOneBelow p kid → IsOneBelow q kid → p ≡ q
same_parent p q kid a b = piece_eq p q (sym a.0 ∙ b.0) (snoc_same p.dir q.dir a.1.0 b.1.0 (sym a.1.1 ∙ b.1.1))

module _ {S : Type 0} (root : Piece) (views : List (ParcelView S)) (lawful : AllLawful views) (balanced : IsBalanced root views []) where
  balance_at : (p : Piece) → times p (pieces_of views) ≡ mark p root + times p (kids_in views)
  balance_at p = omega (arith, balanced p, times-cons p root (kids_in views), times-append p (pieces_of views) [])

  -- a piece is among kids no more often than the piece above it has parcels
  kids_of_parent : (p d : Piece) → IsOneBelow d p → (vs : List (ParcelView S)) → Every (λ (v : ParcelView S). AreLawfulKids v.piece v.kids) vs → times p (kids_in vs) ≤ times d (pieces_of vs)
  kids_of_parent p d below [] law = omega arith
  kids_of_parent p d below (v ∷ vs) law =
      let a = law v (inl refl) in
      let more = kids_of_parent p d below vs (λ w i. law w (inr i)) in
      let once = times_rising p v.kids (Rises-AllPairs IsBefore v.kids a.ascend) in
      let split = times-append p v.kids (kids_in vs) in
      let first = times-cons d v.piece (pieces_of vs) in
      elim (mark_cases d v.piece) [
        | inl m ↦ omega (arith, m.0)
        | inr m ↦ let none = times_none p v.kids (λ i. let e = same_parent d v.piece p below (Every-All (IsOneBelow v.piece) v.kids a.below p i) in absurd (omega (arith, m, mark_itself d v.piece e))) in omega (arith, m)
      ]

  root_no_kid : (p : Piece) → p.dir ≡ [] → (vs : List (ParcelView S)) → Every (λ (v : ParcelView S). AreLawfulKids v.piece v.kids) vs → times p (kids_in vs) ≡ 0
  root_no_kid p e [] law = refl
  root_no_kid p e (v ∷ vs) law =
      let a = law v (inl refl) in
      let none = times_none p v.kids (λ i. let l = length_below v.piece p (Every-All (IsOneBelow v.piece) v.kids a.below p i) in absurd (omega (arith, ap length e))) in
      omega (arith, times-append p v.kids (kids_in vs), root_no_kid p e vs (λ w i. law w (inr i)))

  each : Every (λ (v : ParcelView S). AreLawfulKids v.piece v.kids) views
  each = Every-All (λ (v : ParcelView S). AreLawfulKids v.piece v.kids) views lawful

  -- no piece above the root, and none twice
  bounded : (k : ℕ) (p : Piece) → length p.dir < k → times p (pieces_of views) ≤ min 1 (length p.dir + 1 - length root.dir)
  bounded zero p short = absurd (omega arith)
  bounded (suc k) p short = elim (snoc_view p.dir) [
    | inl e ↦ top e
    | inr w ↦ let d = piece_at p.space w.0 in let down : IsOneBelow d p = (refl, (w.1.0, w.1.1)) in
        let len = length_below d p down in
        inside d len (kids_of_parent p d down views each) (bounded k d (omega arith))
  ]
    where
      top : p.dir ≡ [] → times p (pieces_of views) ≤ min 1 (length p.dir + 1 - length root.dir)
      top e = elim (mark_cases p root) [
        | inl m ↦ omega (arith, balance_at p, m.0, root_no_kid p e views each, ap (λ (q : Piece). length q.dir) m.1)
        | inr m ↦ omega (arith, balance_at p, m, root_no_kid p e views each)
      ]

      inside : (d : Piece) → length p.dir ≡ length d.dir + 1 → times p (kids_in views) ≤ times d (pieces_of views) → times d (pieces_of views) ≤ min 1 (length d.dir + 1 - length root.dir) → times p (pieces_of views) ≤ min 1 (length p.dir + 1 - length root.dir)
      inside d len few ih = elim (mark_cases p root) [
        | inl m ↦ omega (arith, balance_at p, m.0, ap (λ (q : Piece). length q.dir) m.1)
        | inr m ↦ omega (arith, balance_at p, m)
      ]

  pub once : (p : Piece) → times p (pieces_of views) ≤ 1
  once p = let b = bounded (suc (length p.dir)) p (omega arith) in omega arith

  reached_in : (k : ℕ) (p : Piece) → length p.dir < k → In p (pieces_of views) → Reached (HasKid views) root p
  reached_in zero p short h = absurd (omega arith)
  reached_in (suc k) p short h = elim (mark_cases p root) [
    | inl m ↦ subst (Reached (HasKid views) root) (sym m.1) start
    | inr m ↦
        let c = parcel_of_kid views p (times-In p (kids_in views) (omega (arith, balance_at p, m, In-times p (pieces_of views) h))) in
        let a = each c.0 c.1.0 in
        let len = length_below c.0.piece p (Every-All (IsOneBelow c.0.piece) c.0.kids a.below p c.1.1) in
        next (reached_in k c.0.piece (omega arith) (In-map (λ (v : ParcelView S). v.piece) c.0 views c.1.0))
        (c.0, (Contains-In c.0 views c.1.0, (refl, Contains-In p c.0.kids c.1.1)))
  ]

  pub all_reached : Every (Reached (HasKid views) root) (pieces_of views)
  all_reached p h = reached_in (suc (length p.dir)) p (omega arith) h

  pub all_there : (p : Piece) → Reached (HasKid views) root p → In p (pieces_of views)
  all_there _ start = times-In root (pieces_of views) (omega (arith, balance_at root, mark_itself root root refl))
  all_there _ (next {q = q} r step) =
      let v = step.0 in
      let k = In-flat_map (λ (w : ParcelView S). w.kids) q v views (In-Contains v views step.1.0) (In-Contains q v.kids step.1.1.1) in
      times-In q (pieces_of views) (omega (arith, balance_at q, In-times q (kids_in views) k))

-- what a test of two pieces says
and_true : (a b : Bool) → true ≡ (a && b) → (a ≡ true) × (b ≡ true)
and_true true b e = (refl, sym e)
and_true false b e = absurd (cc)

pub same_from_eq : (p q : Piece) → true ≡ (eqb p.space q.space && path_eq p.dir q.dir) → p ≡ q
same_from_eq p q e =
    let both = and_true (eqb p.space q.space) (path_eq p.dir q.dir) e in
    piece_eq p q (eqb-true p.space q.space both.0) ((path_eq_decides p.dir q.dir).0 both.1)

pub differ_from_eq : (p q : Piece) → false ≡ (eqb p.space q.space && path_eq p.dir q.dir) → p ≡ q → ⊥
differ_from_eq p q e same =
    let space : eqb p.space q.space ≡ true = eq-eqb p.space q.space (ap (λ (r : Piece). r.space) same) in
    let dir = (path_eq_decides p.dir q.dir).1 (ap (λ (r : Piece). r.dir) same) in
    let no : false ≡ true = e ∙ ap (λ b. b && path_eq p.dir q.dir) space ∙ dir in absurd (cc)
