-- What the pieces of parcels beside their root and kids say of the parcels.
use Rattle.std.proofs.Common.{◌≡◌, ℕ, zero, suc, ◌<◌, inl, inr, List, [], ◌∷◌, length, refl, sym, subst, arith, All, AllPairs, Contains, IsPermutation, append-nil, Result, Ok, Err, IsErrAnd, MatchResult}
use Rattle.std.proofs.lemmas.List.Sorted.{All-permutation, Contains-permutation, IsPermutation-sym, IsPermutation-map, sum_by-IsPermutation}
use Rattle.ovl_board.specs.declared.pieces.Piece.{Piece}
use Rattle.ovl_board.specs.declared.assembly.BoardFault.{BoardFault}
use Rattle.ovl_board.specs.declared.assembly.BoardFault.TheVariants.{Double, Stranger, Missing, Memory}
use Rattle.ovl_board.specs.Pieces.{IsBefore, IsOneBelow, AreLawfulKids}
use Rattle.ovl_board.specs.Walks.{Reached, start, next, IsWalk}
use Rattle.ovl_board.specs.declared.works.Parcel.{Parcel}
use Rattle.ovl_board.specs.Parcels.{ParcelView, parcel_view, pieces_of}
use Rattle.ovl_board.specs.Balance.{kids_in, AllLawful, HasKid}
use Rattle.ovl_board.specs.Assembly.{IsLeast, NoPiece, IsDouble, IsStranger, IsMissing, IsBoardFault, IsAbsent, IsListFault, AreExpected, IsInOrder, bare}
use Rattle.ovl_board.proofs.CountLemmas.{times_rising, In-or}
use Rattle.ovl_board.proofs.LawsOfMembers.{All-Every, Contains-In, Every-All, In, In-Contains, In-flat_map, In-map, Rises-AllPairs}
use Rattle.ovl_board.proofs.LawsOfPieces.{before_trans, before_under, length_below}
use Rattle.ovl_board.proofs.LawsOfCounts.{mark, parcel_of_kid}
use Rattle.ovl_board.proofs.LawsOfWalks.{reached_by}

pub before_one : (p q : Piece) → IsOneBelow p q → IsBefore p q
before_one p q b = before_under p q q b (refl, ([], sym (append-nil q.dir)))

pub least_as : (P Q : Piece → Type 0) → ((q : Piece) → P q → Q q) → ((q : Piece) → Q q → P q) → (p : Piece) → IsLeast P p → IsLeast Q p
least_as P Q to from p h = (to p h.0, λ q x. h.1 q (from q x))

module _ {S : Type 0} (root : Piece) (views : List (ParcelView S)) (lawful : AllLawful views) where
  -- pieces at which Good holds are reached, where each of them is the root or a kid, and Good goes down the order
  reached_where : (Good : Piece → Type 0) → ((p q : Piece) → Good q → IsBefore p q → Good p) → ((q : Piece) → In q (pieces_of views) → Good q → In q (root ∷ kids_in views))
      → (k : ℕ) (q : Piece) → length q.dir < k → In q (pieces_of views) → Good q → Reached (HasKid views) root q
  reached_where Good down here zero q short h good = absurd (omega arith)
  reached_where Good down here (suc k) q short h good = elim (here q h good) [
    | inl e ↦ subst (Reached (HasKid views) root) (sym e) start
    | inr i ↦
        let c = parcel_of_kid views q i in
        let one = Every-All (IsOneBelow c.0.piece) c.0.kids (Every-All (λ (v : ParcelView S). AreLawfulKids v.piece v.kids) views lawful c.0 c.1.0).below q c.1.1 in
        next (reached_where Good down here k c.0.piece (omega (arith, length_below c.0.piece q one)) (In-map (λ (v : ParcelView S). v.piece) c.0 views c.1.0) (down c.0.piece q good (before_one c.0.piece q one)))
        (c.0, (Contains-In c.0 views c.1.0, (refl, Contains-In q c.0.kids c.1.1)))
  ]

  -- what is reached is the root or a kid
  reached_expected : (q : Piece) → Reached (HasKid views) root q → In q (root ∷ kids_in views)
  reached_expected _ start = inl refl
  reached_expected _ (next {q = q} r step) = inr (In-flat_map (λ (v : ParcelView S). v.kids) q step.0 views (In-Contains step.0 views step.1.0) (In-Contains q step.0.kids step.1.1.1))

  module _ (expected : List Piece) (same : IsPermutation (root ∷ kids_in views) expected) where
    to_expected : (q : Piece) → In q (root ∷ kids_in views) → Contains expected q
    to_expected q h = Contains-permutation (root ∷ kids_in views) expected q same (Contains-In q (root ∷ kids_in views) h)

    from_expected : (q : Piece) → Contains expected q → In q (root ∷ kids_in views)
    from_expected q h = In-Contains q (root ∷ kids_in views) (Contains-permutation expected (root ∷ kids_in views) q (IsPermutation-sym (root ∷ kids_in views) expected same) h)

    no_double : AllPairs IsBefore (pieces_of views) → NoPiece (IsDouble views)
    no_double ascend p twice = absurd (omega (arith, times_rising p (pieces_of views) (Rises-AllPairs IsBefore (pieces_of views) ascend)))

    all_reached : All (Contains expected) (pieces_of views) → (q : Piece) → In q (pieces_of views) → Reached (HasKid views) root q
    all_reached all q h = reached_where (λ _. Unit {0}) (λ _ _ _ _. tt) (λ r i _. from_expected r (Every-All (Contains expected) (pieces_of views) all r i)) (suc (length q.dir)) q (omega arith) h tt

    no_stranger : All (Contains expected) (pieces_of views) → NoPiece (IsStranger root views)
    no_stranger all p h = h.1 (all_reached all p (In-Contains p (pieces_of views) h.0))

    stranger : (p : Piece) → IsLeast (IsAbsent (pieces_of views) expected) p → IsLeast (IsStranger root views) p
    stranger p h = (
      (h.0.0, λ r. h.0.1 (to_expected p (reached_expected p r))),
      (λ q strange before.
          strange.1 (reached_where (λ r. IsBefore r p) (λ r s good b. before_trans r s p b good) here (suc (length q.dir)) q (omega arith) (In-Contains q (pieces_of views) strange.0) before)),
    )
      where
        here : (r : Piece) → In r (pieces_of views) → IsBefore r p → In r (root ∷ kids_in views)
        here r i good = elim (In-or r (root ∷ kids_in views)) [
          | inl there ↦ there
          | inr none ↦ absurd (h.1 r (Contains-In r (pieces_of views) i, λ c. none (from_expected r c)) good)
        ]

    missing : All (Contains expected) (pieces_of views) → (p : Piece) → IsLeast (IsAbsent expected (pieces_of views)) p → IsLeast (IsMissing root views) p
    missing all = least_as (IsAbsent expected (pieces_of views)) (IsMissing root views)
        (λ q h. (reach q (from_expected q h.0), h.1))
        (λ q h. (to_expected q (reached_expected q h.0), h.1))
      where
        reach : (q : Piece) → In q (root ∷ kids_in views) → Reached (HasKid views) root q
        reach q (inl e) = subst (Reached (HasKid views) root) (sym e) start
        reach q (inr i) =
            let c = parcel_of_kid views q i in
            next (all_reached all c.0.piece (In-map (λ (v : ParcelView S). v.piece) c.0 views c.1.0)) (c.0, (Contains-In c.0 views c.1.0, (refl, Contains-In q c.0.kids c.1.1)))

    pub IsWalk-expected : AreExpected (pieces_of views) expected → IsWalk (HasKid views) root (pieces_of views)
    IsWalk-expected h = record {
      ascend = h.0;
      reached = All-Every (Reached (HasKid views) root) (pieces_of views) (all_reached h.1);
      whole = λ q r. Every-All (Contains (pieces_of views)) expected h.2 q (In-Contains q expected (to_expected q (reached_expected q r)));
    }

    pub IsBoardFault-list : (fault : BoardFault) → IsListFault (pieces_of views) expected fault → IsBoardFault root views fault
    IsBoardFault-list (Double p) h = h
    IsBoardFault-list (Stranger p) h = (no_double h.0, stranger p h.1)
    IsBoardFault-list (Missing p) h = (no_double h.0, no_stranger h.1, missing h.1 p h.2)
    IsBoardFault-list Memory h = tt

-- parcels in another order have the same pieces, kids and faults
module _ {S : Type 0} (root : Piece) (views moved : List (ParcelView S)) (same : IsPermutation views moved) where
  has_kid : (p q : Piece) → HasKid views p q → HasKid moved p q
  has_kid p q h = (h.0, (Contains-permutation views moved h.0 same h.1.0, h.1.1))

  pieces_same : IsPermutation (pieces_of views) (pieces_of moved)
  pieces_same = IsPermutation-map (λ (v : ParcelView S). v.piece) views moved same

  reached_moved : (q : Piece) → Reached (HasKid views) root q → Reached (HasKid moved) root q
  reached_moved q r = reached_by (HasKid views) (HasKid moved) has_kid root q r

  contains_moved : (q : Piece) → Contains (pieces_of views) q → Contains (pieces_of moved) q
  contains_moved q h = Contains-permutation (pieces_of views) (pieces_of moved) q pieces_same h

  double_moved : (q : Piece) → IsDouble views q → IsDouble moved q
  double_moved q h = omega (arith, sum_by-IsPermutation (mark q) (pieces_of views) (pieces_of moved) pieces_same)

module _ {S : Type 0} (root : Piece) (views moved : List (ParcelView S)) (same : IsPermutation views moved) where
  back : IsPermutation moved views
  back = IsPermutation-sym views moved same

  stranger_moved : (q : Piece) → IsStranger root views q → IsStranger root moved q
  stranger_moved q h = (contains_moved root views moved same q h.0, λ r. h.1 (reached_moved root moved views back q r))

  missing_moved : (q : Piece) → IsMissing root views q → IsMissing root moved q
  missing_moved q h = (reached_moved root views moved same q h.0, λ c. h.1 (contains_moved root moved views back q c))

module _ {S : Type 0} (root : Piece) (views moved : List (ParcelView S)) (same : IsPermutation views moved) where
  turned : IsPermutation moved views
  turned = IsPermutation-sym views moved same

  none_as : (P Q : Piece → Type 0) → ((q : Piece) → Q q → P q) → NoPiece P → NoPiece Q
  none_as P Q from h q x = h q (from q x)

  pub IsBoardFault-moved : (fault : BoardFault) → IsBoardFault root moved fault → IsBoardFault root views fault
  IsBoardFault-moved (Double p) h = least_as (IsDouble moved) (IsDouble views) (double_moved root moved views turned) (double_moved root views moved same) p h
  IsBoardFault-moved (Stranger p) h = (
    none_as (IsDouble moved) (IsDouble views) (double_moved root views moved same) h.0,
    least_as (IsStranger root moved) (IsStranger root views) (stranger_moved root moved views turned) (stranger_moved root views moved same) p h.1,
  )
  IsBoardFault-moved (Missing p) h = (
    none_as (IsDouble moved) (IsDouble views) (double_moved root views moved same) h.0,
    none_as (IsStranger root moved) (IsStranger root views) (stranger_moved root views moved same) h.1,
    least_as (IsMissing root moved) (IsMissing root views) (missing_moved root moved views turned) (missing_moved root views moved same) p h.2,
  )
  IsBoardFault-moved Memory h = tt

  pub IsWalk-moved : (pieces : List Piece) → IsWalk (HasKid moved) root pieces → IsWalk (HasKid views) root pieces
  IsWalk-moved pieces walk = record {
    ascend = walk.ascend;
    reached = All-Every (Reached (HasKid views) root) pieces (λ q h. reached_moved root moved views turned q (Every-All (Reached (HasKid moved) root) pieces walk.reached q h));
    whole = λ q r. walk.whole q (reached_moved root views moved same q r);
  }

-- what an assembly answers where the pieces in order were compared with the expected ones
module _ {O : Type 0} (root : Piece) (parcels sorted : List (Parcel O)) (lawful : AllLawful (bare parcels)) (same : IsPermutation parcels sorted)
    (expected : List Piece) (all : IsPermutation (root ∷ kids_in (bare sorted)) expected) where
  bare_same : IsPermutation (bare parcels) (bare sorted)
  bare_same = IsPermutation-map (parcel_view (λ (o : O). tt {0})) parcels sorted same

  lawful_sorted : AllLawful (bare sorted)
  lawful_sorted = All-permutation (λ (v : ParcelView (Unit {0})). AreLawfulKids v.piece v.kids) (bare parcels) (bare sorted) bare_same lawful

  pub fault-assembled : (pieces : List Piece) → pieces ≡ pieces_of (bare sorted) → (fault : BoardFault) → IsListFault pieces expected fault → IsBoardFault root (bare parcels) fault
  fault-assembled pieces e fault h =
      IsBoardFault-moved root (bare parcels) (bare sorted) bare_same fault (IsBoardFault-list root (bare sorted) lawful_sorted expected all fault (subst (λ ps. IsListFault ps expected fault) e h))

  pub order-assembled : (pieces : List Piece) → pieces ≡ pieces_of (bare sorted) → AreExpected pieces expected → IsInOrder root parcels sorted
  order-assembled pieces e h = (
    same,
    IsWalk-moved root (bare parcels) (bare sorted) bare_same (pieces_of (bare sorted)) (IsWalk-expected root (bare sorted) lawful_sorted expected all (subst (λ ps. AreExpected ps expected) e h)),
  )

pub err_as : {T E : Type 0} (r : Result T E) (x : E) (P : T → Type 0) (Q : E → Type 0) → IsErrAnd r (λ fault. fault ≡ x) → Q x → MatchResult r P Q
err_as (Ok v) x P Q h q = absurd h
err_as (Err e) x P Q h q = subst Q (sym h) q
