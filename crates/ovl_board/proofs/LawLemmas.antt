-- Reached pieces name by name, and that a plain walk is the only one.
use Rattle.std.proofs.Common.{◌≡◌, ℕ, List, [], ◌∷◌, ◌++◌, refl, sym, ap, ◌∙◌, subst, arith, append-nil, append_assoc, IsPermutation}
use Rattle.std.proofs.lemmas.List.Sorted.{Contains-permutation, IsPermutation-sym, IsPermutation-map, sum_by-IsPermutation}
use Rattle.ovl_names.specs.Names.{PathName}
use Rattle.ovl_names.specs.Paths.{PathNames}
use Rattle.ovl_board.specs.declared.pieces.Piece.{Piece}
use Rattle.ovl_board.specs.Pieces.{piece_at, piece_in, IsBefore, IsOneBelow, HasLawfulKids}
use Rattle.ovl_board.specs.Walks.{Reached, start, next, ToKid, StepsToKids, IsReachedByNames}
use Rattle.ovl_board.specs.Parcels.{ParcelView, parcel_view, pieces_of}
use Rattle.ovl_board.specs.Balance.{HasKid}
use Rattle.ovl_board.specs.Assembly.{bare}
use Rattle.ovl_board.specs.Laws.{ReachedByNames, BalancedHaveNoFault, InOrderHaveNoFault}
use Rattle.ovl_board.proofs.CountLemmas.{times_rising, once, all_reached, all_there}
use Rattle.ovl_board.proofs.LawsOfMembers.{Contains-In, Every-All, In-Contains, Rises-AllPairs}
use Rattle.ovl_board.proofs.LawsOfPieces.{piece_eq}
use Rattle.ovl_board.proofs.LawsOfCounts.{mark}

-- the piece to which names lead from another one
abbrev under : Piece → PathNames → Piece
under piece names = piece_at piece.space (piece.dir ++ names)

module _ (kids : Piece → List Piece) where
  steps_more : (piece : Piece) (names : PathNames) (name : PathName) → StepsToKids kids piece names → ToKid kids (under piece names) (piece_in (under piece names) name) → StepsToKids kids piece (names ++ name ∷ [])
  steps_more piece [] name steps step = (subst (λ d. ToKid kids (piece_at piece.space d) (piece_at piece.space (d ++ name ∷ []))) (append-nil piece.dir) step, tt)
  steps_more piece (n ∷ names) name steps step =
      (steps.0, steps_more (piece_in piece n) names name steps.1 (subst (λ d. ToKid kids (piece_at piece.space d) (piece_at piece.space (d ++ name ∷ []))) (sym (append_assoc piece.dir (n ∷ []) names)) step))

  steps_reach : (root piece : Piece) (names : PathNames) → Reached (ToKid kids) root piece → StepsToKids kids piece names → Reached (ToKid kids) root (under piece names)
  steps_reach root piece [] r steps = subst (λ d. Reached (ToKid kids) root (piece_at piece.space d)) (sym (append-nil piece.dir)) r
  steps_reach root piece (n ∷ names) r steps =
      subst (λ d. Reached (ToKid kids) root (piece_at piece.space d)) (append_assoc piece.dir (n ∷ []) names)
      (steps_reach root (piece_in piece n) names (next r steps.0) steps.1)

  module _ (deepest : ℕ) (law : HasLawfulKids kids deepest) where
    by_names : (root p : Piece) → Reached (ToKid kids) root p → IsReachedByNames kids root p
    by_names root _ start = (refl, ([], (sym (append-nil root.dir), tt)))
    by_names root _ (next {p = p} {q = q} r s) =
        let above = by_names root p r in
        let one = Every-All (IsOneBelow p) (kids p) (law.lawful p).below q (In-Contains q (kids p) s) in
        let names = above.1.0 in
        let name = one.1.0 in
        let parent : p ≡ under root names = piece_eq p (under root names) above.0 above.1.1.0 in
        let kid : q ≡ piece_in (under root names) name = piece_eq q (piece_in (under root names) name) (one.0 ∙ above.0) (one.1.1 ∙ ap (λ d. d ++ name ∷ []) above.1.1.0) in
        let step : ToKid kids (under root names) (piece_in (under root names) name) = subst (λ x. ToKid kids x (piece_in (under root names) name)) parent (subst (ToKid kids p) kid s) in
        (one.0 ∙ above.0, (names ++ name ∷ [], (ap (λ (x : Piece). x.dir) kid ∙ append_assoc root.dir names (name ∷ []), steps_more root names name above.1.1.1 step)))

    from_names : (root p : Piece) → IsReachedByNames kids root p → Reached (ToKid kids) root p
    from_names root p h =
        subst (Reached (ToKid kids) root) (sym (piece_eq p (under root h.1.0) h.0 h.1.1.0)) (steps_reach root root h.1.0 start h.1.1.1)

pub ReachedByNames-holds : ReachedByNames
ReachedByNames-holds kids deepest law root p = (by_names kids deepest law root p, from_names kids deepest law root p)

pub BalancedHaveNoFault-holds : BalancedHaveNoFault
BalancedHaveNoFault-holds root views lawful balance = (
  (λ p h. absurd (omega (arith, once root views lawful balance p))),
  (λ p h. h.1 (all_reached root views lawful balance p (In-Contains p (pieces_of views) h.0))),
  (λ p h. h.1 (Contains-In p (pieces_of views) (all_there root views lawful balance p h.0))),
)

pub InOrderHaveNoFault-holds : (O : Type 0) → InOrderHaveNoFault O
InOrderHaveNoFault-holds O root parcels assembled order =
    let before = pieces_of (bare parcels) in
    let after = pieces_of (bare assembled) in
    let same : IsPermutation before after = IsPermutation-map (λ (v : ParcelView (Unit {0})). v.piece) (bare parcels) (bare assembled) (IsPermutation-map (parcel_view (λ (o : O). tt {0})) parcels assembled order.0) in
    let walk = order.1 in (
      (λ p twice. absurd (omega (arith, sum_by-IsPermutation (mark p) before after same, times_rising p after (Rises-AllPairs IsBefore after walk.ascend)))),
      (λ p strange. strange.1 (Every-All (Reached (HasKid (bare parcels)) root) after walk.reached p (In-Contains p after (Contains-permutation before after p same strange.0)))),
      (λ p missing. missing.1 (Contains-permutation after before p (IsPermutation-sym before after same) (walk.whole p missing.0))),
    )
