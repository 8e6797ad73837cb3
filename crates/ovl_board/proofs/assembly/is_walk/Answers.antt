use Rattle.std.proofs.Common.{arith, ◌≡◌, ◌++◌, ◌∷◌, [], ◌∙◌, List, map, reverse, take, ap, sym, subst}
use Rattle.std.proofs.lemmas.Bool.{not-false}
use Rattle.std.proofs.lemmas.List.{map-append, take_all}
use Rattle.ovl_board.specs.declared.pieces.Piece.{Piece}
use Rattle.ovl_board.specs.Balance.{IsBalanced}
use Rattle.ovl_board.specs.Assembly.{bare}
use Rattle.ovl_board.proofs.CountLemmas.{same_from_eq}
use Rattle.ovl_board.specs.Pieces.{IsBefore}
use Rattle.ovl_board.specs.Parcels.{pieces_of}
use Rattle.ovl_board.proofs.LawsOfMembers.{Rises, AllPairs-Rises}
use Rattle.ovl_board.proofs.DescentLemmas.{Descends, opened-at, descended-at}
use Rattle.ovl_board.proofs.assembly.is_walk.Goals as goal

pub loop-parcel-preserved : goal.loop-parcel-preserved
loop-parcel-preserved g c =
    let root = c.args.root.now in
    let i = c.loop-parcel.parcel-index in
    let left = c.pop.new.self.items in
    let kept : List Piece = map (λ piece. piece.now) left in
    let same = same_from_eq c.in-Some.piece.now c.parcel-item.result.piece (sym (not-false _ (sym c.if-ne.ensures))) in
    let before : map (λ piece. piece.now) c.loop-parcel.open.items ≡ kept ++ c.parcel-item.result.piece ∷ [] =
    ap (map (λ piece. piece.now)) c.in-Some.ensures.items ∙ map-append (λ piece. piece.now) left (c.in-Some.piece ∷ []) ∙ ap (λ p. kept ++ p ∷ []) same in
    let pushed = map (λ piece. piece.now) c.push_reversed.new.waiting.items in
    let after = c.in_ok-push_reversed.ensures ∙ ap (λ kids. kept ++ reverse kids) c.deref.ensures.value in (
      opened-at root c.args.parcels.now i c.parcel-item.result c.loop-parcel-test.true c.parcel-item.is kept pushed
          (subst (IsBalanced root (bare (take i c.args.parcels.now))) before c.loop-parcel.invariant.0)
          after,
      descended-at c.args.parcels.now i c.parcel-item.result c.requires c.loop-parcel-test.true c.parcel-item.is kept pushed
          (subst (λ open_ones. Descends (pieces_of (bare (take i c.args.parcels.now))) (reverse open_ones)) before c.loop-parcel.invariant.1)
          after,
    )

pub returns-clause-ascend : goal.returns-clause-ascend
returns-clause-ascend g c = λ _.
    let parcels = c.args.parcels.now in
    let all = take_all c.loop-parcel.parcel-index parcels (omega (arith, c.loop-parcel-test.false)) in
    AllPairs-Rises IsBefore (pieces_of (bare parcels)) (subst (λ ps. Rises IsBefore (pieces_of (bare ps))) all c.loop-parcel.invariant.1.0)
