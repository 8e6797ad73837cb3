use Rattle.std.proofs.Common.{◌≡◌, ◌<◌, ◌-◌, true, false, refl, ap, ◌∙◌, arith, length}
use Rattle.std.proofs.lemmas.List.{get_or_read}
use Rattle.std.specs.Ordering.{is_ge}
use Rattle.ovl_board.specs.Pieces.{IsBefore, piece_cmp}
use Rattle.ovl_board.proofs.LawsOfMembers.{AllPairs-Rises, Rises-from_adjacent}
use Rattle.ovl_board.proofs.LawsOfPieces.{before_trans, partial_ge-piece}
use Rattle.ovl_board.proofs.works.ascends.Goals as goal

pub returns : goal.returns
returns c = ((λ t. AllPairs-Rises IsBefore c.args.kids.now (Rises-from_adjacent IsBefore before_trans c.args.kids.now (λ k d h. c.loop-i.invariant k d (omega arith)))), λ a. refl)

pub returns-then-ge : goal.returns-then-ge
returns-then-ge c =
    let early : c.loop-i.i - 1 < length c.args.kids.now = omega arith in
    let first = get_or_read c.args.kids.now _ _ early c.index-kids-i.is c.index-kids-i-in-loop-i.result in (
      (λ f. let no : false ≡ true = f in cc),
      (λ up.
          let less : IsBefore c.index-kids-i.result c.index-kids-i-in-loop-i.result =
          ap (λ p. piece_cmp p c.index-kids-i-in-loop-i.result) first ∙ ap (piece_cmp _) c.index-kids-i-in-loop-i.is ∙ up (c.loop-i.i - 1) c.loop-i.i c.index-kids-i-in-loop-i.result (omega arith) (omega arith) in
          let no : true ≡ false = c.if-ge.ensures ∙ partial_ge-piece c.index-kids-i.result c.index-kids-i-in-loop-i.result ∙ ap is_ge less in cc),
    )
