use Rattle.std.proofs.Common.{sym, subst, below_more, Contains}
use Rattle.std.proofs.lemmas.List.{get_or_read}
use Rattle.ovl_board.proofs.SortLemmas.{found, unfound, before_absent}
use Rattle.ovl_board.proofs.assembly.first_absent.Goals as goal

pub loop-piece-preserved : goal.loop-piece-preserved
loop-piece-preserved c d =
    below_more _ _ (c.loop-piece.invariant d)
    (subst (Contains c.args.among.now) (get_or_read c.args.pieces.now _ _ c.loop-piece-test.true c.piece-item.is d)
    (found c.args.among.now c.piece-item.result c.requires.among c.binary_search.result c.binary_search.ensures.bound c.binary_search.ensures.position (sym c.if-is_err.ensures.value)))

pub returns-then-is_err : goal.returns-then-is_err
returns-then-is_err c = (
  (
    (c.loop-piece.piece-index, c.loop-piece-test.true, sym c.piece-item.is),
    unfound c.args.among.now c.piece-item.result c.requires.among c.binary_search.result c.binary_search.ensures.position (sym c.if-is_err.ensures.value),
  ),
  (λ q absent before. before_absent c.args.pieces.now c.args.among.now c.loop-piece.piece-index c.piece-item.result c.requires.pieces c.loop-piece.invariant c.piece-item.is q absent before),
)
