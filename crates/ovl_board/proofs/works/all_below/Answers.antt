use Rattle.std.proofs.Common.{refl, subst, arith, below_more}
use Rattle.std.proofs.lemmas.List.{get_or_read}
use Rattle.ovl_board.specs.Pieces.{IsOneBelow}
use Rattle.ovl_board.proofs.works.all_below.Goals as goal

pub loop-kid-preserved : goal.loop-kid-preserved
loop-kid-preserved c d =
    below_more _ _ (c.loop-kid.invariant d)
    (subst (IsOneBelow c.args.piece.now) (get_or_read c.args.kids.now _ _ c.loop-kid-test.true c.kid-item.is d) (c.is_parent_of.ensures.0 c.if-not-is_parent_of.false))

pub returns : goal.returns
returns c = ((λ t k d h. c.loop-kid.invariant d k (omega arith)), λ a. refl)
