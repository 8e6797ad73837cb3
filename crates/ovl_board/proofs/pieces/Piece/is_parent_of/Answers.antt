use Rattle.std.proofs.Common.{◌∙◌, sym}
use Rattle.ovl_board.proofs.TreeLemmas.{one_below-decides}
use Rattle.ovl_board.proofs.pieces.Piece.is_parent_of.Goals as goal

pub returns-then-self-kid : goal.returns-then-self-kid
returns-then-self-kid c =
    let decides = one_below-decides c.args.self.now c.args.kid.now c.if-self-kid.true in
    ((λ yes. decides.0 (sym c.lies_below.ensures ∙ yes)), (λ below. c.lies_below.ensures ∙ decides.1 below))
