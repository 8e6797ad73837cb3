use Rattle.std.proofs.Common.{◌-◌, sym, arith, ◌∙◌}
use Rattle.ovl_board.specs.Pieces.{IsBefore}
use Rattle.ovl_board.proofs.LawsOfMembers.{AllPairs-Rises, Rises-from_adjacent}
use Rattle.ovl_board.proofs.LawsOfPieces.{before_trans}
use Rattle.ovl_board.proofs.SortLemmas.{double_at, ascend_more}
use Rattle.ovl_board.proofs.CountLemmas.{same_from_eq, differ_from_eq}
use Rattle.std.proofs.lemmas.List.{get_or_read}
use Rattle.ovl_board.proofs.assembly.first_double.Goals as goal

pub returns : goal.returns
returns c = AllPairs-Rises IsBefore c.args.pieces.now (Rises-from_adjacent IsBefore before_trans c.args.pieces.now (λ k d h. c.loop-i.invariant k d (omega arith)))

pub loop-i-preserved : goal.loop-i-preserved
loop-i-preserved c =
    ascend_more c.args.pieces.now c.loop-i.i c.index-pieces-i.result c.index-pieces-i-in-loop-i.result c.requires (omega arith) (omega arith) c.loop-i.invariant c.index-pieces-i.is c.index-pieces-i-in-loop-i.is
    (differ_from_eq c.index-pieces-i.result c.index-pieces-i-in-loop-i.result c.if-eq.ensures)

pub returns-then-eq : goal.returns-then-eq
returns-then-eq c =
    let p = c.index-pieces-i-then-eq.result in
    let first = get_or_read c.args.pieces.now (c.loop-i.i - 1) c.index-pieces-i.result (omega arith) c.index-pieces-i.is p in
    let second = get_or_read c.args.pieces.now c.loop-i.i c.index-pieces-i-in-loop-i.result c.loop-i-test.true c.index-pieces-i-in-loop-i.is p in
    let same = same_from_eq c.index-pieces-i.result c.index-pieces-i-in-loop-i.result c.if-eq.ensures in
    double_at c.args.pieces.now c.loop-i.i p c.requires (omega arith) (omega arith) c.loop-i.invariant c.index-pieces-i-then-eq.is
    (c.index-pieces-i-then-eq.is ∙ sym second ∙ sym same ∙ first)
