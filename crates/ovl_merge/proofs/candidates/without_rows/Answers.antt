use Rattle.std.proofs.Common.{◌∙◌, refl, ap, take_all}
use Rattle.ovl_merge.specs.Candidates.{candidates_told, unrowed}
use Rattle.ovl_merge.proofs.RowLists.{unrowed-more}
use Rattle.ovl_merge.proofs.candidates.without_rows.Goals as goal

pub loop-name-preserved : goal.loop-name-preserved
loop-name-preserved c =
    ap candidates_told c.in_ok-push.ensures.items
    ∙ unrowed-more c.args.names.now c.loop-name.name-index c.name-item.result c.loop-name-test.true c.name-item.is c.loop-name.candidates.items _ c.loop-name.invariant refl

pub returns : goal.returns
returns c = c.loop-name.invariant ∙ ap unrowed (take_all c.loop-name.name-index c.args.names.now c.loop-name-test.false)
