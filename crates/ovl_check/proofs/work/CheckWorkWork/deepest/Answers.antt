use Rattle.ovl_check.specs.CheckViews.{check_view}
use Rattle.ovl_check.proofs.LayerFacts.{check_kids-lawful}
use Rattle.ovl_check.proofs.work.CheckWorkWork.deepest.Goals as goal

pub returns-clause-lawful : goal.returns-clause-lawful
returns-clause-lawful c = check_kids-lawful (check_view c.args.self.now) c.layers-layers.ensures.all
