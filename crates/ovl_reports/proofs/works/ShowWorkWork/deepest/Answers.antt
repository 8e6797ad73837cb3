use Rattle.ovl_reports.proofs.DirectoryLemmas.{kids_lawful}
use Rattle.ovl_reports.proofs.works.ShowWorkWork.deepest.Goals as goal

pub returns-clause-lawful : goal.returns-clause-lawful
returns-clause-lawful c = rw (← c.self.view_is) (kids_lawful c.self.inside.stack.now c.ordinary.ensures.each)
