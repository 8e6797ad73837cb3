use Rattle.ovl_reports.proofs.DirectoryLemmas.{all_names}
use Rattle.ovl_reports.proofs.works.ShowWork.new.Goals as goal

pub returns-clause-names : goal.returns-clause-names
returns-clause-names c = all_names c.args.stack.now c.ordinary-layers.ensures.each
