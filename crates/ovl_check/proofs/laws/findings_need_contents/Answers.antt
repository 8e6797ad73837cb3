use Rattle.ovl_check.proofs.ContentLemmas.{findings-need}
use Rattle.ovl_check.proofs.laws.findings_need_contents.Goals as goal

pub returns : goal.returns
returns c = findings-need
