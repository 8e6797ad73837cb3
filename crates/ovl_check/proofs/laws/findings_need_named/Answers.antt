use Rattle.ovl_check.proofs.ContentLemmas.{findings-need-named}
use Rattle.ovl_check.proofs.laws.findings_need_named.Goals as goal

pub returns : goal.returns
returns c = findings-need-named
