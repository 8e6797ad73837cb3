use Rattle.ovl_lookup.proofs.LawsOfSplits.{relative-leads}
use Rattle.ovl_lookup.proofs.laws.relative_redirects_lead.Goals as goal

pub returns : goal.returns
returns c = relative-leads
