use Rattle.ovl_lookup.proofs.LawsOfSplits.{absolute-leads}
use Rattle.ovl_lookup.proofs.laws.absolute_redirects_lead.Goals as goal

pub returns : goal.returns
returns c = absolute-leads
