use Rattle.ovl_lookup.proofs.LawsOfWalks.{passes-over}
use Rattle.ovl_lookup.proofs.laws.walks_pass_over.Goals as goal

pub returns : goal.returns
returns c = passes-over
