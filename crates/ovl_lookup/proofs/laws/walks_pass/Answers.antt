use Rattle.ovl_lookup.proofs.LawsOfWalks.{walks-pass}
use Rattle.ovl_lookup.proofs.laws.walks_pass.Goals as goal

pub returns : goal.returns
returns c = walks-pass
