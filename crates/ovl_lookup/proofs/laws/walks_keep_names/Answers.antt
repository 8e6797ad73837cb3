use Rattle.ovl_lookup.proofs.LawsOfNames.{walk-named}
use Rattle.ovl_lookup.proofs.laws.walks_keep_names.Goals as goal

pub returns : goal.returns
returns c = walk-named
