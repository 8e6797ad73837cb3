use Rattle.ovl_lookup.proofs.LawsOfWalks.{found-closes}
use Rattle.ovl_lookup.proofs.laws.files_close.Goals as goal

pub returns : goal.returns
returns c = found-closes
