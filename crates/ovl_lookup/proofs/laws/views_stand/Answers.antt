use Rattle.ovl_lookup.proofs.PlaceLemmas.{views-stand}
use Rattle.ovl_lookup.proofs.laws.views_stand.Goals as goal

pub returns : goal.returns
returns c = views-stand
