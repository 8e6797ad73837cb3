use Rattle.ovl_lookup.proofs.ViewLemmas.{views-find}
use Rattle.ovl_lookup.proofs.laws.views_find.Goals as goal

pub returns : goal.returns
returns c = views-find
