use Rattle.ovl_lookup.proofs.ViewLemmas.{views-show}
use Rattle.ovl_lookup.proofs.laws.views_show.Goals as goal

pub returns : goal.returns
returns c = views-show
