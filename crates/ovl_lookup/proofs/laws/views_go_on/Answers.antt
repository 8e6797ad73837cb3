use Rattle.ovl_lookup.proofs.ViewLemmas.{views-go_on}
use Rattle.ovl_lookup.proofs.laws.views_go_on.Goals as goal

pub returns : goal.returns
returns c = views-go_on
