use Rattle.ovl_lookup.proofs.TopLemmas.{views-look}
use Rattle.ovl_lookup.proofs.laws.views_look.Goals as goal

pub returns : goal.returns
returns c = views-look
