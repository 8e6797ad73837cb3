use Rattle.ovl_manifest.proofs.RunLemmas.{stops-mask}
use Rattle.ovl_manifest.proofs.plain_runs.stops.Goals as goal

pub returns : goal.returns
returns c = stops-mask c.args.lanes c.fits-lanes.0
