use Rattle.ovl_inode.proofs.PairLemmas.{values-picked}
use Rattle.ovl_inode.proofs.digit_lanes.values.Goals as goal

pub returns : goal.returns
returns c = values-picked c.args.lanes c.fits-lanes.0
