use Rattle.ovl_inode.proofs.DigitLaneLemmas.{digits-mask}
use Rattle.ovl_inode.proofs.digit_lanes.lower_lanes.Goals as goal

pub returns : goal.returns
returns c = digits-mask c.args.lanes c.fits-lanes.0
