use Rattle.ovl_inode.proofs.DigitLaneLemmas.{block-full}
use Rattle.ovl_inode.proofs.digit_lanes.is_lower_block.Goals as goal

pub returns : goal.returns
returns c = block-full c.args.lanes c.lower_lanes.result c.fits-lanes.0 c.lower_lanes.ensures
