use Rattle.ovl_inode.proofs.SpellLemmas.{digits-added}
use Rattle.ovl_inode.proofs.digit_lanes.digits.Goals as goal

pub returns : goal.returns
returns c = digits-added c.args.values c.fits-values.0
