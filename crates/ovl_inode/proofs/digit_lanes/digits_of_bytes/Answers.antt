use Rattle.ovl_inode.proofs.SpellLemmas.{digits-paired}
use Rattle.ovl_inode.proofs.digit_lanes.digits_of_bytes.Goals as goal

pub returns : goal.returns
returns c = digits-paired c.args.bytes.now c.digits-high.result c.digits-low.result c.told-bytes c.fits-bytes c.digits-high.ensures c.digits-low.ensures
