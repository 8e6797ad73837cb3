use Rattle.ovl_inode.proofs.PairLemmas.{decoded-blocks}
use Rattle.ovl_inode.proofs.digit_lanes.bytes_of_digits.Goals as goal

pub returns : goal.returns
returns c = rw (c.pair_block-front.ensures, c.pair_block-back.ensures) (decoded-blocks c.args.digits.now c.requires.count c.requires.lower)
