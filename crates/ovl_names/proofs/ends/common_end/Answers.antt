use Rattle.std.proofs.Common.{arith}
use Rattle.ovl_names.proofs.EndLemmas.{common-none}
use Rattle.ovl_names.proofs.ends.common_end.Goals as goal

pub loop-common-init : goal.loop-common-init
loop-common-init c = record { common = common-none c.args.own.now c.args.other.now; some = omega arith }
