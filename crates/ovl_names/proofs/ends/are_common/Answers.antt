use Rattle.std.proofs.Common.{◌≤◌, ◌+◌, ◌-◌, length, length-take, arith}
use Rattle.ovl_names.proofs.EndLemmas.{common-in_ranges}
use Rattle.ovl_names.proofs.ends.are_common.Goals as goal

pub returns-then-other-run : goal.returns-then-other-run
returns-then-other-run c more =
    let fits : c.args.common + c.args.run ≤ length c.args.other.now = more.other_fits in
    omega (arith, fits, length-take (length c.args.other.now - c.args.common) c.args.other.now)

pub returns : goal.returns
returns c = common-in_ranges c.args.own.now c.args.other.now c.args.common c.args.run c.ends_with.result c.requires (omega arith) c.ends_with.ensures.value
