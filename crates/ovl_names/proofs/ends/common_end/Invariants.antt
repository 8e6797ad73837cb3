use Rattle.std.proofs.Common.{◌<◌, ◌+◌, ◌-◌, length}
use Rattle.ovl_names.specs.Ends.{HasCommonEnd}
use Rattle.ovl_names.proofs.ends.common_end.Given as goal

abbrev pub invariant-loop-common : goal.invariant-loop-common
invariant-loop-common l = record {
  common : HasCommonEnd l.common l.own l.other;
  some : 0 < l.run;
}

abbrev pub decreases-loop-common : goal.decreases-loop-common
decreases-loop-common l = length l.own - l.common

-- the bytes of the run are not all in common
abbrev pub invariant-loop-run : goal.invariant-loop-run
invariant-loop-run l = record {
  common : HasCommonEnd l.common l.own l.other;
  some : 0 < l.run;
  apart : HasCommonEnd (l.common + l.run) l.own l.other → ⊥;
}

abbrev pub decreases-loop-run : goal.decreases-loop-run
decreases-loop-run l = l.run
