use Rattle.std.proofs.Common.{◌≤◌}
use Rattle.ovl_vacuum.specs.Passes.{IsLeftTo}
use Rattle.ovl_vacuum.proofs.finish.layer_left.Given as goal

abbrev pub invariant-loop-number : goal.invariant-loop-number
invariant-loop-number l = record {
  some : 1 ≤ l.number;
  left : IsLeftTo l.stack l.number l.rest;
}
