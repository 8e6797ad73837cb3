use Rattle.std.proofs.Common.{◌≡◌}
use Rattle.ovl_lookup.proofs.stacks.sheets_of.Given as goal

abbrev pub invariant-loop-layer : goal.invariant-loop-layer
invariant-loop-layer l = l.sheets.items ≡ l.yielded
