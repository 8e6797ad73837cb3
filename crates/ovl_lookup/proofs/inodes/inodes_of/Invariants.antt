use Rattle.std.proofs.Common.{◌≡◌}
use Rattle.std.specs.List.{filter_map}
use Rattle.ovl_lookup.specs.ShownInodes.{named_shown}
use Rattle.ovl_lookup.proofs.inodes.inodes_of.Given as goal

abbrev pub invariant-loop-name : goal.invariant-loop-name
invariant-loop-name l = l.inodes.items ≡ filter_map named_shown l.yielded
