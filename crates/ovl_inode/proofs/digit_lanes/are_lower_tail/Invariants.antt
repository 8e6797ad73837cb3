use Rattle.std.proofs.Common.{◌≡◌, ◌≤◌, length, drop}
use Rattle.std.specs.List.{list_all}
use Rattle.ovl_inode.specs.Hexadecimal.{is_lower_digit}
use Rattle.ovl_inode.proofs.digit_lanes.are_lower_tail.Given as goal

abbrev pub invariant-loop-i : goal.invariant-loop-i
invariant-loop-i l = (l.are ≡ list_all is_lower_digit (drop l.i l.text)) × (l.i ≤ length l.text) × (l.from ≤ l.i)

abbrev pub decreases-loop-i : goal.decreases-loop-i
decreases-loop-i l = l.i
