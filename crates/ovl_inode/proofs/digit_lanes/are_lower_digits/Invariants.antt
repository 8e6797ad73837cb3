use Rattle.std.proofs.Common.{◌≡◌, ◌-◌, ◌≤◌, length, drop}
use Rattle.std.specs.Prelude.{◌&&◌}
use Rattle.std.specs.List.{list_all}
use Rattle.ovl_inode.specs.Hexadecimal.{is_lower_digit}
use Rattle.ovl_inode.proofs.digit_lanes.are_lower_digits.Given as goal

abbrev pub invariant-loop-place : goal.invariant-loop-place
invariant-loop-place l = (list_all is_lower_digit l.text ≡ (l.are && list_all is_lower_digit (drop l.place l.text))) × (l.place ≤ length l.text)

abbrev pub decreases-loop-place : goal.decreases-loop-place
decreases-loop-place l = length l.text - l.place
