use Rattle.std.proofs.Common.{◌≡◌, ◌≤◌, ◌-◌, take}
use Rattle.std.specs.Str.Parse.{AllDigits, digits_value}
use Rattle.ovl_manifest.proofs.compact_texts.digits_within.Given as goal

abbrev pub invariant-loop-count : goal.invariant-loop-count
invariant-loop-count l = AllDigits 10 (take l.count l.bytes) × (l.number ≡ digits_value 10 (take l.count l.bytes)) × (l.count ≤ l.limit)

abbrev pub decreases-loop-count : goal.decreases-loop-count
decreases-loop-count l = l.limit - l.count
