use Rattle.std.proofs.Common.{◌≡◌, ◌≤◌, length, drop}
use Rattle.std.specs.Str.{bytes_eq}
use Rattle.ovl_manifest.proofs.compact_texts.is_same.Given as goal

abbrev pub invariant-loop-i : goal.invariant-loop-i
invariant-loop-i l = (l.same ≡ bytes_eq (drop l.i l.own) (drop l.i l.other)) × (l.i ≤ length l.other)

abbrev pub decreases-loop-i : goal.decreases-loop-i
decreases-loop-i l = l.i
