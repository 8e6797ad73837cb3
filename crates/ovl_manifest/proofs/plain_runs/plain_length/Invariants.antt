use Rattle.std.proofs.Common.{◌-◌, ◌≤◌, length}
use Rattle.ovl_manifest.proofs.RunLemmas.{IsPlain}
use Rattle.ovl_manifest.proofs.plain_runs.plain_length.Given as goal

abbrev pub invariant-loop-place : goal.invariant-loop-place
invariant-loop-place l = IsPlain l.bytes l.place × (l.place ≤ length l.bytes)

abbrev pub decreases-loop-place : goal.decreases-loop-place
decreases-loop-place l = length l.bytes - l.place
