use Rattle.std.proofs.Common.{◌-◌, ◌^◌, ◌<◌, List, ℕ, length}
use Rattle.std.specs.Io.KnownBytes.{Consumes}
use Rattle.ovl_blobs.specs.Measuring.{HasRead}
use Rattle.ovl_blobs.proofs.measuring.digest_in.Given as goal

-- the bytes so far are those that the reader gave
abbrev pub invariant-loop-reading : goal.invariant-loop-reading
invariant-loop-reading g l =
    (0 < length l.room)
    × ((bytes : List ℕ) × (Consumes (g.R.Read.remaining l.initial.reader) (g.R.Read.remaining l.reader) bytes × HasRead bytes l.reading))

abbrev pub decreases-loop-reading : goal.decreases-loop-reading
decreases-loop-reading g l = 2 ^ 64 - 1 - l.reading.length
