use Rattle.std.proofs.Common.{List, ℕ, ◌++◌, Option, Some, None, append_assoc}
use Rattle.std.specs.Io.KnownBytes.{Consumes}
use Rattle.ovl_blobs.proofs.measuring.digest_in.Goals as goal

-- what is lost in turn is lost together
consumes-append : (old mid new : Option (List ℕ)) (bytes more : List ℕ) → Consumes old mid bytes → Consumes mid new more → Consumes old new (bytes ++ more)
consumes-append None mid new bytes more taken then = tt
consumes-append (Some all) None new bytes more taken then = elim taken [ ]
consumes-append (Some all) (Some some) None bytes more taken then = elim then [ ]
consumes-append (Some all) (Some some) (Some left) bytes more taken then = let e = append_assoc bytes more left in cc

pub returns-in_err-read_part-clause-lost : goal.returns-in_err-read_part-clause-lost
returns-in_err-read_part-clause-lost g c =
    let bytes = c.loop-reading.invariant.1.0 in
    let more = c.in_err-read_part.ensures.lost.0 in
    (bytes ++ more, consumes-append _ _ _ bytes more c.loop-reading.invariant.1.1.0 c.in_err-read_part.ensures.lost.1)
