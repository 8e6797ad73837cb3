use Rattle.std.proofs.Common.{◌≡◌, drop}
use Rattle.ovl_lookup.specs.Trace.{things_found}
use Rattle.ovl_lookup.proofs.hits.first_on.Given as goal

-- what the layers that are left find at the path so far is what all of them find
abbrev pub invariant-loop-i : goal.invariant-loop-i
invariant-loop-i l = things_found (drop l.i l.stack.layers) l.path ≡ things_found (drop l.fn.from l.stack.layers) l.fn.path
