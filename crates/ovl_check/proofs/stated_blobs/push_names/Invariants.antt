use Rattle.std.proofs.Common.{◌≡◌, ◌++◌, take}
use Rattle.ovl_check.specs.Stated.{names_in}
use Rattle.ovl_check.proofs.stated_blobs.push_names.Given as goal

-- the names of the entries so far
abbrev pub invariant-loop-number : goal.invariant-loop-number
invariant-loop-number l = l.names.items ≡ l.initial.names.items ++ names_in (take l.number l.sheet)
