use Rattle.std.proofs.Common.{◌≡◌, take}
use Rattle.ovl_merge.specs.Candidates.{candidates_told, unrowed}
use Rattle.ovl_merge.proofs.candidates.without_rows.Given as goal

abbrev pub invariant-loop-name : goal.invariant-loop-name
invariant-loop-name l = candidates_told l.candidates.items ≡ unrowed (take l.name-index l.names)
