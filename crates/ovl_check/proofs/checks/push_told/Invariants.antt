use Rattle.std.proofs.Common.{◌≡◌, ◌++◌, map, take}
use Rattle.std.specs.Prelude.{◌&&◌, filter}
use Rattle.ovl_check.specs.Checks.{sought_in}
use Rattle.ovl_check.specs.Findings.{finding}
use Rattle.ovl_check.specs.Facts.{entry_path, tells}
use Rattle.ovl_check.proofs.checks.push_told.Given as goal

abbrev pub invariant-loop-code : goal.invariant-loop-code
invariant-loop-code l = l.findings.items ≡ l.initial.findings.items ++ map (finding l.layer (entry_path l.place)) (filter (λ code. sought_in l.stack l.layer code && tells l.facts code) (take l.code-index l.codes))
