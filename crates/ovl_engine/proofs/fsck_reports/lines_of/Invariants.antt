use Rattle.std.proofs.Common.{◌≡◌, take, string_bytes}
use Rattle.std.specs.List.{flat_map}
use Rattle.ovl_engine.specs.FsckReports.{finding_line}
use Rattle.ovl_engine.proofs.fsck_reports.lines_of.Given as goal

-- the lines of the findings so far
abbrev pub invariant-loop-finding : goal.invariant-loop-finding
invariant-loop-finding l = string_bytes l.lines ≡ flat_map finding_line (take l.finding-index l.fn.found)
