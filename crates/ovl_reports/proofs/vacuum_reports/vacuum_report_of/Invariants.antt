use Rattle.std.proofs.Common.{◌≡◌, take, string_bytes}
use Rattle.std.specs.List.{flat_map}
use Rattle.ovl_reports.specs.VacuumReports.{removed_line}
use Rattle.ovl_reports.proofs.vacuum_reports.vacuum_report_of.Given as goal

-- the lines of the paths so far
abbrev pub invariant-loop-path : goal.invariant-loop-path
invariant-loop-path l = string_bytes l.report ≡ flat_map removed_line (take l.path-index l.fn.removed)
