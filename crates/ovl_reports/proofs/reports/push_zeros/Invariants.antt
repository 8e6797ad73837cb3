use Rattle.std.proofs.Common.{◌≡◌, ◌++◌, replicate, string_bytes}
use Rattle.ovl_reports.proofs.reports.push_zeros.Given as goal

abbrev pub invariant-loop : goal.invariant-loop
invariant-loop l = string_bytes l.report ≡ string_bytes l.initial.report ++ replicate l.counter 48
