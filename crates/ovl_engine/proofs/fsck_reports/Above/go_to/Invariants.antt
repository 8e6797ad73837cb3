use Rattle.std.proofs.Common.{◌≡◌, ◌++◌, string_bytes}
use Rattle.ovl_reports.specs.Reports.{shown_names}
use Rattle.ovl_engine.proofs.fsck_reports.Above.go_to.Given as goal

-- the text so far, with that of the names that are left
abbrev pub invariant-loop-name : goal.invariant-loop-name
invariant-loop-name l = string_bytes l.text ++ shown_names l.name-iterator ≡ shown_names l.directory
