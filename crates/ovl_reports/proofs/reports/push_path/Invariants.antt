use Rattle.std.proofs.Common.{◌≡◌, ◌++◌, string_bytes}
use Rattle.std.specs.Prelude.{codes}
use Rattle.std.specs.List.{flat_map}
use Rattle.ovl_names.specs.Escapes.{escaped}
use Rattle.ovl_reports.proofs.reports.push_path.Given as goal

-- what is written, with the names that are left, is all names
abbrev pub invariant-loop-name : goal.invariant-loop-name
invariant-loop-name l =
    string_bytes l.report ++ flat_map (λ own. codes "/" ++ escaped own) l.name-iterator ≡ string_bytes l.initial.report ++ flat_map (λ own. codes "/" ++ escaped own) l.path
