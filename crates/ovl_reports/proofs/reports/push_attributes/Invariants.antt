use Rattle.std.proofs.Common.{◌≡◌, ◌++◌, string_bytes}
use Rattle.std.specs.List.{flat_map}
use Rattle.ovl_reports.specs.Reports.{attribute_word}
use Rattle.ovl_reports.proofs.reports.push_attributes.Given as goal

abbrev pub invariant-loop-name : goal.invariant-loop-name
invariant-loop-name l =
    string_bytes l.report ++ flat_map attribute_word l.name-iterator ≡ string_bytes l.initial.report ++ flat_map attribute_word l.attrs
