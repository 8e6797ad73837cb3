-- The report of `fsck`: a line for each finding, in their order, and how many are faults and how
-- many notes.
use Rattle.std.specs.Prelude.{ℕ, Bool, ◌==◌, not, List, ◌++◌, if◌then◌else◌, decimal, codes}
use Rattle.std.specs.List.{flat_map, count_by}
use Rattle.ovl_names.specs.Escapes.{shown_path}
use Rattle.ovl_check.specs.declared.findings.Code.{Code}
use Rattle.ovl_check.specs.declared.findings.Finding.{Finding}
use Rattle.ovl_check.specs.Codes.{is_fault, code_word}
use Rattle.ovl_reports.specs.Reports.{spaced}

-- `fault` or `note`
abbrev pub weight_word : Code → List ℕ
weight_word code = if is_fault code then codes "fault" else codes "note"

-- `fault CODE LAYER PATH` or `note CODE LAYER PATH`
abbrev pub finding_line : Finding → List ℕ
finding_line found =
    spaced (weight_word found.code) ++ spaced (code_word found.code) ++ spaced (decimal found.layer)
    ++ shown_path found.path ++ codes "\n"

-- how many findings are faults, and how many are notes
abbrev pub fault_count : List Finding → ℕ
fault_count found = count_by (λ one. is_fault one.code) found

abbrev pub note_count : List Finding → ℕ
note_count found = count_by (λ one. not (is_fault one.code)) found

-- no finding is a fault
abbrev pub is_clean : List Finding → Bool
is_clean found = fault_count found == 0

-- the lines, and then `faults F notes N`
abbrev pub fsck_report : List Finding → List ℕ
fsck_report found =
    flat_map finding_line found
    ++ codes "faults " ++ decimal (fault_count found)
    ++ codes " notes " ++ decimal (note_count found) ++ codes "\n"
