-- The report of `vacuum`: a line for each path that is removed, in path order, and how many went
-- and how many are left.
use Rattle.std.specs.Prelude.{ℕ, List, ◌++◌, length, decimal, codes}
use Rattle.std.specs.List.{flat_map}
use Rattle.ovl_names.specs.Paths.{PathNames}
use Rattle.ovl_names.specs.Escapes.{shown_path}
use Rattle.ovl_reports.specs.Reports.{spaced}

-- `removed PATH`
abbrev pub removed_line : PathNames → List ℕ
removed_line path = spaced (codes "removed") ++ shown_path path ++ codes "\n"

-- the lines, and then `removed N kept M`
abbrev pub vacuum_report : List PathNames → ℕ → List ℕ
vacuum_report removed kept =
    flat_map removed_line removed
    ++ codes "removed " ++ decimal (length removed)
    ++ codes " kept " ++ decimal kept ++ codes "\n"
