-- Worked reports of `vacuum`, computed.
use Rattle.std.specs.Prelude.{◌≡◌, [], ◌∷◌, codes, refl}
use Rattle.std.specs.Fmt.{digits}
use Rattle.hex.specs.Hex.{encode_with}
use Rattle.ovl_reports.specs.VacuumReports.{vacuum_report}

nothing_removed : vacuum_report [] 1 ≡ codes "removed 0 kept 1\n"
unfolding digits
nothing_removed = refl

directory_and_file_removed : vacuum_report ((codes "d" ∷ []) ∷ (codes "d" ∷ codes "k" ∷ []) ∷ []) 1 ≡ codes "removed /d\nremoved /d/k\nremoved 2 kept 1\n"
unfolding digits
directory_and_file_removed = refl

file_removed : vacuum_report ((codes "d" ∷ codes "a b" ∷ []) ∷ []) 12 ≡ codes "removed /d/a\\x20b\nremoved 1 kept 12\n"
unfolding digits encode_with
file_removed = refl
