-- The ends of a program whose report is written, and the exit status of each.
use Rattle.std.specs.Prelude.{ℕ, Bool, true, false}
use Rattle.ovl_program.specs.declared.output.status.Ending.{Ending}
use Rattle.ovl_program.specs.declared.output.status.Ending.TheVariants.{Clean, Faulty}

abbrev pub ending_of : Bool → Ending
ending_of true = Clean
ending_of false = Faulty

-- 1 where faults are reported
abbrev pub ending_status : Ending → ℕ
ending_status Clean = 0
ending_status Faulty = 1
