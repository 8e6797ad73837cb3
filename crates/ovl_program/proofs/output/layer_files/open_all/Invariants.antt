use Rattle.std.proofs.Common.{◌≡◌, ◌≤◌, length, vec_len}
use Rattle.std.specs.Prelude.{vec_capacity}
use Rattle.ovl_program.proofs.output.layer_files.open_all.Given as goal

-- the files so far, and room for all
abbrev pub invariant-loop-index : goal.invariant-loop-index
invariant-loop-index g l = (vec_len l.files ≡ l.index) × (length l.paths ≤ vec_capacity l.files)
