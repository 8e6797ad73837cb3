use Rattle.std.proofs.Common.{◌≡◌, ℕ, ◌≤◌, suc, length, drop, take}
use Rattle.std.specs.Prelude.{slice_index}
use Rattle.ovl_layer.specs.Sheets.{kid_numbers}
use Rattle.ovl_layer.proofs.kid_lists.counts_of.Given as goal

-- those of the first rows are counted
abbrev pub invariant-loop-number : goal.invariant-loop-number
invariant-loop-number l = record {
  count : length l.counts.items ≡ suc (length l.parents);
  each : (directory : ℕ) → directory ≤ length l.parents → slice_index l.counts.items directory ≡ length (kid_numbers 1 (drop 1 (take l.number l.parents)) directory);
}
