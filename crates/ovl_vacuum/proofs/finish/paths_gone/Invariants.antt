use Rattle.std.proofs.Common.{◌≡◌}
use Rattle.ovl_lookup.specs.Words.{top_layer}
use Rattle.ovl_vacuum.specs.Passes.{IsDirectoryAbove}
use Rattle.ovl_vacuum.proofs.RowLemmas.{gone_to}
use Rattle.ovl_vacuum.proofs.finish.paths_gone.Given as goal

abbrev pub invariant-loop-number : goal.invariant-loop-number
invariant-loop-number l = record {
  gone : l.paths.items ≡ gone_to l.stack l.number;
  above : IsDirectoryAbove (top_layer l.stack) l.above;
}
