use Rattle.std.proofs.Common.{arith}
use Rattle.ovl_rewrite.proofs.DirectoryLemmas.{kids-lawful}
use Rattle.ovl_rewrite.proofs.KeptLemmas.{visited-lawful}
use Rattle.ovl_merge.specs.Places.{merge_of}
use Rattle.ovl_merge.specs.MergeDown.{merged_entry}
use Rattle.ovl_merge.specs.Directories.{candidate_names, merge_kids, merge_depth}
use Rattle.ovl_merge.proofs.FinishLemmas.{merge-each}
use Rattle.ovl_merge.proofs.DirectoryLemmas.{told}
use Rattle.ovl_merge.proofs.works.MergeWorkWork.deepest.Goals as goal

pub returns-clause-lawful : goal.returns-clause-lawful
returns-clause-lawful c =
    let stack = c.self.inside.stack.now in
    let m = merge_of stack in
    rw (← c.self.view_is) (visited-lawful (merge_kids stack) merge_depth (kids-lawful (merged_entry m) (candidate_names m) merge_depth (told m (merge-each stack c.self.invariant c.ordinary-layers.ensures.each)) merge_depth (omega arith)))
