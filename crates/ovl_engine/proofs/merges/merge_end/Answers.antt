use Rattle.std.proofs.Common.{subst}
use Rattle.std.proofs.lemmas.Result.{IfOk-weaker, IfErr-weaker}
use Rattle.ovl_lookup.specs.Stacks.{StackView}
use Rattle.ovl_lookup.specs.Sound.{IsSoundStack}
use Rattle.ovl_board.specs.Pieces.{space_root}
use Rattle.ovl_pool.specs.Runs.{MayBeRefused}
use Rattle.ovl_rewrite.specs.Directories.{visited_kids}
use Rattle.ovl_rewrite.specs.Limits.{IsLayerWithinLimits}
use Rattle.ovl_merge.specs.Places.{merge_of}
use Rattle.ovl_merge.specs.MergeDown.{merged_entry}
use Rattle.ovl_merge.specs.Directories.{merge_kids}
use Rattle.ovl_commands.specs.declared.requests.Command.TheVariants.{Merge}
use Rattle.ovl_engine.specs.Outcomes.{IsFailedWalk, MayRefuseOwn}
use Rattle.ovl_engine.proofs.OutcomeLemmas.{walk-part, visited-refused}
use Rattle.ovl_engine.proofs.merges.merge_end.Goals as goal

pub returns-clause-made : goal.returns-clause-made
returns-clause-made g c =
    IfOk-weaker c.walked.result _ _ (λ end. subst (λ (s : StackView). IsSoundStack s → IsLayerWithinLimits (merged_entry (merge_of s))) c.in_ok-work.ensures.value) c.walked.ensures.made

pub returns-clause-fault : goal.returns-clause-fault
returns-clause-fault g c =
    let may_refuse = g.G.Gate.may_refuse c.args.team.now.gate.now in
    let stack = c.args.stack.now in
    IfErr-weaker c.walked.result _ _ (λ fault failed.
    walk-part (MayBeRefused (visited_kids (merge_kids stack)) may_refuse (space_root 0)) (MayRefuseOwn Merge stack may_refuse) (visited-refused (merge_kids stack) may_refuse (space_root 0)) fault
    (subst (λ (s : StackView). IsFailedWalk (MayBeRefused (visited_kids (merge_kids s)) may_refuse (space_root 0)) fault) c.in_ok-work.ensures.value failed)) c.walked.ensures.fault
