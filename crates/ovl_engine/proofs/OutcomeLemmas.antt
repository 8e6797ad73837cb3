-- What a run that fails is reported as, and numbers within their limits.
use Rattle.std.proofs.Common.{◌≡◌, ◌≢◌, ◌⊎◌, inl, inr, ℕ, ◌+◌, ◌-◌, ◌<◌, ◌≤◌, true, Result, Ok, Err, List, refl, sym, subst, arith}
use Rattle.ovl_lookup.specs.Stacks.{StackView}
use Rattle.ovl_board.specs.declared.assembly.BoardFault.{BoardFault}
use Rattle.ovl_board.specs.declared.assembly.BoardFault.TheVariants.{Double, Stranger, Missing, Memory as BoardMemory}
use Rattle.ovl_pool.specs.declared.runs.RunFault.{RunFault}
use Rattle.ovl_pool.specs.declared.runs.RunFault.TheVariants.{Workers, Gate, Board, Memory}
use Rattle.ovl_board.specs.declared.pieces.Piece.{Piece}
use Rattle.ovl_board.specs.Pieces.{space_root}
use Rattle.ovl_pool.specs.Runs.{IsBoardMemory, MayBeRefused}
use Rattle.ovl_rewrite.specs.Directories.{visited_kids}
use Rattle.ovl_rewrite.specs.declared.faults.RewriteFault.{RewriteFault}
use Rattle.ovl_rewrite.specs.declared.faults.RewriteFault.TheVariants.{LimitOut as LimitPassed, Memory as NoMemory}
use Rattle.ovl_rewrite.proofs.KeptLemmas.{visited-reached}
use Rattle.ovl_check.specs.declared.findings.Finding.{Finding}
use Rattle.ovl_commands.specs.declared.requests.Command.{Command}
use Rattle.ovl_commands.specs.declared.requests.Answer.{Answer}
use Rattle.ovl_engine.specs.declared.faults.EngineFault.{EngineFault}
use Rattle.ovl_engine.specs.declared.faults.EngineFault.TheVariants.{Workers as NoWorkers, Layers, Layer, BlobOrder, BlobSize, NoLower, Faulty, LimitOut, Run, Memory as WantsMemory, DataLayers}
use Rattle.ovl_engine.specs.Refusals.{failed_deref, failed_run}
use Rattle.ovl_commands.specs.Commands.{makes_layers}
use Rattle.ovl_engine.specs.Outcomes.{IsFailedRun, IsFailedWalk, IsFailure, IsLimitedOut, IsUnclean, IsRun}

module _ (refused : Type 0) where
  board_failed : (fault : BoardFault) → fault ≡ BoardMemory → IsFailedWalk refused (failed_run (Board fault))
  board_failed (Double p) memory = let bad : Double p ≡ BoardMemory = memory in cc
  board_failed (Stranger p) memory = let bad : Stranger p ≡ BoardMemory = memory in cc
  board_failed (Missing p) memory = let bad : Missing p ≡ BoardMemory = memory in cc
  board_failed BoardMemory memory = tt

  -- a run that fails for another cause than its workers' number
  pub failed : (fault : RunFault) → fault ≢ Workers → (fault ≡ Gate → refused) → IsBoardMemory fault → IsFailedWalk refused (failed_run fault)
  failed Workers workers gate board = absurd (workers refl)
  failed Gate workers gate board = gate refl
  failed (Board fault) workers gate board = board_failed fault board
  failed Memory workers gate board = tt

  -- a walk that isn't done keeps a command from its work, whatever is found
  pub unwalked : (command : Command) (stack : StackView) (found : List Finding) (fault : EngineFault) → IsFailedWalk refused fault → IsFailure command stack found refused fault
  unwalked command stack found (Run fault) is = is
  unwalked command stack found WantsMemory is = tt
  unwalked command stack found (Faulty report) is = absurd is
  unwalked command stack found LimitOut is = absurd is
  unwalked command stack found NoWorkers is = is
  unwalked command stack found Layers is = is
  unwalked command stack found (Layer index fault) is = is
  unwalked command stack found BlobOrder is = is
  unwalked command stack found BlobSize is = is
  unwalked command stack found NoLower is = is
  unwalked command stack found DataLayers is = is

  -- nor does a new layer that isn't made, where that passes a limit or memory ran out
  pub unfinished : (command : Command) (stack : StackView) (found : List Finding) (fault : EngineFault) → (fault ≡ LimitOut) ⊎ (fault ≡ WantsMemory) → (fault ≡ LimitOut → IsLimitedOut command stack found) → IsFailure command stack found refused fault
  unfinished command stack found fault (inl out) limited = subst (IsFailure command stack found refused) (sym out) (limited out)
  unfinished command stack found fault (inr memory) limited = subst (IsFailure command stack found refused) (sym memory) tt

  pub unmade : (command : Command) (stack : StackView) (found : List Finding) (fault : RewriteFault) → (fault ≡ LimitPassed → IsLimitedOut command stack found) → IsFailure command stack found refused (failed_deref fault)
  unmade command stack found LimitPassed limited = limited refl
  unmade command stack found NoMemory limited = tt

  -- nor is a command done that makes layers where a fault is found
  pub unclean : (command : Command) → makes_layers command ≡ true → (stack : StackView) (found : List Finding) (fault : EngineFault) → IsUnclean found fault → IsFailure command stack found refused fault
  unclean command makes stack found (Faulty report) is = (makes, is.0, is.1)
  unclean command makes stack found WantsMemory is = tt
  unclean command makes stack found LimitOut is = absurd is
  unclean command makes stack found (Run fault) is = absurd is
  unclean command makes stack found NoWorkers is = is
  unclean command makes stack found Layers is = is
  unclean command makes stack found (Layer index fault) is = is
  unclean command makes stack found BlobOrder is = is
  unclean command makes stack found BlobSize is = is
  unclean command makes stack found NoLower is = is
  unclean command makes stack found DataLayers is = is

-- what a gate may refuse in a part it may refuse in the whole
module _ (part whole : Type 0) (of_part : part → whole) where
  run-part : (fault : RunFault) → IsFailedRun part fault → IsFailedRun whole fault
  run-part Workers is = is
  run-part Gate is = of_part is
  run-part (Board fault) is = is
  run-part Memory is = is

  pub walk-part : (fault : EngineFault) → IsFailedWalk part fault → IsFailedWalk whole fault
  walk-part (Run fault) is = run-part fault is
  walk-part WantsMemory is = tt
  walk-part (Faulty report) is = is
  walk-part LimitOut is = is
  walk-part NoWorkers is = is
  walk-part Layers is = is
  walk-part (Layer index fault) is = is
  walk-part BlobOrder is = is
  walk-part BlobSize is = is
  walk-part NoLower is = is
  walk-part DataLayers is = is

  pub failure-part : (command : Command) (stack : StackView) (found : List Finding) (fault : EngineFault) → IsFailure command stack found part fault → IsFailure command stack found whole fault
  failure-part command stack found (Run fault) is = run-part fault is
  failure-part command stack found WantsMemory is = tt
  failure-part command stack found (Faulty report) is = is
  failure-part command stack found LimitOut is = is
  failure-part command stack found NoWorkers is = is
  failure-part command stack found Layers is = is
  failure-part command stack found (Layer index fault) is = is
  failure-part command stack found BlobOrder is = is
  failure-part command stack found BlobSize is = is
  failure-part command stack found NoLower is = is
  failure-part command stack found DataLayers is = is

  pub outcome-part : (command : Command) (stack : StackView) (found : List Finding) (result : Result Answer EngineFault) → IsRun command stack found part result → IsRun command stack found whole result
  outcome-part command stack found (Ok answer) is = is
  outcome-part command stack found (Err fault) is = failure-part command stack found fault is

-- a number within a limit isn't outside of it
pub not_beyond : (limit n : ℕ) → 0 < n → n ≤ limit → (n < 1) ⊎ (limit < n) → ⊥
not_beyond limit n some few (inl none) = omega arith
not_beyond limit n some few (inr many) = omega arith

-- nor are the two parts of one that leave something in front
pub not_refused : (limit n all bottom front back : ℕ) → n ≡ all → front ≡ n - bottom → back ≡ all - (n - bottom) → bottom < all → all ≤ limit → (front ≡ 0) ⊎ (limit < front + back) → ⊥
not_refused limit n all bottom front back same ahead behind some few (inl none) = omega arith
not_refused limit n all bottom front back same ahead behind some few (inr many) = omega arith

-- ---- a walk that leaves out what no manifest can hold

-- what a gate may refuse of the kids that are visited it may refuse of all
pub visited-refused : (kids : Piece → List Piece) (may_refuse : Piece → Type 0) (root : Piece) → MayBeRefused (visited_kids kids) may_refuse root → MayBeRefused kids may_refuse root
visited-refused kids may_refuse root (piece, (reached, may)) = (piece, (visited-reached kids root piece reached, may))

-- ... so where a work that makes a new layer isn't walked, the command isn't done
pub new-unwalked : (kids : Piece → List Piece) (may_refuse : Piece → Type 0) (command : Command) (stack : StackView) (found : List Finding) (fault : EngineFault)
    → IsFailedWalk (MayBeRefused (visited_kids kids) may_refuse (space_root 0)) fault → IsFailure command stack found (MayBeRefused kids may_refuse (space_root 0)) fault
new-unwalked kids may_refuse command stack found fault failed =
    unwalked (MayBeRefused kids may_refuse (space_root 0)) command stack found fault
    (walk-part (MayBeRefused (visited_kids kids) may_refuse (space_root 0)) (MayBeRefused kids may_refuse (space_root 0)) (visited-refused kids may_refuse (space_root 0)) fault failed)
