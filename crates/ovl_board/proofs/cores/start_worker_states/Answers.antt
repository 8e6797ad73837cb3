use Rattle.std.proofs.Common.{◌∷◌, [], ◌++◌, ◌∙◌, ap}
use Rattle.ovl_board.specs.Machine.{start_worker_states}
use Rattle.ovl_board.proofs.CoreLemmas.{start_worker_states-more}
use Rattle.ovl_board.proofs.cores.start_worker_states.Goals as goal

pub loop-preserved : goal.loop-preserved
loop-preserved c =
    c.in_ok-push-2.ensures.items ∙ (ap (λ ds. ds ++ c.new.result ∷ []) c.loop.invariant
    ∙ (ap (λ d. start_worker_states c.args.root c.loop.counter ++ d ∷ []) c.new.ensures ∙ start_worker_states-more c.args.root c.loop.counter c.loop.auto.counter))
