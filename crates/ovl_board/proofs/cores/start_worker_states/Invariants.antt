use Rattle.std.proofs.Common.{◌≡◌}
use Rattle.ovl_board.specs.Machine.{start_worker_states}
use Rattle.ovl_board.proofs.cores.start_worker_states.Given as goal

abbrev pub invariant-loop : goal.invariant-loop
invariant-loop l = l.worker_states.items ≡ start_worker_states l.fn.root l.counter
