use Rattle.std.proofs.Common.{vec_len, ◌+◌, ◌*◌}
use Rattle.ovl_pool.proofs.workers.+run_workers.Given as goal

abbrev pub decreases-RunContext::run_workers : goal.decreases-RunContext::run_workers
decreases-RunContext::run_workers g l = 4 * vec_len l.workers + 1

abbrev pub decreases-RunContext::halves : goal.decreases-RunContext::halves
decreases-RunContext::halves g l = 4 * vec_len l.workers

abbrev pub decreases-RunContext::halves-first : goal.decreases-RunContext::halves-first
decreases-RunContext::halves-first g l = 4 * vec_len l.workers + 2

abbrev pub decreases-RunContext::halves-second : goal.decreases-RunContext::halves-second
decreases-RunContext::halves-second g l = 4 * vec_len l.later + 2
