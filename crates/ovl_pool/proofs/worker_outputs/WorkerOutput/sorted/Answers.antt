use Rattle.ovl_pool.proofs.MergeLemmas.{in_order}
use Rattle.ovl_pool.proofs.worker_outputs.WorkerOutput.sorted.Goals as goal

pub returns-in-Ok-clause-out_of_memory : goal.returns-in-Ok-clause-out_of_memory
returns-in-Ok-clause-out_of_memory g c = λ fed. (fed, in_order c.sort_parcels.new.parcels.items c.in-Ok.ensures.sorted)
