use Rattle.std.proofs.Common.{rules, ◌≤◌, length, arith}
use Rattle.ovl_pool.specs.Flows.{indicator}
use Rattle.ovl_pool.proofs.WorkerThreadLemmas.{whole_lanes}
use Rattle.ovl_pool.proofs.seating.close_lanes.Goals as goal

pub counts_of_lanes-requires-clause-whole : goal.counts_of_lanes-requires-clause-whole
counts_of_lanes-requires-clause-whole c =
    let held = c.loop-number.invariant in
    let end : length c.loop-number.workers.items ≤ c.loop-number.number = search rules in
    whole_lanes c.args.thieves.items c.loop-number.workers.items held.seated (λ k d below. held.before k d (omega arith) (omega (arith, below, end)))

pub returns-clause-left : goal.returns-clause-left
returns-clause-left c =
    let same = c.loop-number.invariant.same in
    let left = c.counts_of_lanes.ensures.left in
    (left.0, (left.1.0, λ p. let s = same (indicator p) in omega (arith, left.1.1 p, s.0, s.1)))
