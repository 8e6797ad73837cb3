use Rattle.std.proofs.Common.{◌∙◌, ◌+◌, ◌<◌, get_or, length, arith}
use Rattle.std.proofs.lemmas.List.{get_or_read, length-set}
use Rattle.ovl_layer.proofs.KidListLemmas.{parent-inside, counts-more, counts-fit}
use Rattle.ovl_layer.proofs.kid_lists.counts_of.Goals as goal

pub index_mut-requires : goal.index_mut-requires
index_mut-requires c =
    omega (arith, parent-inside c.args.parents.now c.loop-number.number c.loop-number.auto.number c.loop-number-test.true c.requires.earlier, c.loop-number-test.true, c.loop-number.invariant.count, c.loop-number.counts.ok.0)

pub overflow_add-index_mut : goal.overflow_add-index_mut
overflow_add-index_mut c =
    let parent = get_or c.args.parents.now c.loop-number.number 0 in
    let early = parent-inside c.args.parents.now c.loop-number.number c.loop-number.auto.number c.loop-number-test.true c.requires.earlier in
    let value = get_or_read c.loop-number.counts.items parent c.index_mut.result.now (omega (arith, early, c.loop-number-test.true, c.loop-number.invariant.count)) c.index_mut.ensures.value 0 in
    omega (arith, value, c.loop-number.invariant.each parent (omega (arith, early, c.loop-number-test.true)), counts-fit c.args.parents.now c.loop-number.number parent (omega (arith, c.loop-number-test.true)), c.loop-number-test.true, c.requires.limit)

pub loop-number-preserved : goal.loop-number-preserved
loop-number-preserved c =
    let parent = get_or c.args.parents.now c.loop-number.number 0 in
    let early = parent-inside c.args.parents.now c.loop-number.number c.loop-number.auto.number c.loop-number-test.true c.requires.earlier in
    let within : parent < length c.loop-number.counts.items = omega (arith, early, c.loop-number-test.true, c.loop-number.invariant.count) in
    let value = get_or_read c.loop-number.counts.items parent c.index_mut.result.now within c.index_mut.ensures.value 0 in
    record {
      count = length-set c.loop-number.counts.items parent (c.index_mut.result.now + 1) ∙ c.loop-number.invariant.count;
      each = counts-more c.args.parents.now c.loop-number.counts.items c.loop-number.number (c.index_mut.result.now + 1) c.loop-number.auto.number c.loop-number-test.true within (omega (arith, value)) c.loop-number.invariant.each;
    }
