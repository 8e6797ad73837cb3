use Rattle.std.proofs.Common.{◌≡◌, ◌-◌, get_or, ap, subst, arith}
use Rattle.std.proofs.lemmas.List.{get_or_read}
use Rattle.ovl_layer.proofs.KidListLemmas.{ArePlaced, place-step, all-starts, all-kids}
use Rattle.ovl_layer.proofs.kid_lists.KidLists.of.Goals as goal

pub index-requires-in-loop-number : goal.index-requires-in-loop-number
index-requires-in-loop-number c =
    let step = place-step c.args.parents.now c.loop-number.number c.loop-number.starts.items c.loop-number.kids.items c.loop-number-test.true c.loop-number.invariant.within c.requires.earlier c.loop-number.invariant.placed in
    omega (arith, step.0, c.loop-number.starts.ok.0)

pub overflow_sub-place : goal.overflow_sub-place
overflow_sub-place c =
    let step = place-step c.args.parents.now c.loop-number.number c.loop-number.starts.items c.loop-number.kids.items c.loop-number-test.true c.loop-number.invariant.within c.requires.earlier c.loop-number.invariant.placed in
    let value = get_or_read c.loop-number.starts.items (get_or c.args.parents.now (c.loop-number.number - 1) 0) c.index-in-loop-number.result.now step.0 c.index-in-loop-number.ensures 0 in
    omega (arith, value, step.1)

pub index_mut-requires : goal.index_mut-requires
index_mut-requires c =
    let step = place-step c.args.parents.now c.loop-number.number c.loop-number.starts.items c.loop-number.kids.items c.loop-number-test.true c.loop-number.invariant.within c.requires.earlier c.loop-number.invariant.placed in
    omega (arith, step.0, c.loop-number.starts.ok.0)

pub index_mut-requires-in-loop-number : goal.index_mut-requires-in-loop-number
index_mut-requires-in-loop-number c =
    let step = place-step c.args.parents.now c.loop-number.number c.loop-number.starts.items c.loop-number.kids.items c.loop-number-test.true c.loop-number.invariant.within c.requires.earlier c.loop-number.invariant.placed in
    let value = get_or_read c.loop-number.starts.items (get_or c.args.parents.now (c.loop-number.number - 1) 0) c.index-in-loop-number.result.now step.0 c.index-in-loop-number.ensures 0 in
    omega (arith, value, step.1, step.2, c.loop-number.kids.ok.0)

pub loop-number-preserved : goal.loop-number-preserved
loop-number-preserved c =
    let step = place-step c.args.parents.now c.loop-number.number c.loop-number.starts.items c.loop-number.kids.items c.loop-number-test.true c.loop-number.invariant.within c.requires.earlier c.loop-number.invariant.placed in
    let value = get_or_read c.loop-number.starts.items (get_or c.args.parents.now (c.loop-number.number - 1) 0) c.index-in-loop-number.result.now step.0 c.index-in-loop-number.ensures 0 in
    record {
      placed = step.3 (c.index-in-loop-number.result.now - 1) (ap (λ n. n - 1) value);
      some = omega (arith, c.loop-number-test.true);
      within = omega (arith, c.loop-number.invariant.within);
    }

pub invariant_of-result : goal.invariant_of-result
invariant_of-result c =
    let last : c.loop-number.number ≡ 1 = omega (arith, c.loop-number-test.false, c.loop-number.invariant.some) in
    all-starts c.args.parents.now c.loop-number.starts.items c.loop-number.kids.items
    (subst (λ n. ArePlaced c.args.parents.now n c.loop-number.starts.items c.loop-number.kids.items) last c.loop-number.invariant.placed)

pub returns : goal.returns
returns c =
    let last : c.loop-number.number ≡ 1 = omega (arith, c.loop-number-test.false, c.loop-number.invariant.some) in
    all-kids c.args.parents.now c.loop-number.starts.items c.loop-number.kids.items
    (subst (λ n. ArePlaced c.args.parents.now n c.loop-number.starts.items c.loop-number.kids.items) last c.loop-number.invariant.placed)
