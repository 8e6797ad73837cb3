use Rattle.std.proofs.Common.{◌<◌, ◌+◌, ◌-◌, suc, length, arith}
use Rattle.std.proofs.lemmas.List.{get_or_read}
use Rattle.ovl_layer.specs.KidLists.{AreCounts}
use Rattle.ovl_layer.proofs.KidListLemmas.{ends-begin, ends-more, ends-fit, ends-all}
use Rattle.ovl_layer.proofs.kid_lists.ends_of.Goals as goal

pub loop-number-init : goal.loop-number-init
loop-number-init c = ends-begin c.args.parents.now c.in_ok-ends.ends.items c.in_ok-ends.ensures

pub overflow_add-index_mut : goal.overflow_add-index_mut
overflow_add-index_mut c =
    let counted : AreCounts c.args.parents.now c.in_ok-ends.ends.items = c.in_ok-ends.ensures in
    let inside : c.loop-number.number < length c.loop-number.ends.items = omega (arith, c.loop-number-test.true, c.len-number-end.ensures, c.in_ok-ends.ends.ok.0, counted.count, c.loop-number.invariant.count) in
    let own = get_or_read c.loop-number.ends.items c.loop-number.number c.index_mut.result.now inside c.index_mut.ensures.value 0 in
    let before = get_or_read c.loop-number.ends.items (c.loop-number.number - 1) c.index.result.now (omega (arith, inside)) c.index.ensures 0 in
    let more = ends-more c.args.parents.now c.loop-number.ends.items c.loop-number.number (c.index_mut.result.now + c.index.result.now) c.loop-number.auto.number inside c.loop-number.invariant (omega (arith, own, before)) in
    omega (arith, more.0, ends-fit c.args.parents.now (suc c.loop-number.number), c.requires.limit)

pub loop-number-preserved : goal.loop-number-preserved
loop-number-preserved c =
    let counted : AreCounts c.args.parents.now c.in_ok-ends.ends.items = c.in_ok-ends.ensures in
    let inside : c.loop-number.number < length c.loop-number.ends.items = omega (arith, c.loop-number-test.true, c.len-number-end.ensures, c.in_ok-ends.ends.ok.0, counted.count, c.loop-number.invariant.count) in
    let own = get_or_read c.loop-number.ends.items c.loop-number.number c.index_mut.result.now inside c.index_mut.ensures.value 0 in
    let before = get_or_read c.loop-number.ends.items (c.loop-number.number - 1) c.index.result.now (omega (arith, inside)) c.index.ensures 0 in
    (ends-more c.args.parents.now c.loop-number.ends.items c.loop-number.number (c.index_mut.result.now + c.index.result.now) c.loop-number.auto.number inside c.loop-number.invariant (omega (arith, own, before))).1

pub returns : goal.returns
returns c =
    let counted : AreCounts c.args.parents.now c.in_ok-ends.ends.items = c.in_ok-ends.ensures in
    ends-all c.args.parents.now c.loop-number.ends.items c.loop-number.number
    (omega (arith, c.loop-number-test.false, c.len-number-end.ensures, c.in_ok-ends.ends.ok.0, counted.count, c.loop-number.invariant.count)) c.loop-number.invariant
