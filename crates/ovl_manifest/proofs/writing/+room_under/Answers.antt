use Rattle.std.proofs.Common.{length, ap, arith}
use Rattle.ovl_layer.proofs.NodeLemmas.{fewer_below}
use Rattle.ovl_manifest.proofs.writing.+room_under.Goals as goal

pub room_under-requires : goal.room_under-requires
room_under-requires n c =
    let fewer = fewer_below c.children-child-items.result.now c.loop-child.child-index c.child-item.result c.loop-child-test.true c.child-item.is in
    let count = ap length c.children-child-items.ensures in
    (omega (arith, fewer, count), tt)
