use Rattle.std.proofs.Common.{ℕ, ◌+◌, ◌-◌, ◌≤◌, ◌∙◌, ◌++◌, length, drop, sym, ap, arith}
use Rattle.ovl_names.specs.Paths.{PathNames}
use Rattle.ovl_lookup.specs.PathRopes.{names_of_parts}
use Rattle.ovl_lookup.proofs.RopeLemmas.{part-next, drop-past}
use Rattle.ovl_lookup.proofs.ropes.PathRope.redirected.Goals as goal

pub loop-part-preserved-then-left-count : goal.loop-part-preserved-then-left-count
loop-part-preserved-then-left-count c =
    let k = c.loop-part.part-index in
    let left = c.loop-part.left in
    let part : PathNames = c.part-item.result in
    let rest : PathNames = names_of_parts (drop (k + 1) c.deref-part-items.result.now) in
    let past : length part ≤ left = omega (arith, c.if-left-count.true, c.len-count.ensures) in
    ap (λ (n : ℕ). c.loop-part.rope ++ drop (left - n) rest) c.len-count.ensures
    ∙ (ap (λ (names : PathNames). c.loop-part.rope ++ names)
    (sym (drop-past part rest left past)
    ∙ ap (drop left) (sym (part-next c.deref-part-items.result.now k c.part-item.result c.loop-part-test.true c.part-item.is)))
    ∙ c.loop-part.invariant)
