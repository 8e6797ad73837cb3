use Rattle.std.proofs.Common.{◌≡◌, ◌∙◌, ◌⊎◌, inl, inr, [], nat_cmp, sym}
use Rattle.std.specs.Slice.Iter.{iter_rest}
use Rattle.ovl_lookup.specs.PathRopes.{names_of_parts}
use Rattle.ovl_lookup.proofs.RopeOrderLemmas.{order-at_end}
use Rattle.ovl_lookup.proofs.ropes.PathRope.compare_with.Goals.{then-loop-theirs-test+else-not-is_empty, else-loop-theirs-test}
use Rattle.ovl_lookup.proofs.ropes.PathRope.compare_with.Goals as goal

pub returns : goal.returns
returns c =
    let one : (c.loop-theirs.ours.last ≡ []) ⊎ (c.loop-theirs.theirs.last ≡ []) = elim c.loop-theirs-test.branch [
      | then-loop-theirs-test+else-not-is_empty w ↦ inr (w.is_empty-in-loop-theirs.ensures.0 w.if-not-is_empty.false)
      | else-loop-theirs-test w ↦ inl (c.is_empty.ensures.0 w.loop-theirs-test.false)
    ] in
    c.cmp.ensures
    ∙ ((λ j. nat_cmp (c.len.ensures j) (c.len-2.ensures j))
    ∙ (sym (order-at_end (names_of_parts (iter_rest c.loop-theirs.ours.parts)) c.loop-theirs.ours.last (names_of_parts (iter_rest c.loop-theirs.theirs.parts)) c.loop-theirs.theirs.last c.loop-theirs.invariant.all c.loop-theirs.invariant.their_all one)
    ∙ c.loop-theirs.invariant.order))
