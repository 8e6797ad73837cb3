use Rattle.std.proofs.Common.{◌∙◌, ◌<◌, ◌+◌, ℕ, length, sym, ap, subst, arith}
use Rattle.std.proofs.lemmas.Result.{IfOk-weaker}
use Rattle.ovl_lookup.specs.Stacks.{StackView}
use Rattle.ovl_lookup.specs.Words.{top_layer}
use Rattle.ovl_lookup.proofs.LawsOfLooks.{top-layer}
use Rattle.ovl_vacuum.specs.Passes.{IsLeftTo}
use Rattle.ovl_vacuum.proofs.RowLemmas.{left-passed, left-all, goes-flag}
use Rattle.ovl_vacuum.proofs.finish.layer_left.Goals as goal
use Rattle.ovl_vacuum.proofs.finish.layer_left.Goals.{then-not-gone-number+in_ok-rest-2, else-not-gone-number}

pub with_row-requires-clause-inside : goal.with_row-requires-clause-inside
with_row-requires-clause-inside c = omega (arith, c.loop-number-test.true, c.len-number-end.ensures.value, ap length c.top-sheet.ensures.value)

pub with_row-requires-clause-stays : goal.with_row-requires-clause-stays
with_row-requires-clause-stays c =
    let inside : c.loop-number.number < length (top_layer c.args.stack.now) = omega (arith, c.loop-number-test.true, c.len-number-end.ensures.value, ap length c.top-sheet.ensures.value) in
    sym (goes-flag c.args.stack.now c.loop-number.number inside c.args.gone.now c.requires) ∙ c.if-not-gone-number.true

pub loop-number-init : goal.loop-number-init
loop-number-init c = record { some = omega arith; left = c.in_ok-rest.ensures }

pub loop-number-preserved : goal.loop-number-preserved
loop-number-preserved c =
    let stack : StackView = c.args.stack.now in
    let is = top-layer stack c.top-sheet.ensures.some c.top-sheet.ensures.each in
    let number : ℕ = c.loop-number.number in
    let inside : number < length (top_layer stack) = omega (arith, c.loop-number-test.true, c.len-number-end.ensures.value, ap length c.top-sheet.ensures.value) in
    let left = c.loop-number.invariant.left in
    record {
      some = omega (arith, c.loop-number.invariant.some);
      left = elim c.if-not-gone-number.branch [
        | then-not-gone-number+in_ok-rest-2 w ↦ subst (IsLeftTo stack (number + 1)) (sym w.rest-is) w.in_ok-rest-2.ensures
        | else-not-gone-number w ↦ subst (IsLeftTo stack (number + 1)) (sym w.rest-is) (record {
          builder = left.builder;
          entries = left-passed stack is number inside _ (sym (goes-flag stack number inside c.args.gone.now c.requires) ∙ w.if-not-gone-number.false) left.entries;
          count = left.count;
          above = left.above;
        })
      ];
    }

pub returns : goal.returns
returns c =
    IfOk-weaker c.finish.result _ _
    (λ layer e. left-all c.args.stack.now c.loop-number.number layer (omega (arith, c.loop-number-test.false, c.len-number-end.ensures.value, ap length c.top-sheet.ensures.value)) (e ∙ c.loop-number.invariant.left.entries))
    c.finish.ensures
