use Rattle.std.proofs.Common.{◌≡◌, ◌+◌, ◌<◌, ◌∙◌, true, false, length, sym, ap, arith}
use Rattle.std.specs.Prelude.{unwrap_or}
use Rattle.std.proofs.lemmas.Result.{IfOk-weaker}
use Rattle.std.proofs.lemmas.Bool.Decides.{nat_tests}
use Rattle.ovl_layer.specs.Layers.{Entries, entry_at}
use Rattle.ovl_lookup.specs.declared.steps.Descent.{Descent}
use Rattle.ovl_lookup.specs.declared.steps.OwnDirectory.{OwnDirectory}
use Rattle.ovl_lookup.proofs.WalkFacts.{walked-through, stopped, walked-past, row-there, walked-below, walked-to}
use Rattle.ovl_lookup.proofs.steps.OwnStep.at.Goals as goal

pub step-requires : goal.step-requires
step-requires c = c.in_ok-own.ensures.own.inside

pub returns-then-depth-len-clause-value : goal.returns-then-depth-len-clause-value
returns-then-depth-len-clause-value c =
    let d : Descent = c.in_ok-own.field-0 in
    let all : d.depth ≡ length c.args.rope.now = grind (arith, nat_tests, c.if-depth-len.true, c.len.ensures) in
    c.step.ensures.value c.args.rope.now
    ∙ walked-through c.args.sheet.now c.args.rope.now d c.in_ok-own.ensures all

pub returns-in_default-clause-value : goal.returns-in_default-clause-value
returns-in_default-clause-value c =
    let d : Descent = c.in_ok-own.field-0 in
    let short : d.depth ≡ length c.args.rope.now → ⊥ = λ all. grind (arith, nat_tests, all, c.if-depth-len.false, c.len.ensures) in
    IfOk-weaker c.step_past.result _ _
    (λ step is. is ∙ walked-past c.args.sheet.now c.args.rope.now d c.in_ok-own.ensures short c.in_default.is)
    c.step_past.ensures.value

pub returns-then-depth-len-2-clause-value : goal.returns-then-depth-len-2-clause-value
returns-then-depth-len-2-clause-value c =
    let d : Descent = c.in_ok-own.field-0 in
    let short : d.depth ≡ length c.args.rope.now → ⊥ = λ all. grind (arith, nat_tests, all, c.if-depth-len.false, c.len.ensures) in
    let more : d.depth + 1 < length c.args.rope.now = grind (arith, nat_tests, c.if-depth-len-2.true, c.len-2.ensures) in
    IfOk-weaker c.step_past-then-depth-len-2.result _ _
    (λ step is. is ∙ walked-below c.args.sheet.now c.args.rope.now d c.in_ok-own.ensures short c.in-Some.number c.in-Some.is more)
    c.step_past-then-depth-len-2.ensures.value

pub enter-requires-clause-number : goal.enter-requires-clause-number
enter-requires-clause-number c =
    let short : c.in_ok-own.field-0.depth ≡ length c.args.rope.now → ⊥ = λ all. grind (arith, nat_tests, all, c.if-depth-len.false, c.len.ensures) in
    (row-there c.args.sheet.now c.args.rope.now c.in_ok-own.field-0 c.in_ok-own.ensures short c.in-Some.number c.in-Some.is).0

pub enter-requires-clause-depth : goal.enter-requires-clause-depth
enter-requires-clause-depth c = c.in_ok-own.ensures.depth ∙ ap length (sym c.in_ok-own.ensures.own.here)

pub returns-then-is_whiteout-clause-value : goal.returns-then-is_whiteout-clause-value
returns-then-is_whiteout-clause-value c =
    let d : Descent = c.in_ok-own.field-0 in
    let is = c.in_ok-own.ensures in
    let short : d.depth ≡ length c.args.rope.now → ⊥ = λ all. grind (arith, nat_tests, all, c.if-depth-len.false, c.len.ensures) in
    let last : d.depth + 1 < length c.args.rope.now → ⊥ = λ more. grind (arith, nat_tests, more, c.if-depth-len-2.false, c.len-2.ensures) in
    let there = row-there c.args.sheet.now c.args.rope.now d is short c.in-Some.number c.in-Some.is in
    let entered = c.in_ok-entered.ensures is.above (stopped c.args.sheet.now c.args.rope.now d is short).name is.own there.1 in
    walked-to c.args.sheet.now c.args.rope.now d is short c.in-Some.number c.in-Some.is last c.in_ok-entered.entered entered c.inode.result.now c.inode.ensures true (sym c.is_whiteout.ensures ∙ c.if-is_whiteout.true)

pub step-requires-2 : goal.step-requires-2
step-requires-2 c =
    let d : Descent = c.in_ok-own.field-0 in
    let is = c.in_ok-own.ensures in
    let short : d.depth ≡ length c.args.rope.now → ⊥ = λ all. grind (arith, nat_tests, all, c.if-depth-len.false, c.len.ensures) in
    let there = row-there c.args.sheet.now c.args.rope.now d is short c.in-Some.number c.in-Some.is in
    (c.in_ok-entered.ensures is.above (stopped c.args.sheet.now c.args.rope.now d is short).name is.own there.1).inside

pub returns-clause-value : goal.returns-clause-value
returns-clause-value c =
    let layer : Entries = c.args.sheet.now in
    let d : Descent = c.in_ok-own.field-0 in
    let is = c.in_ok-own.ensures in
    let short : d.depth ≡ length c.args.rope.now → ⊥ = λ all. grind (arith, nat_tests, all, c.if-depth-len.false, c.len.ensures) in
    let last : d.depth + 1 < length c.args.rope.now → ⊥ = λ more. grind (arith, nat_tests, more, c.if-depth-len-2.false, c.len-2.ensures) in
    let there = row-there layer c.args.rope.now d is short c.in-Some.number c.in-Some.is in
    let entered = c.in_ok-entered.ensures is.above (stopped layer c.args.rope.now d is short).name is.own there.1 in
    let own : OwnDirectory = c.in_ok-entered.entered in
    c.step-2.ensures.value c.args.rope.now
    ∙ ap (λ found. record { found = found; next = unwrap_or own.turned c.args.rope.now; closed = own.closed }) (ap (entry_at layer) (entered.here ∙ sym there.1) ∙ c.inode.ensures)
    ∙ walked-to layer c.args.rope.now d is short c.in-Some.number c.in-Some.is last own entered c.inode.result.now c.inode.ensures false (sym c.is_whiteout.ensures ∙ c.if-is_whiteout.false)
