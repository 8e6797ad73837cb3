use Rattle.std.proofs.Common.{◌≡◌, ◌∙◌, ◌+◌, ◌<◌, List, Err, inr, arith, length, subst}
use Rattle.std.proofs.lemmas.Result.{IfOk-weaker, err_from_is_err_and}
use Rattle.ovl_check.specs.declared.findings.Finding.{Finding}
use Rattle.ovl_check.specs.Findings.{findings}
use Rattle.ovl_commands.specs.declared.requests.Command.TheVariants.{Merge}
use Rattle.ovl_engine.specs.Outcomes.{IsRun, MayRefuseOwn}
use Rattle.ovl_engine.specs.Prepared.{MayRefuseWork}
use Rattle.ovl_engine.proofs.MergeSteps.{if-ok, kept-down, led-count, led-more, run-down, unchecked}
use Rattle.ovl_engine.proofs.OutcomeLemmas.{outcome-part}
use Rattle.ovl_engine.proofs.merges_down.merged_down.Goals as goal

pub merged_over-requires-clause-several : goal.merged_over-requires-clause-several
merged_over-requires-clause-several g c lifetimes live =
    let count = led-count c.requires.held.0 c.args.stack c.loop-done.done c.loop-done.last (omega (arith, c.ordinary.ensures.value, c.loop-done-test.true)) (c.loop-done.invariant.0 c.requires.held.0 c.requires.held.1) in
    omega (arith, count, c.ordinary.ensures.value, c.loop-done-test.true)

pub loop-done-preserved : goal.loop-done-preserved
loop-done-preserved g c = (
  (λ blobs told. led-more blobs c.args.stack c.loop-done.done c.loop-done.last c.in_ok-last.last (c.loop-done.invariant.0 blobs told) (c.in_ok-last.ensures.next blobs told)),
  (λ path. c.in_ok-last.ensures.tree path ∙ c.loop-done.invariant.1 path),
)

pub returns-in_err-last-clause-outcome : goal.returns-in_err-last-clause-outcome
returns-in_err-last-clause-outcome g c =
    let out = err_from_is_err_and c.from_residual.result c.from_residual.ensures.1 in
    let may_refuse = g.G.Gate.may_refuse c.args.team.now.gate.now in
    let count = led-count c.requires.held.0 c.args.stack c.loop-done.done c.loop-done.last (omega (arith, c.ordinary.ensures.value, c.loop-done-test.true)) (c.loop-done.invariant.0 c.requires.held.0 c.requires.held.1) in
    let more : c.args.left < length c.loop-done.last.layers = omega (arith, count, c.ordinary.ensures.value, c.loop-done-test.true) in
    rw (out.1, out.2) (λ blobs told.
    run-down may_refuse c.args.left blobs c.args.stack c.loop-done.last c.loop-done.done (Err c.in_err-last.field-0.0) (c.loop-done.invariant.0 blobs told) more tt (c.in_err-last.ensures.fault blobs told))

pub returns-in_err-found-clause-outcome : goal.returns-in_err-found-clause-outcome
returns-in_err-found-clause-outcome g c =
    let out = err_from_is_err_and c.from_residual-in_err-found.result c.from_residual-in_err-found.ensures.1 in
    let may_refuse = g.G.Gate.may_refuse c.args.team.now.gate.now in
    let count = led-count c.requires.held.0 c.args.stack c.loop-done.done c.loop-done.last (omega (arith, c.ordinary.ensures.value, c.requires.fewer.1, c.loop-done.auto)) (c.loop-done.invariant.0 c.requires.held.0 c.requires.held.1) in
    let more : c.args.left < length c.loop-done.last.layers = omega (arith, count, c.ordinary.ensures.value, c.requires.fewer.1, c.loop-done.auto) in
    rw (out.1, out.2) (λ blobs told.
    run-down may_refuse c.args.left blobs c.args.stack c.loop-done.last c.loop-done.done (Err c.in_err-found.field-0.0) (c.loop-done.invariant.0 blobs told) more tt
    (unchecked may_refuse c.loop-done.last (findings blobs c.loop-done.last) c.in_err-found.field-0.0 c.in_err-found.ensures.found))

pub merge-requires-clause-several : goal.merge-requires-clause-several
merge-requires-clause-several g c lifetimes live =
    let count = led-count c.requires.held.0 c.args.stack c.loop-done.done c.loop-done.last (omega (arith, c.ordinary.ensures.value, c.requires.fewer.1, c.loop-done.auto)) (c.loop-done.invariant.0 c.requires.held.0 c.requires.held.1) in
    omega (arith, count, c.ordinary.ensures.value, c.requires.fewer.0, c.requires.fewer.1, c.loop-done.auto)

pub merge-requires-clause-sound : goal.merge-requires-clause-sound
merge-requires-clause-sound g c lifetimes live clean = c.in_ok-found.ensures.sound c.requires.held.0 c.requires.held.1 clean

pub returns-clause-outcome : goal.returns-clause-outcome
returns-clause-outcome g c blobs told =
    let may_refuse = g.G.Gate.may_refuse c.args.team.now.gate.now in
    let last = c.loop-done.last in
    let count = led-count c.requires.held.0 c.args.stack c.loop-done.done last (omega (arith, c.ordinary.ensures.value, c.requires.fewer.1, c.loop-done.auto)) (c.loop-done.invariant.0 c.requires.held.0 c.requires.held.1) in
    let left : length last.layers ≡ c.args.left + 1 = omega (arith, count, c.ordinary.ensures.value, c.requires.fewer.1, c.loop-done.auto, c.loop-done-test.false) in
    run-down may_refuse c.args.left blobs c.args.stack last c.loop-done.done c.merge.result (c.loop-done.invariant.0 blobs told) (omega (arith, left)) (if-ok c.merge.result (length last.layers ≡ c.args.left + 1) left)
    (outcome-part (MayRefuseOwn Merge last may_refuse) (MayRefuseWork Merge last may_refuse) (λ refused. inr refused) Merge last (findings blobs last) c.merge.result
    (subst (λ (found : List Finding). IsRun Merge last found (MayRefuseOwn Merge last may_refuse) c.merge.result) (c.in_ok-found.ensures.found blobs told) c.merge.ensures.outcome))

pub returns-clause-keeps : goal.returns-clause-keeps
returns-clause-keeps g c =
    let last = c.loop-done.last in
    let lead = c.loop-done.invariant.0 c.requires.held.0 c.requires.held.1 in
    let count = led-count c.requires.held.0 c.args.stack c.loop-done.done last (omega (arith, c.ordinary.ensures.value, c.requires.fewer.1, c.loop-done.auto)) lead in
    let number : c.loop-done.done + c.args.left + 1 ≡ length c.args.stack.layers =
    omega (arith, count, c.ordinary.ensures.value, c.requires.fewer.1, c.loop-done.auto, c.loop-done-test.false) in
    IfOk-weaker c.merge.result _ _
    (λ answer kept. kept-down c.requires.held.0 c.args.stack c.args.left c.loop-done.done last answer c.requires.fewer.0 number lead c.loop-done.invariant.1 kept)
    c.merge.ensures.two
