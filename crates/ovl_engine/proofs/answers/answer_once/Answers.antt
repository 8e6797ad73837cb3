use Rattle.std.proofs.Common.{inl, inr}
use Rattle.std.proofs.lemmas.Result.{err_from_is_err_and}
use Rattle.ovl_check.specs.Findings.{findings}
use Rattle.ovl_engine.specs.Outcomes.{MayRefuseLayers, MayRefuseOwn}
use Rattle.ovl_engine.specs.Prepared.{MayRefuseWork}
use Rattle.ovl_engine.proofs.OutcomeLemmas.{unwalked, walk-part, outcome-part}
use Rattle.ovl_engine.proofs.answers.answer_once.Goals as goal

pub returns-in_err-found-clause-outcome : goal.returns-in_err-found-clause-outcome
returns-in_err-found-clause-outcome g c blobs same =
    let out = err_from_is_err_and c.from_residual.result c.from_residual.ensures.1 in
    let may_refuse = g.G.Gate.may_refuse c.args.team.now.gate.now in
    let what = c.args.what in
    let stack = c.args.stack in
    let whole = MayRefuseWork what stack may_refuse in
    let fault = c.in_err-found.field-0.0 in
    rw (out.1, out.2) (unwalked whole what stack (findings blobs stack) fault
    (walk-part (MayRefuseLayers stack may_refuse) whole (λ refused. inl (c.in_err-found.ensures.fault.0, refused)) fault c.in_err-found.ensures.fault.1))

pub returns-clause-outcome : goal.returns-clause-outcome
returns-clause-outcome g c blobs same =
    let may_refuse = g.G.Gate.may_refuse c.args.team.now.gate.now in
    let what = c.args.what in
    let stack = c.args.stack in
    let found = findings blobs stack in
    outcome-part (MayRefuseOwn what stack may_refuse) (MayRefuseWork what stack may_refuse) (λ refused. inr refused) what stack found c.answer_found.result
    (c.answer_found.ensures.outcome found (λ checking. c.in_ok-found.ensures.found blobs (same checking) checking))
