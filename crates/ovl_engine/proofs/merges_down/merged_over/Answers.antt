use Rattle.std.proofs.Common.{◌≡◌, List, true, refl, inr, subst}
use Rattle.std.proofs.lemmas.Result.{IfErr-weaker, IfOk-weaker, err_from_is_err_and}
use Rattle.ovl_check.specs.declared.findings.Finding.{Finding}
use Rattle.ovl_check.specs.Findings.{findings}
use Rattle.ovl_commands.specs.declared.requests.Command.TheVariants.{Merge}
use Rattle.ovl_engine.specs.FsckReports.{is_clean}
use Rattle.ovl_engine.specs.Outcomes.{IsFailure, MayRefuseOwn}
use Rattle.ovl_engine.specs.Prepared.{MayRefuseWork}
use Rattle.ovl_engine.proofs.MergeSteps.{unchecked}
use Rattle.ovl_engine.proofs.OutcomeLemmas.{failure-part, unclean}
use Rattle.ovl_engine.proofs.merges_down.merged_over.Goals as goal

pub left_by_merge-requires-clause-sound : goal.left_by_merge-requires-clause-sound
left_by_merge-requires-clause-sound g c lifetimes live =
    c.in_ok-found.ensures.sound c.requires.held.0 c.requires.held.1 c.in_ok-expect_clean.ensures.clean

pub returns-in_err-found-clause-fault : goal.returns-in_err-found-clause-fault
returns-in_err-found-clause-fault g c =
    let out = err_from_is_err_and c.from_residual.result c.from_residual.ensures.1 in
    let may_refuse = g.G.Gate.may_refuse c.args.team.now.gate.now in
    rw (out.1, out.2) (λ blobs told. unchecked may_refuse c.args.stack (findings blobs c.args.stack) c.in_err-found.field-0.0 c.in_err-found.ensures.found)

pub returns-in_err-expect_clean-clause-fault : goal.returns-in_err-expect_clean-clause-fault
returns-in_err-expect_clean-clause-fault g c =
    let out = err_from_is_err_and c.from_residual-in_err-expect_clean.result c.from_residual-in_err-expect_clean.ensures.1 in
    let refused = MayRefuseWork Merge c.args.stack (g.G.Gate.may_refuse c.args.team.now.gate.now) in
    rw (out.1, out.2) (λ blobs told.
    subst (λ (found : List Finding). IsFailure Merge c.args.stack found refused c.in_err-expect_clean.field-0.0) (c.in_ok-found.ensures.found blobs told)
    (unclean refused Merge refl c.args.stack c.in_ok-found.found.items c.in_err-expect_clean.field-0.0 c.in_err-expect_clean.ensures.refused))

pub returns-clause-next : goal.returns-clause-next
returns-clause-next g c =
    IfOk-weaker c.left_by_merge.result _ _
    (λ next left blobs told. (subst (λ (found : List Finding). is_clean found ≡ true) (c.in_ok-found.ensures.found blobs told) c.in_ok-expect_clean.ensures.clean, left))
    c.left_by_merge.ensures.next

pub returns-clause-fault : goal.returns-clause-fault
returns-clause-fault g c =
    let may_refuse = g.G.Gate.may_refuse c.args.team.now.gate.now in
    IfErr-weaker c.left_by_merge.result _ _
    (λ fault failed blobs told.
    failure-part (MayRefuseOwn Merge c.args.stack may_refuse) (MayRefuseWork Merge c.args.stack may_refuse) (λ refused. inr refused) Merge c.args.stack (findings blobs c.args.stack) fault
    (failed (findings blobs c.args.stack) (subst (λ (found : List Finding). is_clean found ≡ true) (c.in_ok-found.ensures.found blobs told) c.in_ok-expect_clean.ensures.clean)))
    c.left_by_merge.ensures.fault
