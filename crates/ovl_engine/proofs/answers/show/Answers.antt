use Rattle.std.proofs.lemmas.Result.{err_from_is_err_and}
use Rattle.ovl_commands.specs.declared.requests.Command.TheVariants.{Show}
use Rattle.ovl_engine.specs.Outcomes.{MayRefuseOwn}
use Rattle.ovl_engine.proofs.OutcomeLemmas.{unwalked}
use Rattle.ovl_engine.proofs.answers.show.Goals as goal

pub returns-in_err-parcels : goal.returns-in_err-parcels
returns-in_err-parcels g c =
    let out = err_from_is_err_and c.from_residual.result c.from_residual.ensures.1 in
    let refused = MayRefuseOwn Show c.args.stack (g.G.Gate.may_refuse c.args.team.now.gate.now) in
    rw (out.1, out.2) (λ found. unwalked refused Show c.args.stack found c.in_err-parcels.field-0.0 (rw (c.new-work.ensures.value) at c.in_err-parcels.ensures))
