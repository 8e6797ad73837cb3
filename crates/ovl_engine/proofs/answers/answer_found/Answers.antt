use Rattle.std.proofs.Common.{sym, subst}
use Rattle.ovl_commands.specs.declared.requests.Command.{Command}
use Rattle.ovl_engine.specs.Outcomes.{IsRun, MayRefuseOwn}
use Rattle.ovl_engine.proofs.answers.answer_found.Goals as goal

pub returns-in-Show-clause-outcome : goal.returns-in-Show-clause-outcome
returns-in-Show-clause-outcome g c all same =
    let may_refuse = g.G.Gate.may_refuse c.args.team.now.gate.now in
    subst (λ (what : Command). IsRun what c.args.stack all (MayRefuseOwn what c.args.stack may_refuse) c.show.result) (sym c.in-Show.is) (c.show.ensures all)
