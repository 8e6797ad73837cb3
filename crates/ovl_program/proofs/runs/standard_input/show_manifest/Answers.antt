use Rattle.std.proofs.Common.{◌≡◌, ◌∙◌, ◌++◌, ◌∷◌, [], ℕ, None, List, Result, Vec, Global, ap, sym, subst}
use Rattle.ovl_commands.specs.declared.requests.Answer.{Answer}
use Rattle.ovl_commands.specs.declared.requests.Command.TheVariants.{Show}
use Rattle.ovl_engine.specs.declared.faults.EngineFault.{EngineFault}
use Rattle.ovl_engine.specs.Requests.{request_of}
use Rattle.ovl_program.specs.Reported.{IsComing, input_request}
use Rattle.ovl_program.proofs.Performed.{few_coming, reported_more}
use Rattle.ovl_program.proofs.runs.standard_input.show_manifest.Goals as goal

pub write_report-requires : goal.write_report-requires
write_report-requires g c = few_coming (request_of Show c.push.new.self.items 0 [] 4) c.command-answered.result c.command-answered.ensures.outcome

pub returns : goal.returns
returns g c =
    let items = c.in_ok-push.ensures.items ∙ ap (λ (others : List (Vec ℕ Global)). others ++ c.args.manifest ∷ []) c.new-manifests.ensures.items in
    let comes = subst (λ (manifests : List (Vec ℕ Global)). IsComing (request_of Show manifests 0 [] 4) c.command-answered.result) items c.command-answered.ensures.outcome in
    reported_more (λ (outcome : Result Answer EngineFault). outcome ≡ c.command-answered.result) (IsComing (input_request c.args.manifest.items))
    (λ outcome is. subst (IsComing (input_request c.args.manifest.items)) (sym is) comes) None _ _ c.write_report.result c.write_report.ensures
