use Rattle.std.proofs.Common.{◌∙◌, ◌||◌, ◌∷◌, ◌++◌, [], Bool, List, ap, ap₂, append_assoc}
use Rattle.std.proofs.lemmas.Result.{IfOk-weaker}
use Rattle.clap.specs.Words.{App, Rule, shape_of, with_rule}
use Rattle.ovl_command_line.specs.Commands.{data_layers_rule, layers_rule, workers_rule}
use Rattle.ovl_command_line.proofs.commands.with_layers.Goals as goal

pub returns : goal.returns
returns c =
    let shape = shape_of c.args.command in
    let all = append_assoc (shape.rules ++ workers_rule ∷ []) (data_layers_rule ∷ []) (layers_rule ∷ []) ∙ append_assoc shape.rules (workers_rule ∷ []) (data_layers_rule ∷ layers_rule ∷ []) in
    let with_workers = c.in_ok-arg.ensures.shape c.workers.ensures.rule.1 ∙ ap (with_rule _) c.workers.ensures.rule.0 in
    let with_data = c.in_ok-arg-2.ensures.shape c.data_layers.ensures.1 ∙ ap₂ with_rule with_workers c.data_layers.ensures.0 in
    let own_workers = c.in_ok-arg.ensures.globals ∙ ap₂ (λ (a b : Bool). a || b) c.requires c.workers.ensures.rule.1 in
    let own_data = c.in_ok-arg-2.ensures.globals ∙ ap₂ (λ (a b : Bool). a || b) own_workers c.data_layers.ensures.1 in
    IfOk-weaker c.arg-3.result _ _ (λ command added. (
      ap (λ (app : App). app.top) (added.shape c.layers.ensures.1 ∙ ap₂ with_rule with_data c.layers.ensures.0) ∙ ap (λ (rules : List Rule). record shape { rules = rules }) all,
      added.globals ∙ ap₂ (λ (a b : Bool). a || b) own_data c.layers.ensures.1,
    )) c.arg-3.ensures
