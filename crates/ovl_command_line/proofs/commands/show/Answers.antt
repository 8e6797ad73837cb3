use Rattle.std.proofs.Common.{◌∙◌, ap}
use Rattle.std.proofs.lemmas.Result.{IfOk-weaker}
use Rattle.clap.specs.Simple.{App, shape_of_fields}
use Rattle.ovl_command_line.specs.Commands.{layers_shape}
use Rattle.ovl_command_line.proofs.commands.show.Goals as goal

pub returns : goal.returns
returns c =
    let shape = ap shape_of_fields c.after_help-command.ensures ∙ (ap shape_of_fields c.about.ensures ∙ ap (λ (app : App). app.top) c.new.ensures.app) in
    IfOk-weaker c.with_layers.result _ _ (λ command is. (is.0 ∙ ap layers_shape shape, is.1)) c.with_layers.ensures
