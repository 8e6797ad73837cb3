use Rattle.std.proofs.Common.{◌∙◌, ◌∷◌, ◌++◌, [], ap, ap₂}
use Rattle.std.proofs.lemmas.Result.{IfOk-weaker}
use Rattle.clap.specs.Words.{App, Shape, Rule}
use Rattle.ovl_command_line.specs.Commands.{layers_shape}
use Rattle.ovl_command_line.proofs.commands.merge.Goals as goal

pub returns : goal.returns
returns c =
    let shape = ap (λ (app : App). app.top) (c.in_ok-command.ensures.shape c.down_to.ensures.1) ∙ ap₂ (λ (s : Shape) (r : Rule). record s { rules = s.rules ++ r ∷ [] }) c.in_ok-with_folders.ensures.0 c.down_to.ensures.0 in
    IfOk-weaker c.with_layers.result _ _ (λ command is. (is.0 ∙ ap layers_shape shape, is.1)) c.with_layers.ensures
