use Rattle.std.proofs.Common.{◌∙◌, ap}
use Rattle.std.proofs.lemmas.Result.{IfOk-weaker}
use Rattle.ovl_command_line.specs.Commands.{layers_shape}
use Rattle.ovl_command_line.proofs.commands.fsck.Goals as goal

pub returns : goal.returns
returns c = IfOk-weaker c.with_layers.result _ _ (λ command is. (is.0 ∙ ap layers_shape c.in_ok-with_blobs.ensures.0, is.1)) c.with_layers.ensures
