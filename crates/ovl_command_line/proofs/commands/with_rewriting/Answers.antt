use Rattle.std.proofs.Common.{◌∙◌, ap}
use Rattle.std.proofs.lemmas.Result.{IfOk-weaker}
use Rattle.clap.specs.Simple.{with_subcommand}
use Rattle.clap.specs.Words.{app_of}
use Rattle.ovl_command_line.proofs.commands.with_rewriting.Goals as goal

pub returns : goal.returns
returns c = IfOk-weaker c.subcommand.result _ _ (λ command added. added.shape c.in_ok-rewriting.ensures.1 ∙ ap (with_subcommand (app_of c.args.command)) c.in_ok-rewriting.ensures.0) c.subcommand.ensures
