use Rattle.std.proofs.Common.{◌∙◌, ap, ap₂}
use Rattle.std.specs.Prelude.{codes}
use Rattle.std.proofs.lemmas.Result.{IfOk-weaker}
use Rattle.clap.specs.Simple.{with_subcommand}
use Rattle.clap.specs.Words.{App}
use Rattle.ovl_command_line.specs.Commands.{rewriting_shape}
use Rattle.ovl_command_line.proofs.commands.tool.Goals as goal

pub returns : goal.returns
returns c =
    let with_vacuum = c.in_ok-command-2.ensures ∙ ap (λ (app : App). with_subcommand app (rewriting_shape (codes "vacuum"))) c.in_ok-command.ensures in
    let with_deref = c.in_ok-command-3.ensures ∙ ap (λ (app : App). with_subcommand app (rewriting_shape (codes "deref"))) with_vacuum in
    let with_merge = c.in_ok-command-4.ensures.shape c.in_ok-merge.ensures.1 ∙ ap₂ with_subcommand with_deref c.in_ok-merge.ensures.0 in
    IfOk-weaker c.with_rewriting-3.result _ _ (λ command added. added ∙ ap (λ (app : App). with_subcommand app (rewriting_shape (codes "flatten"))) with_merge) c.with_rewriting-3.ensures
