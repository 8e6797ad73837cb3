use Rattle.std.proofs.Common.{◌∙◌, ap₂}
use Rattle.std.proofs.lemmas.Result.{IfOk-weaker}
use Rattle.clap.specs.Simple.{with_subcommand}
use Rattle.ovl_command_line.proofs.commands.telling.Goals as goal

pub returns : goal.returns
returns c =
    let with_show = c.in_ok-subcommand.ensures.shape c.in_ok-show.ensures.1 ∙ ap₂ with_subcommand c.in_ok-bare.ensures c.in_ok-show.ensures.0 in
    IfOk-weaker c.subcommand-2.result _ _ (λ command added. added.shape c.in_ok-fsck.ensures.1 ∙ ap₂ with_subcommand with_show c.in_ok-fsck.ensures.0) c.subcommand-2.ensures
