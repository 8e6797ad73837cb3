use Rattle.std.proofs.Common.{◌≡◌, ◌∙◌, ap, sym, subst, map, Some}
use Rattle.clap.specs.Faults.{fault_of, is_simple_and_free}
use Rattle.clap.specs.Kinds.{HasKind}
use Rattle.clap.specs.Simple.{App}
use Rattle.clap.specs.Walk.{rows_of}
use Rattle.clap.specs.Matches.{found_of}
use Rattle.ovl_command_line.specs.Lines.{IsGiven, name_of}
use Rattle.ovl_commands.specs.declared.requests.Command.{Command}
use Rattle.ovl_command_line.proofs.Outcomes.{command_met, fault_by, same_name, tool_is_free}
use Rattle.ovl_command_line.proofs.parser.line.Goals as goal

pub returns-in-Err-clause-read : goal.returns-in-Err-clause-read
returns-in-Err-clause-read c =
    let has = c.in-Err.ensures.kinds (ap is_simple_and_free c.in_ok-tool.ensures ∙ tool_is_free) in
    fault_by _ c.in-Err.error c.fault_of.result
    (subst (λ (a : App). HasKind (fault_of a (map (λ word. word.now) c.args.words.now)) c.in-Err.error) c.in_ok-tool.ensures has) c.fault_of.ensures

pub command_of-requires : goal.command_of-requires
command_of-requires c =
    let met = command_met _ (map (λ word. word.now) c.args.words.now) c.in-Ok.matches c.unwrap.result.0.now (rows_of (found_of c.unwrap.result.1.now)) c.in_ok-tool.ensures
    c.in-Ok.ensures.kinds c.in-Ok.ensures.matches (rw c.unwrap.ensures at c.subcommand.ensures.name) (rw c.unwrap.ensures at c.subcommand.ensures.rows) in
    (met.what, met.named)

pub read-requires : goal.read-requires
read-requires c =
    let met = command_met _ (map (λ word. word.now) c.args.words.now) c.in-Ok.matches c.unwrap.result.0.now (rows_of (found_of c.unwrap.result.1.now)) c.in_ok-tool.ensures
    c.in-Ok.ensures.kinds c.in-Ok.ensures.matches (rw c.unwrap.ensures at c.subcommand.ensures.name) (rw c.unwrap.ensures at c.subcommand.ensures.rows) in
    subst (λ (what : Command). IsGiven what (rows_of (found_of c.unwrap.result.1.now))) (same_name _ _ (sym met.named ∙ c.command_of.ensures)) met.given

pub returns-clause-read : goal.returns-clause-read
returns-clause-read c =
    let met = command_met _ (map (λ word. word.now) c.args.words.now) c.in-Ok.matches c.unwrap.result.0.now (rows_of (found_of c.unwrap.result.1.now)) c.in_ok-tool.ensures
    c.in-Ok.ensures.kinds c.in-Ok.ensures.matches (rw c.unwrap.ensures at c.subcommand.ensures.name) (rw c.unwrap.ensures at c.subcommand.ensures.rows) in
    let rows = rows_of (found_of c.unwrap.result.1.now) in
    let name : name_of met.what ≡ name_of c.in_ok-read.field-0.what = sym met.named ∙ c.command_of.ensures ∙ ap name_of (sym c.in_ok-read.ensures.values.0) in
    (met.taken, (rows, met.entered ∙ ap (λ name. Some (name, rows)) name, c.in_ok-read.ensures.values.1))
