use Rattle.std.proofs.Common.{◌++◌, ◌∙◌, List, arith, ap, map, take_all}
use Rattle.std.specs.Prelude.{◌&&◌, filter}
use Rattle.ovl_check.specs.declared.findings.Code.{Code}
use Rattle.ovl_check.specs.Checks.{sought_in}
use Rattle.ovl_check.specs.Findings.{finding}
use Rattle.ovl_check.specs.Facts.{entry_path, tells}
use Rattle.ovl_check.proofs.FactLemmas.{codes-more}
use Rattle.ovl_check.proofs.checks.push_told.Goals as goal

pub loop-code-preserved : goal.loop-code-preserved
loop-code-preserved c =
    codes-more (finding c.args.layer (entry_path c.args.place)) (λ code. sought_in c.args.stack.now c.args.layer code && tells c.args.facts.now code) c.args.codes.now c.loop-code.code-index _ c.args.findings.now.items c.loop-code.findings.items _ c.is_told-told.result
    (omega arith) c.loop-code.invariant c.is_told-told.ensures c.in_ok-push_if.ensures

pub returns : goal.returns
returns c =
    c.loop-code.invariant
    ∙ ap (λ (codes : List Code). c.args.findings.now.items ++ map (finding c.args.layer (entry_path c.args.place)) (filter (λ code. sought_in c.args.stack.now c.args.layer code && tells c.args.facts.now code) codes)) (take_all c.loop-code.code-index c.args.codes.now (omega arith))
