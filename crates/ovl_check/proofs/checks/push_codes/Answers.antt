use Rattle.std.proofs.Common.{◌≡◌, ◌++◌, ◌∙◌, List, sym, subst, map}
use Rattle.std.specs.Prelude.{OnOk}
use Rattle.ovl_check.specs.declared.findings.Code.{Code}
use Rattle.ovl_check.specs.Checks.{sought_in}
use Rattle.ovl_check.specs.Findings.{finding}
use Rattle.ovl_check.specs.Facts.{entry_path}
use Rattle.ovl_check.proofs.SilentLemmas.{blob_codes-enough}
use Rattle.ovl_check.proofs.checks.push_codes.Goals as goal

pub returns-then-is_bare : goal.returns-then-is_bare
returns-then-is_bare c =
    subst (λ (told : List Code). OnOk c.push_told.result (c.push_told.new.findings.items ≡ c.args.findings.now.items ++ map (finding c.args.layer (entry_path c.args.place)) told))
    (sym (blob_codes-enough c.args.facts.now (sym c.is_bare.ensures ∙ c.if-is_bare.true) (sought_in c.args.stack.now c.args.layer)))
    c.push_told.ensures
