use Rattle.std.proofs.Common.{◌≡◌, ◌∙◌, List, sym, ap}
use Rattle.ovl_blobs.specs.declared.contents.BlobInfo.{BlobInfo}
use Rattle.ovl_check.specs.Checks.{CheckView}
use Rattle.ovl_check.specs.Contents.{findings_of_contents}
use Rattle.ovl_check.specs.Findings.{findings}
use Rattle.ovl_engine.specs.FsckReports.{is_clean}
use Rattle.ovl_engine.proofs.KeptLemmas.{clean-sound}
use Rattle.ovl_engine.proofs.checks.findings_of.Goals as goal

pub returns-clause-sound : goal.returns-clause-sound
returns-clause-sound g c blobs told clean =
    let stack = c.args.stack.now in
    let same : c.in_ok-found.found.items ≡ findings blobs stack =
    c.in_ok-found.ensures
    ∙ (ap (λ (v : CheckView). findings_of_contents v.contents stack) c.of_contents.ensures
    ∙ (ap (λ (contents : List BlobInfo). findings_of_contents contents stack) (sym told) ∙ sym (c.findings_need_contents.ensures blobs stack))) in
    clean-sound c.findings_tell_soundness.ensures blobs stack (ap is_clean (sym same) ∙ clean)
