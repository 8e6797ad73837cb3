use Rattle.std.proofs.Common.{◌≡◌, ◌∙◌, ◌*◌, ◌≤◌, ◌++◌, List, get_or, ap, length, string_bytes, subst, sym}
use Rattle.std.specs.Prelude.{IfOk, codes, decimal}
use Rattle.std.specs.List.{flat_map}
use Rattle.std.proofs.lemmas.Grind.{div_ceil_times}
use Rattle.std.proofs.lemmas.List.{take_all}
use Rattle.ovl_check.specs.declared.findings.Finding.{Finding}
use Rattle.ovl_engine.specs.FsckReports.{finding_line, fault_count, note_count}
use Rattle.ovl_reports.proofs.ShareLemmas.{shares_told}
use Rattle.ovl_engine.proofs.fsck_reports.fsck_report_by.Goals as goal

pub returns : goal.returns
returns g c =
    let found = c.args.found.now in
    let share = c.share_of-share.result in
    let parts = c.in_ok-parts.parts in
    let count = sym parts.ok.0 ∙ c.in_ok-parts.ensures.len in
    let covered : length found ≤ length parts.items * share = subst (λ n. length found ≤ n * share) (sym count) (div_ceil_times (length found) share c.share_of-share.ensures.some).0 in
    let lines : string_bytes c.in_ok-report.report ≡ flat_map finding_line found =
    shares_told finding_line found share string_bytes parts.items (string_bytes c.in_ok-report.report) c.in_ok-report.ensures
    (λ n d inside.
    let part = (c.in_ok-parts.ensures.each n d inside).1 in
    subst (λ (findings : List Finding). IfOk (get_or parts.items n d) (λ text. string_bytes text ≡ flat_map finding_line findings)) part.argument_is.value part.call)
    ∙ ap (flat_map finding_line) (take_all (length parts.items * share) found covered) in
    ap (λ v. v.items) c.into_bytes.ensures.value
    ∙ (c.in_ok-push_counts.ensures
    ∙ ap (λ l. l ++ codes "faults " ++ decimal (fault_count found) ++ codes " notes " ++ decimal (note_count found) ++ codes "\n") lines)
