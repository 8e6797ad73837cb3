use Rattle.std.proofs.Common.{◌≡◌, ◌∙◌, length, sym, ap, arith, string_bytes}
use Rattle.std.specs.List.{flat_map}
use Rattle.std.proofs.lemmas.List.{take_all}
use Rattle.std.proofs.lemmas.Result.{IfOk-weaker}
use Rattle.ovl_reports.specs.Listings.{merged_tree}
use Rattle.ovl_reports.specs.Reports.{show_line}
use Rattle.ovl_reports.proofs.EntryCounts.{tree_counted, whole_report}
use Rattle.ovl_reports.proofs.listings.report_of_tree.Goals as goal

pub returns : goal.returns
returns c =
    IfOk-weaker c.with_count.result _ _
    (λ report e stack tree.
    let entries = c.in_ok-entries.entries in
    let count : entries ≡ length (merged_tree stack) = c.in_ok-entries.ensures ∙ sym (tree_counted stack tree.each tree.some c.args.parcels.now tree.walk) in
    let lines = c.in_ok-lines.ensures stack tree ∙ ap (flat_map show_line) (take_all entries (merged_tree stack) (omega (arith, count))) in
    whole_report stack tree.each tree.some (string_bytes c.in_ok-lines.lines) report.items entries lines count e)
    c.with_count.ensures
