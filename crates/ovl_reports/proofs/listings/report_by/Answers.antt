use Rattle.std.proofs.Common.{◌≡◌, ◌∙◌, ◌+◌, ◌*◌, ◌≤◌, length, sym, ap, string_bytes, subst}
use Rattle.std.specs.List.{flat_map, sum_by}
use Rattle.std.proofs.lemmas.Grind.{div_ceil_times}
use Rattle.std.proofs.lemmas.List.{take_all}
use Rattle.std.proofs.lemmas.Result.{IfOk-weaker}
use Rattle.ovl_reports.specs.Listings.{IsTreeOf, merged_tree}
use Rattle.ovl_reports.specs.Reports.{show_line}
use Rattle.ovl_reports.proofs.EntryCounts.{tree_counted, whole_report}
use Rattle.ovl_reports.proofs.ListingLemmas.{views_of}
use Rattle.ovl_reports.proofs.listings.report_by.Goals as goal

pub returns : goal.returns
returns g c =
    IfOk-weaker c.with_count.result _ _
    (λ report e stack tree.
    let entries = c.in_ok-entries.entries in
    let walk : c.as_slice-walk.result.now ≡ c.args.parcels.items = c.as_slice-walk.ensures.value in
    let walked = subst (λ parcels. IsTreeOf stack c.args.root.now (views_of parcels)) (sym walk) tree in
    let count : entries ≡ length (merged_tree stack) = c.in_ok-entries.ensures ∙ (ap (λ parcels. 1 + sum_by (λ parcel. length parcel.out.items) parcels) walk ∙ sym (tree_counted stack tree.each tree.some c.args.parcels.items tree.walk)) in
    let share = c.share_of-share.result in
    let shares = c.div_ceil.result in
    let covered : entries ≤ shares * share = subst (λ n. entries ≤ n * share) (sym c.div_ceil.ensures) (div_ceil_times entries share c.share_of-share.ensures.some).0 in
    let lines = c.in_ok-parts.ensures stack walked (string_bytes c.in_ok-lines.lines) c.in_ok-lines.ensures ∙ ap (flat_map show_line) (take_all (shares * share) (merged_tree stack) (subst (λ n. n ≤ shares * share) count covered)) in
    whole_report stack tree.each tree.some (string_bytes c.in_ok-lines.lines) report.items entries lines count e)
    c.with_count.ensures
