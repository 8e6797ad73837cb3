use Rattle.std.proofs.Common.{rules, ◌≡◌, ◌∙◌, ◌+◌, ◌-◌, ap, arith, drop, take}
use Rattle.std.specs.List.{flat_map}
use Rattle.ovl_reports.specs.Listings.{merged_tree}
use Rattle.ovl_reports.specs.Reports.{show_line}
use Rattle.ovl_reports.proofs.listings.lines_from.Goals as goal

pub returns : goal.returns
returns c stack tree =
    let end : c.in_ok-end.end ≡ c.args.first + c.args.share = search rules in
    let share : c.in_ok-end.end - c.args.first ≡ c.args.share = omega (arith, end) in
    c.in_ok-push_lines.ensures stack tree ∙ ap (λ n. flat_map show_line (take n (drop c.args.first (merged_tree stack)))) share
