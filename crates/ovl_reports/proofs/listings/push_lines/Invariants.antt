use Rattle.std.proofs.Common.{◌≤◌, ◌+◌, ◌-◌, ◌*◌, length, string_bytes}
use Rattle.ovl_lookup.specs.Stacks.{StackView}
use Rattle.ovl_reports.specs.Listings.{IsTreeOf}
use Rattle.ovl_reports.proofs.ListingLemmas.{views_of}
use Rattle.ovl_reports.proofs.ListingSteps.{IsListing}
use Rattle.ovl_reports.proofs.listings.push_lines.Given as goal

abbrev pub invariant-loop-directory : goal.invariant-loop-directory
invariant-loop-directory l =
    ((stack : StackView) → IsTreeOf stack l.fn.root (views_of l.fn.parcels) → IsListing stack l.fn.first (string_bytes l.lines) l.told l.open.items l.rest)
    × (l.told ≤ l.end)

-- twice the paths that are still to be listed, and the directories that are open
abbrev pub decreases-loop-directory : goal.decreases-loop-directory
decreases-loop-directory l = 2 * (l.end - l.told) + length l.open.items
