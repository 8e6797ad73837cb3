use Rattle.std.proofs.Common.{◌≡◌, ◌+◌, ◌-◌, ◌≤◌, drop, string_bytes}
use Rattle.ovl_reports.specs.Listings.{TellsLeaves}
use Rattle.ovl_reports.proofs.listings.push_leaves.Given as goal

abbrev pub invariant-loop-name : goal.invariant-loop-name
invariant-loop-name l =
    TellsLeaves l.fn.first (string_bytes l.fn.directory.text) (drop l.fn.directory.told l.fn.directory.parcel.now.out.items) (drop l.directory.told l.fn.directory.parcel.now.out.items)
    l.fn.told l.number (string_bytes l.fn.lines) (string_bytes l.lines)
    × (l.number ≤ l.end)
    × (l.directory.told + l.fn.told ≡ l.fn.directory.told + l.number)
    × (l.directory.parcel ≡ l.fn.directory.parcel)
    × (l.directory.text ≡ l.fn.directory.text)

abbrev pub decreases-loop-name : goal.decreases-loop-name
decreases-loop-name l = l.end - l.number
