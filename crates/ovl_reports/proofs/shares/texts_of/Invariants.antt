use Rattle.std.proofs.Common.{◌≡◌, Ok, map}
use Rattle.ovl_reports.proofs.shares.texts_of.Given as goal

-- the texts of the parts so far
abbrev pub invariant-loop-part : goal.invariant-loop-part
invariant-loop-part l = l.yielded ≡ map Ok l.texts.items
