use Rattle.std.proofs.Common.{◌≡◌, ◌++◌, length}
use Rattle.ovl_names.specs.Paths.{PathNames}
use Rattle.ovl_lookup.specs.Passes.{IsOwnDirectory}
use Rattle.ovl_lookup.proofs.steps.descend.Given as goal

-- the names so far lead to a directory, that of the row
abbrev pub invariant-loop-name : goal.invariant-loop-name
invariant-loop-name l =
    (above : PathNames) × (above ++ l.name-iterator ≡ l.rope) × (l.depth ≡ length above)
    × IsOwnDirectory l.sheet above l.own
