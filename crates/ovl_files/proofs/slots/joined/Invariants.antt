use Rattle.std.proofs.Common.{◌≡◌, ℕ, length}
use Rattle.std.specs.Prelude.{flat_map}
use Rattle.ovl_files.specs.Slots.{AreSlotsOf, slot_at, told_at, told_by}
use Rattle.ovl_files.proofs.SlotLemmas.{FirstOf}
use Rattle.ovl_files.proofs.slots.joined.Given as goal

-- what is reported in the shares so far is in its slots, nothing else is, and the first of their stops is kept
abbrev pub invariant-loop-share : goal.invariant-loop-share
invariant-loop-share l =
    (length l.slots.told.items ≡ length l.fn.names) × (AreSlotsOf l.fn.names l.slots
    × (((number : ℕ) → slot_at l.slots number ≡ told_at (flat_map told_by l.yielded) number)
    × FirstOf l.yielded l.first))
