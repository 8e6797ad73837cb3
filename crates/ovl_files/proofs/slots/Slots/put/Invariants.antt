use Rattle.std.proofs.Common.{◌≡◌, ℕ, length, take}
use Rattle.std.specs.Option.{option_or}
use Rattle.ovl_files.specs.Slots.{AreSlotsOf, slot_at, told_at}
use Rattle.ovl_files.proofs.slots.Slots.put.Given as goal

-- what is reported so far is in its slots, and nothing else is new
abbrev pub invariant-loop-one : goal.invariant-loop-one
invariant-loop-one l =
    (length l.self.told.items ≡ length l.fn.names) × (AreSlotsOf l.fn.names l.self
    × ((number : ℕ) → slot_at l.self number ≡ option_or (told_at (take l.one-index l.fn.told) number) (slot_at l.initial.self number)))
