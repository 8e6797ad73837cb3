use Rattle.std.proofs.Common.{take}
use Rattle.ovl_blobs.specs.Contents.{AreTold}
use Rattle.ovl_files.specs.Slots.{IsAsSaid}
use Rattle.ovl_files.proofs.folder_in_parts.contents_of.Given as goal

-- the contents of the names so far
abbrev pub invariant-loop-number : goal.invariant-loop-number
invariant-loop-number g l = AreTold (IsAsSaid l.fn.names l.fn.slots) (take l.number l.fn.names) l.contents.items
