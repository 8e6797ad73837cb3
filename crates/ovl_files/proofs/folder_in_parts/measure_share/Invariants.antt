use Rattle.std.proofs.Common.{All}
use Rattle.ovl_files.specs.Slots.{IsToldAmong}
use Rattle.ovl_files.proofs.folder_in_parts.measure_share.Given as goal

-- what is reported so far is reported of the names
abbrev pub invariant-loop : goal.invariant-loop
invariant-loop g l = All (IsToldAmong l.fn.names) l.told.items
