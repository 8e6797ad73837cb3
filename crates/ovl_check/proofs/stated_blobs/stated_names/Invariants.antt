use Rattle.std.proofs.Common.{◌≡◌, take}
use Rattle.std.specs.List.{flat_map}
use Rattle.ovl_lookup.specs.Stacks.{all_layers}
use Rattle.ovl_check.specs.Stated.{names_in}
use Rattle.ovl_check.proofs.stated_blobs.stated_names.Given as goal

-- the names of the layers so far
abbrev pub invariant-loop-i : goal.invariant-loop-i
invariant-loop-i l = l.names.items ≡ flat_map names_in (take l.i (all_layers l.fn.stack))
