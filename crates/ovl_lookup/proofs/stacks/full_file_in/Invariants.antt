use Rattle.std.proofs.Common.{◌≡◌, drop}
use Rattle.ovl_lookup.specs.Merged.{full_file_in}
use Rattle.ovl_lookup.proofs.stacks.full_file_in.Given as goal

-- the file that the layers that are left have is that of all of them
abbrev pub invariant-loop-layer : goal.invariant-loop-layer
invariant-loop-layer l = full_file_in (drop l.layer-index l.layers) l.path ≡ full_file_in l.layers l.path
