use Rattle.std.proofs.Common.{◌≡◌, Ok, map}
use Rattle.ovl_engine.specs.Refusals.{layers_from}
use Rattle.ovl_engine.proofs.stacks.read_share.Given as goal

-- the layers of the manifests so far
abbrev pub invariant-loop-manifest : goal.invariant-loop-manifest
invariant-loop-manifest g l = layers_from l.fn.first (map g.M.AsSlice.items l.yielded) ≡ Ok l.layers.items
