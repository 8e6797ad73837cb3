use Rattle.std.proofs.Common.{◌≡◌}
use Rattle.std.specs.List.{flat_map}
use Rattle.ovl_blobs.proofs.blobs.outputs.Given as goal

abbrev pub invariant-loop-parcel : goal.invariant-loop-parcel
invariant-loop-parcel l = l.names.items ≡ flat_map (λ parcel. parcel.out.items) l.yielded
