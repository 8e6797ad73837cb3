use Rattle.std.proofs.Common.{◌++◌}
use Rattle.std.specs.List.{flat_map}
use Rattle.std.specs.List.Sorted.{IsPermutation}
use Rattle.ovl_check.proofs.finish.push_outputs.Given as goal

abbrev pub invariant-loop-parcel : goal.invariant-loop-parcel
invariant-loop-parcel l =
    IsPermutation (l.initial.findings.items ++ flat_map (λ parcel. parcel.out.findings.items) l.yielded) (l.findings.items ++ l.waiting.items)
