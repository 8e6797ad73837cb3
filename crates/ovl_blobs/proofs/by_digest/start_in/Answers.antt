use Rattle.std.proofs.Common.{rules}
use Rattle.std.specs.Prelude.{nat_lt, slice_index}
use Rattle.std.proofs.lemmas.Fn.{always_returns_same}
use Rattle.std.proofs.lemmas.List.Sorted.{IsPartitionedBy-ltb}
use Rattle.ovl_blobs.proofs.NamedLemmas.{firsts-rise}
use Rattle.ovl_blobs.proofs.by_digest.start_in.Goals as goal

pub returns : goal.returns
returns g c = (
  c.partition_point.ensures.bound,
  c.partition_point.ensures.partitioned (λ element. nat_lt (slice_index (g.T.Named.name_of element) 0) c.args.byte) (always_returns_same _ _ _ (λ a r f' k. let m = k.met in search rules))
      (IsPartitionedBy-ltb (λ element. slice_index (g.T.Named.name_of element) 0) c.args.elements.now c.args.byte (firsts-rise g.T.Named.name_of c.args.elements.now c.requires)),
)
