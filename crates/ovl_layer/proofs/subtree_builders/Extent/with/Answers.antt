use Rattle.std.proofs.Common.{ap, arith, length}
use Rattle.ovl_layer.proofs.SubtreeBuilderLemmas.{extent-more}
use Rattle.ovl_layer.proofs.subtree_builders.Extent.with.Goals as goal

pub returns : goal.returns
returns c old kids inode own below =
    let more = extent-more old kids c.args.name.now inode in
    record {
      count = omega (arith, more.0, own.count, below.count);
      names = omega (arith, more.1, own.names, below.names, c.max.ensures);
      bytes = omega (arith, more.2, own.bytes, below.bytes, c.max-2.ensures, ap length c.as_str.ensures.value);
    }
