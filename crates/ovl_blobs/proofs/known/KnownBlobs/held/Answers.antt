use Rattle.std.proofs.Common.{◌∙◌, sym}
use Rattle.ovl_blobs.proofs.BlobLemmas.{views-ascend}
use Rattle.ovl_blobs.proofs.known.KnownBlobs.held.Goals as goal

pub of-requires : goal.of-requires
of-requires c = sym (views-ascend c.args.blobs.now) ∙ c.requires.ascend
