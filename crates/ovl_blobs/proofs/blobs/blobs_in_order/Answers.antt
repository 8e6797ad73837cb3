use Rattle.std.proofs.Common.{◌∙◌, sym}
use Rattle.ovl_blobs.proofs.BlobLemmas.{views-ascend}
use Rattle.ovl_blobs.proofs.blobs.blobs_in_order.Goals as goal

pub returns : goal.returns
returns c = c.in_order.ensures ∙ sym (views-ascend c.args.blobs.now)
