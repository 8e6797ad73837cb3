use Rattle.ovl_blobs.proofs.FindLemmas.{among}
use Rattle.ovl_blobs.proofs.contents.is_among.Goals as goal

pub returns : goal.returns
returns c = among c.args.names.now c.args.name.now c.requires c.binary_search.result c.is_ok.result c.binary_search.ensures.bound c.binary_search.ensures.position c.is_ok.ensures.value
