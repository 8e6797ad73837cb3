use Rattle.ovl_blobs.proofs.BlobLemmas.{blob_kids-lawful}
use Rattle.ovl_blobs.proofs.blobs.BlobWorkWork.deepest.Goals as goal

pub returns-clause-lawful : goal.returns-clause-lawful
returns-clause-lawful c = blob_kids-lawful c.args.self.now
