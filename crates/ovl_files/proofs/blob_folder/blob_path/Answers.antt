use Rattle.ovl_files.proofs.Spelling.{digest_spelt}
use Rattle.ovl_files.proofs.blob_folder.blob_path.Goals as goal

pub returns-clause-spelt : goal.returns-clause-spelt
returns-clause-spelt c = digest_spelt c.args.name.now c.digits.ensures.digest
