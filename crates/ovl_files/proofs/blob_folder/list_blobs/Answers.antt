use Rattle.ovl_files.proofs.Listings.{names_spelt}
use Rattle.ovl_files.proofs.blob_folder.list_blobs.Goals as goal

pub returns-clause-each : goal.returns-clause-each
returns-clause-each g c =
    names_spelt c.in_ok-files.files.items c.in_ok-listing_of.field-0.lengths (rw (c.deref.ensures.value) at c.in_ok-listing_of.ensures.lengths) c.in_ok-listing_of.ensures.ordered c.in_ok-files.ensures.each
