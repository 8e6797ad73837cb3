-- The contents of blobs by what is known of them.
use Rattle.std.specs.Prelude.{List}
use Rattle.ovl_blobs.specs.declared.contents.BlobInfo.{BlobInfo}
use Rattle.ovl_blobs.specs.declared.known.Source.{Source}
use Rattle.ovl_blobs.specs.declared.known.Source.TheVariants.{Held, Measured}
use Rattle.ovl_blobs.specs.Blobs.{blob_views}
use Rattle.ovl_blobs.specs.Contents.{contents_of}

-- the contents of blobs that are held, or those that were measured
abbrev pub known_contents : Source → List BlobInfo
known_contents (Held held) = contents_of (blob_views held.blobs.elements.now)
known_contents (Measured contents) = contents.elements.now
