use Rattle.std.proofs.Common.{◌≡◌, ◌∙◌, ◌+◌, ◌-◌, ◌^◌, min}
use Rattle.ovl_files.proofs.Listings.{bytes_more, length_more}
use Rattle.ovl_files.proofs.blob_folder.listing_of.Goals as goal

pub loop-file-preserved : goal.loop-file-preserved
loop-file-preserved c =
    let listed = c.args.listed.now in
    let place = c.loop-file.file-index in
    let file = c.file-item.result in
    let sum : c.saturating_add-bytes.result ≡ min (c.loop-file.bytes + file.length) (2 ^ 64 - 1) = c.saturating_add-bytes.ensures in (
      λ name. c.in_ok-insert.ensures.updates.0 name ∙ length_more listed place file c.loop-file-test.true c.file-item.is name _ (c.loop-file.invariant.0 name),
      (c.insert.ensures.ordered, sum ∙ bytes_more listed place file c.loop-file-test.true c.file-item.is c.loop-file.bytes c.loop-file.invariant.1.1),
    )
