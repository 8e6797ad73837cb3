use Rattle.std.proofs.Common.{sym, ◌∙◌, arith}
use Rattle.std.specs.BTreeSet.{insert_key}
use Rattle.ovl_names.specs.Names.{name_cmp}
use Rattle.ovl_blobs.proofs.BlobLemmas.{digits-more}
use Rattle.ovl_blobs.proofs.blobs.digits_of_names.Goals as goal

pub loop-blob-preserved : goal.loop-blob-preserved
loop-blob-preserved c =
    c.in_ok-insert.ensures.keys
    ∙ ((λ j. insert_key name_cmp (c.loop-blob.invariant j) (c.in_ok-digits_name.ensures j))
    ∙ sym (digits-more c.args.blobs.now c.loop-blob.blob-index c.blob-item.result (omega arith) c.blob-item.is))
