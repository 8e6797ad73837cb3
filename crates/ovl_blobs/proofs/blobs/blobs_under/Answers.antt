use Rattle.std.proofs.Common.{◌∙◌, arith, sym}
use Rattle.ovl_blobs.specs.declared.blobs.Blob.{Blob}
use Rattle.ovl_blobs.proofs.BlobLemmas.{views-ascend}
use Rattle.ovl_blobs.proofs.BlobRanges.{none-under, range-under}
use Rattle.ovl_blobs.proofs.NamedLemmas.{part-bounds}
use Rattle.ovl_blobs.proofs.blobs.blobs_under.Goals as goal

pub start_in-start-requires : goal.start_in-start-requires
start_in-start-requires c = sym (views-ascend c.args.blobs.now) ∙ c.requires.in_order

pub start_in-end-requires : goal.start_in-end-requires
start_in-end-requires c = sym (views-ascend c.args.blobs.now) ∙ c.requires.in_order

pub slice_bounds-result-count : goal.slice_bounds-result-count
slice_bounds-result-count c = (part-bounds (λ (blob : Blob). blob.name) c.args.blobs.now c.from-first.result c.start_in-start.result c.start_in-end.result c.start_in-start.ensures c.start_in-end.ensures).0

pub slice_bounds-result-start : goal.slice_bounds-result-start
slice_bounds-result-start c =
    let bounds = part-bounds (λ (blob : Blob). blob.name) c.args.blobs.now c.from-first.result c.start_in-start.result c.start_in-end.result c.start_in-start.ensures c.start_in-end.ensures in
    omega (arith, bounds.0, bounds.1)

pub returns-then-is_err : goal.returns-then-is_err
returns-then-is_err c =
    none-under c.args.digits.now c.args.blobs.now c.requires.digests c.decode_to_slice.result c.decode_to_slice.new.out
    c.decode_to_slice.ensures.value (sym c.is_err.ensures.value ∙ c.if-is_err.true)

pub returns : goal.returns
returns c =
    range-under c.args.digits.now c.args.blobs.now c.requires.digests c.decode_to_slice.result c.decode_to_slice.new.out c.decode_to_slice.ensures.value
    (sym c.is_err.ensures.value ∙ c.if-is_err.false) c.from-first.result c.start_in-start.result c.start_in-end.result c.from-first.ensures c.start_in-start.ensures c.start_in-end.ensures
