use Rattle.std.proofs.Common.{◌∙◌, ap, map, subst, sym, ℕ, List}
use Rattle.std.specs.List.Sorted.{IsStrictlySortedBy}
use Rattle.std.specs.Map.{keys_of}
use Rattle.std.proofs.lemmas.Simd.{map-map}
use Rattle.ovl_blobs.specs.declared.blobs.Blob.{Blob}
use Rattle.ovl_blobs.specs.Blobs.{digest_cmp}
use Rattle.ovl_files.specs.declared.blob_folder.BlobFile.{BlobFile}
use Rattle.ovl_files.proofs.Ascending.{ascending_blobs}
use Rattle.ovl_files.proofs.blob_folder.read_blobs.Goals as goal

pub returns-clause-ordered : goal.returns-clause-ordered
returns-clause-ordered g c =
    let names = sym (map-map (λ (entry : List ℕ × ℕ). entry.0) (λ (file : BlobFile). (file.name, file.length)) c.in_ok-files.files.items) ∙ ap keys_of c.in_ok-files.ensures.same in
    let same = ap (λ blobs. map (λ (blob : Blob). blob.name) blobs.items) c.into_blobs.ensures.same ∙ (c.in_ok-held.ensures.same ∙ (ap (map (λ (file : BlobFile). file.name)) c.deref.ensures.value ∙ names)) in
    ascending_blobs c.into_blobs.result.items (subst (IsStrictlySortedBy digest_cmp) (sym same) c.in_order.ensures.ordered)
