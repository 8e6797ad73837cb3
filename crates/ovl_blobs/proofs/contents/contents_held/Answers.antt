use Rattle.std.proofs.Common.{◌≡◌, ◌∙◌, ◌∷◌, ◌++◌, ◌<◌, [], List, ℕ, sym, ap, subst, length, arith}
use Rattle.std.specs.Prelude.{Contains, true}
use Rattle.std.proofs.lemmas.List.{take_all}
use Rattle.ovl_names.specs.Order.{ascends}
use Rattle.ovl_board.proofs.LawsOfMembers.{In, Contains-In, In-map, get_or-In}
use Rattle.ovl_blobs.specs.declared.blobs.Blob.{Blob}
use Rattle.ovl_blobs.specs.Blobs.{blob_view, blob_views, digest_cmp}
use Rattle.ovl_blobs.specs.Contents.{content_of, contents_of, content_cmp, contents_ascend}
use Rattle.ovl_blobs.proofs.Ascent.{ascends-map}
use Rattle.ovl_blobs.proofs.BlobLemmas.{wrong-names-ascend}
use Rattle.ovl_blobs.proofs.FindLemmas.{contents-more}
use Rattle.ovl_blobs.proofs.contents.contents_held.Goals as goal

pub content_held-requires : goal.content_held-requires
content_held-requires c =
    subst (λ (ns : List (List ℕ)). ascends digest_cmp ns ≡ true) (sym c.requires.all_wrong) (wrong-names-ascend (blob_views c.args.blobs.now) c.requires.ascend)

pub loop-blob-preserved : goal.loop-blob-preserved
loop-blob-preserved c =
    let blobs = c.args.blobs.now in
    let blob = c.blob-item.result in
    let i = c.loop-blob.blob-index in
    let inside : i < length blobs = omega arith in
    let here : Contains (blob_views blobs) (blob_view blob) =
    Contains-In (blob_view blob) (blob_views blobs) (In-map blob_view blob blobs (subst (λ (b : Blob). In b blobs) (sym c.blob-item.is) (get_or-In blobs i blob inside))) in
    c.in_ok-push.ensures.items
    ∙ ((λ j. c.loop-blob.invariant j ++ c.content_held.ensures (blob_views blobs) c.requires.ascend here c.requires.all_wrong j ∷ [])
    ∙ sym (contents-more blobs i blob inside c.blob-item.is))

pub returns-clause-ascend : goal.returns-clause-ascend
returns-clause-ascend c =
    let blobs = c.args.blobs.now in
    let views = blob_views blobs in
    let all : c.loop-blob.contents.items ≡ contents_of views =
    c.loop-blob.invariant ∙ ap (λ (bs : List Blob). contents_of (blob_views bs)) (take_all c.loop-blob.blob-index blobs (omega arith)) in
    ap contents_ascend all ∙ (ascends-map content_cmp content_of views ∙ c.requires.ascend)
