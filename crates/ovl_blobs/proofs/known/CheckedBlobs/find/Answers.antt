use Rattle.std.proofs.Common.{◌≡◌, ◌∙◌, sym, ap, subst, List, ℕ, Some, None, true}
use Rattle.std.specs.Option.{option_map}
use Rattle.std.specs.Str.{bytes_eq}
use Rattle.ovl_names.specs.Order.{ascends}
use Rattle.ovl_board.proofs.LawsOfMembers.{Contains-In}
use Rattle.ovl_blobs.specs.Blobs.{BlobView, blob_view, blob_views, digest_cmp, find_blob}
use Rattle.ovl_blobs.specs.Contents.{content_of}
use Rattle.ovl_blobs.proofs.BlobLemmas.{views-ascend, wrong-names-ascend}
use Rattle.ovl_blobs.proofs.FindLemmas.{find-content}
use Rattle.ovl_blobs.proofs.ListFacts.{find-map}
use Rattle.ovl_blobs.proofs.NamedLemmas.{find-there}
use Rattle.ovl_blobs.proofs.known.CheckedBlobs.find.Goals as goal

pub content_held-requires : goal.content_held-requires
content_held-requires c =
    let held = c.args.self.now in
    let blobs = held.blobs.elements.now in
    subst (λ (ns : List (List ℕ)). ascends digest_cmp ns ≡ true) (sym held.all_wrong) (wrong-names-ascend (blob_views blobs) (views-ascend blobs ∙ held.blobs.ascend))

pub returns-in-Some : goal.returns-in-Some
returns-in-Some c =
    let held = c.args.self.now in
    let blobs = held.blobs.elements.now in
    let name = c.args.name.now in
    let views = blob_views blobs in
    let view = blob_view c.in-Some.blob.now in
    let here : find_blob views name ≡ Some view = find-map blob_view (λ (v : BlobView). bytes_eq v.name name) blobs ∙ ap (option_map blob_view) (sym c.in-Some.ensures) in
    ap Some (c.content_held.ensures views (views-ascend blobs ∙ held.blobs.ascend) (Contains-In view views (find-there (λ (b : BlobView). b.name) views name view here)) held.all_wrong)
    ∙ (sym (ap (option_map content_of) here)
    ∙ sym (find-content name views))

pub returns-in-None : goal.returns-in-None
returns-in-None c =
    let blobs = c.args.self.now.blobs.elements.now in
    let name = c.args.name.now in
    let views = blob_views blobs in
    let none : None ≡ find_blob views name = ap (option_map blob_view) c.in-None.ensures ∙ sym (find-map blob_view (λ (v : BlobView). bytes_eq v.name name) blobs) in
    ap (option_map content_of) none ∙ sym (find-content name views)
