use Rattle.std.proofs.Common.{◌≡◌, List, ℕ, length, not, ap, subst, ◌∙◌}
use Rattle.std.specs.Prelude.{IsTrue, Contains, ◌↔◌}
use Rattle.ovl_board.proofs.LawsOfMembers.{In-Contains}
use Rattle.ovl_blobs.specs.Blobs.{blob_view}
use Rattle.ovl_blobs.proofs.FindLemmas.{wrong-told}
use Rattle.ovl_blobs.proofs.contents.content_held.Goals as goal

pub returns : goal.returns
returns c blobs up here all =
    let blob = c.args.blob.now in
    let wrong = wrong-told blobs up (blob_view blob) (In-Contains (blob_view blob) blobs here) c.is_among.result
    (subst (λ (ns : List (List ℕ)). IsTrue c.is_among.result ↔ Contains ns blob.name) all c.is_among.ensures) in
    let size : c.len.result ≡ length blob.bytes.items = c.len.ensures ∙ blob.bytes.ok.0 in
    λ j. record { name = blob.name; size = size j; is_right = not (wrong j) }
