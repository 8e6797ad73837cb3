-- The names of blobs with wrong bytes, and one that is sought among them.
use Rattle.std.proofs.Common.{◌≡◌, not, ◌+◌, ◌<◌, ◌∷◌, ◌++◌, [], get_or, take, ℕ, Bool, true, false, Option, Some, None, Result, Ok, Err, List, length, refl, sym, ap, ◌∙◌, subst}
use Rattle.std.specs.Prelude.{filter, IsTrue, Contains, ◌↔◌}
use Rattle.std.proofs.lemmas.List.{take_more, map-append}
use Rattle.std.specs.List.Sorted.{IsBinarySearchResult, IsSearchInRange}
use Rattle.std.specs.Result.{is_ok}
use Rattle.std.specs.Option.{option_map}
use Rattle.std.specs.Str.{bytes_eq}
use Rattle.std.specs.Cmp.Lexicographic.{bytes_decides}
use Rattle.ovl_names.specs.Order.{ascends}
use Rattle.ovl_board.proofs.LawsOfMembers.{In, In-map, In-map-cases, get_or-In, Contains-In, In-Contains, In-filter-cases}
use Rattle.ovl_blobs.specs.declared.blobs.Blob.{Blob}
use Rattle.ovl_blobs.specs.Blobs.{BlobView, blob_view, blob_views, digest_cmp, blob_cmp, are_in_order, is_wrong, wrong_names, find_blob}
use Rattle.ovl_blobs.specs.declared.contents.BlobInfo.{BlobInfo}
use Rattle.ovl_blobs.specs.Contents.{content_of, contents_of, find_content}
use Rattle.ovl_blobs.proofs.ListFacts.{find-map}
use Rattle.ovl_blobs.proofs.Ascent.{Rises-ascends, In-filter}
use Rattle.ovl_blobs.proofs.NamedLemmas.{find-In, find-there, named-there, named-nowhere}

pub not-not : (b : Bool) → not (not b) ≡ b
not-not true = refl
not-not false = refl

module _ (blobs : List BlobView) (up : are_in_order blobs ≡ true) where
  same_blob : (one other : BlobView) → In one blobs → In other blobs → one.name ≡ other.name → one ≡ other
  same_blob one other h k same =
      let rise = Rises-ascends blob_cmp blobs up in
      let name : BlobView → List ℕ = λ b. b.name in
      ap (λ (o : Option BlobView). elim o as (λ _. BlobView) [ Some b ↦ b | None ↦ one ])
      (sym (find-In name blobs other.name one rise h same) ∙ find-In name blobs other.name other rise k refl)

  -- the name of a blob is among them where its bytes are wrong
  pub wrong-In : (blob : BlobView) → In blob blobs → is_wrong blob ≡ true → In blob.name (wrong_names blobs)
  wrong-In blob h is = In-map (λ (b : BlobView). b.name) blob (filter is_wrong blobs) (In-filter is_wrong blob blobs h is)

  pub In-wrong : (blob : BlobView) → In blob blobs → In blob.name (wrong_names blobs) → is_wrong blob ≡ true
  In-wrong blob h k =
      let one = In-map-cases (λ (b : BlobView). b.name) blob.name (filter is_wrong blobs) k in
      let there = In-filter-cases is_wrong one.0 blobs one.1.0 in
      ap is_wrong (same_blob blob one.0 h there.0 one.1.1) ∙ there.1

pub among : (names : List (List ℕ)) (name : List ℕ) → ascends digest_cmp names ≡ true → (answer : Result ℕ ℕ) (r : Bool) → IsSearchInRange answer (length names) → IsBinarySearchResult (λ n. digest_cmp n name) names answer → r ≡ is_ok answer → IsTrue r ↔ Contains names name
among names name up (Ok spot) r bound position is = (
  (λ t. Contains-In name names (subst (λ n. In n names) (named-there (λ n. n) names spot name name position) (get_or-In names spot name bound))),
  λ h. is,
)
among names name up (Err spot) r bound position is = (
  (λ t. let bad : true ≡ false = sym t ∙ is in absurd (cc)),
  (λ h.
      let bad : true ≡ false = sym ((bytes_decides name name).1 refl) ∙ named-nowhere (λ n. n) names spot name up position name (In-Contains name names h) in
      absurd (cc)),
)

-- what says whether a name is among them says whether its blob's bytes are wrong
pub wrong-told : (blobs : List BlobView) → are_in_order blobs ≡ true → (blob : BlobView) → In blob blobs → (r : Bool) → IsTrue r ↔ Contains (wrong_names blobs) blob.name → r ≡ is_wrong blob
wrong-told blobs up blob here r told = by r (is_wrong blob) refl told
  where
    by : (r w : Bool) → is_wrong blob ≡ w → IsTrue r ↔ Contains (wrong_names blobs) blob.name → r ≡ is_wrong blob
    by true w e told = sym (In-wrong blobs up blob here (In-Contains blob.name (wrong_names blobs) (told.0 refl)))
    by false true e told = told.1 (Contains-In blob.name (wrong_names blobs) (wrong-In blobs up blob here e)) ∙ sym e
    by false false e told = sym e

-- the content of a name
pub find-content : (name : List ℕ) (blobs : List BlobView) → find_content (contents_of blobs) name ≡ option_map content_of (find_blob blobs name)
find-content name blobs = find-map content_of (λ (content : BlobInfo). bytes_eq content.name name) blobs

-- what is reported of one more blob
pub contents-more : (blobs : List Blob) (i : ℕ) (blob : Blob) → i < length blobs → blob ≡ get_or blobs i blob
    → contents_of (blob_views (take (i + 1) blobs)) ≡ contents_of (blob_views (take i blobs)) ++ content_of (blob_view blob) ∷ []
contents-more blobs i blob inside is =
    ap (λ (bs : List Blob). contents_of (blob_views bs)) (take_more blobs i blob inside ∙ ap (λ (b : Blob). take i blobs ++ b ∷ []) (sym is))
    ∙ (ap contents_of (map-append blob_view (take i blobs) (blob ∷ []))
    ∙ map-append content_of (blob_views (take i blobs)) (blob_view blob ∷ []))
