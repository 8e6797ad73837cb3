-- The findings of a stack and its blobs are those by what is reported of the blobs' contents.
use Rattle.std.proofs.Common.{◌≡◌, ℕ, ◌+◌, Bool, true, false, not, Option, Some, None, List, [], ◌∷◌, ◌++◌, refl, sym, ap, ◌∙◌, map, filter, cond, All}
use Rattle.std.specs.Prelude.{⊤, ◌&&◌, MatchOption, ◌==◌, length, is_none}
use Rattle.std.specs.List.{flat_map}
use Rattle.std.specs.Option.{option_map}
use Rattle.std.specs.Str.{bytes_eq}
use Rattle.ovl_inode.specs.Kinds.{size_of, blob_of}
use Rattle.ovl_layer.specs.Layers.{Entries, Entry}
use Rattle.ovl_lookup.specs.Stacks.{StackView}
use Rattle.ovl_lookup.proofs.LawsOfPaths.{all-first, all-rest}
use Rattle.ovl_blobs.specs.declared.contents.BlobInfo.{BlobInfo}
use Rattle.ovl_check.specs.declared.findings.Code.{Code}
use Rattle.ovl_check.specs.declared.findings.Code.TheVariants.{BlobMissing, BlobSize, BlobDigest}
use Rattle.ovl_check.specs.Codes.{all_codes, is_blob_fault}
use Rattle.ovl_blobs.specs.Blobs.{BlobView, is_wrong, find_blob}
use Rattle.ovl_check.specs.Conditions.{has_blob, holds}
use Rattle.ovl_check.specs.Findings.{finding, any_code, findings_at, findings_in, data_findings_from, findings_from}
use Rattle.ovl_check.specs.Contents.{has_content, holds_of_contents, findings_of_contents_at, findings_of_contents_in, data_findings_of_contents_from, findings_of_contents_from, TellsOfNamed, TellsOfLayers}
use Rattle.ovl_blobs.specs.Contents.{content_of, contents_of, find_content}
use Rattle.ovl_check.specs.Laws.{FindingsNeedContents, FindingsNeedNamed}
use Rattle.ovl_blobs.proofs.FindLemmas.{find-content, not-not}

-- ---- lists

filter-same : {X : Type 0} (p q : X → Bool) → ((x : X) → p x ≡ q x) → (xs : List X) → filter p xs ≡ filter q xs
filter-same p q same [] = refl
filter-same p q same (x ∷ xs) =
    ap (λ b. cond b (x ∷ filter p xs) (filter p xs)) (same x)
    ∙ ap (λ (ys : List _). cond (q x) (x ∷ ys) ys) (filter-same p q same xs)

flat_map-same : {X Y : Type 0} (f g : X → List Y) → ((x : X) → f x ≡ g x) → (xs : List X) → flat_map f xs ≡ flat_map g xs
flat_map-same f g same [] = refl
flat_map-same f g same (x ∷ xs) = ap (λ ys. ys ++ flat_map f xs) (same x) ∙ ap (λ ys. g x ++ ys) (flat_map-same f g same xs)

-- ---- the blob of a name

none-told : (found : Option BlobView) → is_none found ≡ is_none (option_map content_of found)
none-told None = refl
none-told (Some blob) = refl

test-told : (test : BlobView → Bool) (told : BlobInfo → Bool) → ((blob : BlobView) → test blob ≡ told (content_of blob)) → (found : Option BlobView) →
    has_blob test found ≡ has_content told (option_map content_of found)
test-told test told same None = refl
test-told test told same (Some blob) = same blob

module _ (blobs : List BlobView) where
  -- the codes on blobs
  missing : (named : Option (List ℕ)) → (elim named as (λ _. Bool) [ Some name ↦ is_none (find_blob blobs name) | None ↦ false ])
      ≡ (elim named as (λ _. Bool) [ Some name ↦ is_none (find_content (contents_of blobs) name) | None ↦ false ])
  missing None = refl
  missing (Some name) = none-told (find_blob blobs name) ∙ ap is_none (sym (find-content name blobs))

  tested : (test : BlobView → Bool) (told : BlobInfo → Bool) → ((blob : BlobView) → test blob ≡ told (content_of blob)) → (named : Option (List ℕ)) →
      (elim named as (λ _. Bool) [ Some name ↦ has_blob test (find_blob blobs name) | None ↦ false ])
      ≡ (elim named as (λ _. Bool) [ Some name ↦ has_content told (find_content (contents_of blobs) name) | None ↦ false ])
  tested test told same None = refl
  tested test told same (Some name) = test-told test told same (find_blob blobs name) ∙ ap (has_content told) (sym (find-content name blobs))

  module _ (layer : Entries) (below : StackView) (entry : Entry) where
    same-code : (code : Code) → holds blobs layer below entry code ≡ holds_of_contents (contents_of blobs) layer below entry code
    same-code BlobMissing = missing (blob_of entry.1)
    same-code BlobSize = tested (λ blob. not (length blob.bytes == size_of entry.1)) (λ content. not (content.size == size_of entry.1)) (λ blob. refl) (blob_of entry.1)
    same-code BlobDigest = tested is_wrong (λ content. not content.is_right) (λ blob. sym (not-not (is_wrong blob))) (blob_of entry.1)
    same-code _ = refl

    at-entry : (sought : Code → Bool) (i : ℕ) → findings_at sought blobs i layer below entry ≡ findings_of_contents_at sought (contents_of blobs) i layer below entry
    at-entry sought i =
        ap (map (finding i entry.0)) (filter-same (λ code. sought code && holds blobs layer below entry code) (λ code. sought code && holds_of_contents (contents_of blobs) layer below entry code)
        (λ code. ap (λ told. sought code && told) (same-code code)) all_codes)

  in-layer : (sought : Code → Bool) (i : ℕ) (layer : Entries) (below : StackView) → findings_in sought blobs i layer below ≡ findings_of_contents_in sought (contents_of blobs) i layer below
  in-layer sought i layer below =
      flat_map-same (findings_at sought blobs i layer below) (findings_of_contents_at sought (contents_of blobs) i layer below) (λ entry. at-entry layer below entry sought i) layer

  from-data : (stack : StackView) (i : ℕ) (layers : List Entries) → data_findings_from blobs stack i layers ≡ data_findings_of_contents_from (contents_of blobs) stack i layers
  from-data stack i [] = refl
  from-data stack i (layer ∷ layers) =
      let below : StackView = record stack { layers = [] } in
      ap (λ found. found ++ data_findings_from blobs stack (i + 1) layers) (in-layer is_blob_fault i layer below)
      ∙ ap (λ found. findings_of_contents_in is_blob_fault (contents_of blobs) i layer below ++ found) (from-data stack (i + 1) layers)

  from-layers : (stack : StackView) (i : ℕ) (layers : List Entries) → findings_from blobs stack i layers ≡ findings_of_contents_from (contents_of blobs) stack i layers
  from-layers stack i [] = from-data stack i stack.data_only
  from-layers stack i (layer ∷ layers) =
      let below : StackView = record stack { layers = layers } in
      ap (λ found. found ++ findings_from blobs stack (i + 1) layers) (in-layer any_code i layer below)
      ∙ ap (λ found. findings_of_contents_in any_code (contents_of blobs) i layer below ++ found) (from-layers stack (i + 1) layers)

pub findings-need : FindingsNeedContents
findings-need blobs stack = from-layers blobs stack 0 stack.layers

-- ---- what the layers name

flat_map-each : {X Y : Type 0} (f g : X → List Y) (P : X → Type 0) → ((x : X) → P x → f x ≡ g x) → (xs : List X) → All P xs → flat_map f xs ≡ flat_map g xs
flat_map-each f g P same [] each = refl
flat_map-each f g P same (x ∷ xs) each =
    ap (λ ys. ys ++ flat_map f xs) (same x (all-first P x xs each))
    ∙ ap (λ ys. g x ++ ys) (flat_map-each f g P same xs (all-rest P x xs each))

module _ (contents others : List BlobInfo) where
  abbrev AgreeAt : Option (List ℕ) → Type 0
  AgreeAt named = MatchOption named ⊤ (λ name. find_content contents name ≡ find_content others name)

  named-missing : (named : Option (List ℕ)) → AgreeAt named → (elim named as (λ _. Bool) [ Some name ↦ is_none (find_content contents name) | None ↦ false ])
      ≡ (elim named as (λ _. Bool) [ Some name ↦ is_none (find_content others name) | None ↦ false ])
  named-missing None agree = refl
  named-missing (Some name) agree = ap is_none agree

  named-tested : (test : BlobInfo → Bool) (named : Option (List ℕ)) → AgreeAt named → (elim named as (λ _. Bool) [ Some name ↦ has_content test (find_content contents name) | None ↦ false ])
      ≡ (elim named as (λ _. Bool) [ Some name ↦ has_content test (find_content others name) | None ↦ false ])
  named-tested test None agree = refl
  named-tested test (Some name) agree = ap (has_content test) agree

  module _ (layer : Entries) (below : StackView) where
    named-code : (entry : Entry) → TellsOfNamed contents others entry.1 → (code : Code) → holds_of_contents contents layer below entry code ≡ holds_of_contents others layer below entry code
    named-code entry agree BlobMissing = named-missing (blob_of entry.1) agree
    named-code entry agree BlobSize = named-tested (λ content. not (content.size == size_of entry.1)) (blob_of entry.1) agree
    named-code entry agree BlobDigest = named-tested (λ content. not content.is_right) (blob_of entry.1) agree
    named-code entry agree _ = refl

    named-entry : (sought : Code → Bool) (i : ℕ) (entry : Entry) → TellsOfNamed contents others entry.1 → findings_of_contents_at sought contents i layer below entry ≡ findings_of_contents_at sought others i layer below entry
    named-entry sought i entry agree =
        ap (map (finding i entry.0)) (filter-same (λ code. sought code && holds_of_contents contents layer below entry code) (λ code. sought code && holds_of_contents others layer below entry code)
        (λ code. ap (λ told. sought code && told) (named-code entry agree code)) all_codes)

  abbrev AgreeIn : Entries → Type 0
  AgreeIn layer = All (λ entry. TellsOfNamed contents others entry.1) layer

  named-layer : (sought : Code → Bool) (i : ℕ) (layer : Entries) (below : StackView) → AgreeIn layer → findings_of_contents_in sought contents i layer below ≡ findings_of_contents_in sought others i layer below
  named-layer sought i layer below each =
      flat_map-each (findings_of_contents_at sought contents i layer below) (findings_of_contents_at sought others i layer below) (λ entry. TellsOfNamed contents others entry.1) (named-entry layer below sought i) layer each

  named-data : (stack : StackView) (i : ℕ) (layers : List Entries) → TellsOfLayers contents others layers → data_findings_of_contents_from contents stack i layers ≡ data_findings_of_contents_from others stack i layers
  named-data stack i [] each = refl
  named-data stack i (layer ∷ layers) each =
      let below : StackView = record stack { layers = [] } in
      ap (λ found. found ++ data_findings_of_contents_from contents stack (i + 1) layers) (named-layer is_blob_fault i layer below (all-first AgreeIn layer layers each))
      ∙ ap (λ found. findings_of_contents_in is_blob_fault others i layer below ++ found) (named-data stack (i + 1) layers (all-rest AgreeIn layer layers each))

  named-layers : (stack : StackView) (i : ℕ) (layers : List Entries) → TellsOfLayers contents others (layers ++ stack.data_only) → findings_of_contents_from contents stack i layers ≡ findings_of_contents_from others stack i layers
  named-layers stack i [] each = named-data stack i stack.data_only each
  named-layers stack i (layer ∷ layers) each =
      let below : StackView = record stack { layers = layers } in
      ap (λ found. found ++ findings_of_contents_from contents stack (i + 1) layers) (named-layer any_code i layer below (all-first AgreeIn layer (layers ++ stack.data_only) each))
      ∙ ap (λ found. findings_of_contents_in any_code others i layer below ++ found) (named-layers stack (i + 1) layers (all-rest AgreeIn layer (layers ++ stack.data_only) each))

pub findings-need-named : FindingsNeedNamed
findings-need-named contents others stack agree = named-layers contents others stack 0 stack.layers agree
