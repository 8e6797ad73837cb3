-- Which stacks are sound, by their findings.
use Rattle.std.proofs.Common.{◌≡◌, ℕ, ◌+◌, Bool, true, false, ◌&&◌, ◌||◌, not, List, [], ◌∷◌, refl, sym, ap, ◌∙◌, map, filter, if◌then◌else◌}
use Rattle.std.specs.List.{list_any, list_all, flat_map}
use Rattle.std.proofs.lemmas.List.Folds.{list_any-append}
use Rattle.ovl_layer.specs.Layers.{Entries, Entry}
use Rattle.ovl_lookup.specs.Stacks.{StackView}
use Rattle.ovl_names.specs.Paths.{PathNames}
use Rattle.ovl_lookup.specs.Sound.{redirect_is_malformed, redirect_is_lost, redirect_is_of_wrong_kind, redirect_is_double, redirect_is_open, data_is_missing, data_is_of_other_size, is_faulty, are_sound}
use Rattle.ovl_check.specs.declared.findings.Code.{Code}
use Rattle.ovl_check.specs.declared.findings.Finding.{Finding}
use Rattle.ovl_check.specs.Codes.{all_codes, is_layer_fault, is_blob_fault}
use Rattle.ovl_blobs.specs.Blobs.{BlobView}
use Rattle.ovl_check.specs.Conditions.{holds}
use Rattle.ovl_check.specs.Findings.{finding, any_code, findings_at, findings_in, data_findings_from, findings_from}
use Rattle.ovl_check.specs.Laws.{FindingsTellSoundness}
use Rattle.ovl_check.proofs.ListFacts.{any-map}

-- ---- tests of lists

kept : {X : Type 0} (p : X → Bool) (x : X) (xs : List X) (b : Bool) → list_any p (if b then x ∷ xs else xs) ≡ ((b && p x) || list_any p xs)
kept p x xs true = refl
kept p x xs false = refl

pub any-filter : {X : Type 0} (h p : X → Bool) (xs : List X) → list_any p (filter h xs) ≡ list_any (λ x. h x && p x) xs
any-filter h p [] = refl
any-filter h p (x ∷ xs) = kept p x (filter h xs) (h x) ∙ ap (λ b. (h x && p x) || b) (any-filter h p xs)

not-or : (a b : Bool) → not (a || b) ≡ (not a && not b)
not-or true b = refl
not-or false b = refl

and-turned : (a b : Bool) → (a && b) ≡ (b && a)
and-turned true true = refl
and-turned true false = refl
and-turned false true = refl
and-turned false false = refl

-- what any kept element passes, any element passes that passes both tests, whichever is asked first
any-kept : {X : Type 0} (h p : X → Bool) (xs : List X) → list_any p (filter h xs) ≡ list_any h (filter p xs)
any-kept h p xs =
    any-filter h p xs
    ∙ ((λ j. list_any (λ x. and-turned (h x) (p x) j) xs) ∙ sym (any-filter p h xs))

-- ---- an entry, a layer, a stack

abbrev tells : Finding → Bool
tells found = is_layer_fault found.code

-- the codes of layers
abbrev layer_codes : List Code
layer_codes = filter is_layer_fault all_codes

-- what any test of codes says of the findings by which it makes itself known
by_codes : (holding : Code → Bool) (i : ℕ) (path : PathNames)
    → list_any tells (map (finding i path) (filter holding all_codes)) ≡ list_any holding layer_codes
by_codes holding i path =
    any-map (finding i path) tells (filter holding all_codes)
    ∙ any-kept holding is_layer_fault all_codes

-- the same, from the left
regrouped : (a b c d e f g : Bool) → (a || (b || (c || (d || (e || (f || (g || false))))))) ≡ ((((((a || b) || c) || d) || e) || f) || g)
regrouped true b c d e f g = refl
regrouped false true c d e f g = refl
regrouped false false true d e f g = refl
regrouped false false false true e f g = refl
regrouped false false false false true f g = refl
regrouped false false false false false true g = refl
regrouped false false false false false false true = refl
regrouped false false false false false false false = refl

module _ (blobs : List BlobView) (layer : Entries) (below : StackView) (entry : Entry) where
  conditions : list_any (holds blobs layer below entry) layer_codes ≡ is_faulty layer below entry
  conditions = regrouped
      (redirect_is_malformed layer entry.0) (redirect_is_lost layer below entry.0) (redirect_is_of_wrong_kind layer below entry.0) (redirect_is_double layer entry.0)
      (redirect_is_open layer entry.0) (data_is_missing layer below entry.0 entry.1) (data_is_of_other_size layer below entry.0 entry.1)

  at_entry : (i : ℕ) → list_any tells (findings_at any_code blobs i layer below entry) ≡ is_faulty layer below entry
  at_entry i = by_codes (holds blobs layer below entry) i entry.0 ∙ conditions

-- findings of entries, where those of each say whether it is faulty
over_entries : (found : Entry → List Finding) (faulty : Entry → Bool) → ((entry : Entry) → list_any tells (found entry) ≡ faulty entry) → (entries : Entries) →
    list_all (λ entry. not (faulty entry)) entries ≡ not (list_any tells (flat_map found entries))
over_entries found faulty one [] = refl
over_entries found faulty one (entry ∷ entries) =
    sym (
    ap not (list_any-append tells (found entry) (flat_map found entries))
    ∙ not-or (list_any tells (found entry)) (list_any tells (flat_map found entries))
    ∙ ap (λ b. not b && not (list_any tells (flat_map found entries))) (one entry)
    ∙ ap (λ b. not (faulty entry) && b) (sym (over_entries found faulty one entries))
    )

-- findings of blobs say nothing of it
silent : (found : Entry → List Finding) → ((entry : Entry) → list_any tells (found entry) ≡ false) → (entries : Entries) → list_any tells (flat_map found entries) ≡ false
silent found one [] = refl
silent found one (entry ∷ entries) = list_any-append tells (found entry) (flat_map found entries) ∙ (λ j. one entry j || silent found one entries j)

data_silent : (blobs : List BlobView) (stack : StackView) (i : ℕ) (layers : List Entries) → list_any tells (data_findings_from blobs stack i layers) ≡ false
data_silent blobs stack i [] = refl
data_silent blobs stack i (layer ∷ layers) =
    let below : StackView = record stack { layers = [] } in
    list_any-append tells (findings_in is_blob_fault blobs i layer below) (data_findings_from blobs stack (i + 1) layers)
    ∙ (λ j. silent (findings_at is_blob_fault blobs i layer below) (λ entry. by_codes (λ code. is_blob_fault code && holds blobs layer below entry code) i entry.0) layer j
    || data_silent blobs stack (i + 1) layers j)

from_layers : (blobs : List BlobView) (stack : StackView) (i : ℕ) (layers : List Entries) → are_sound stack layers ≡ not (list_any tells (findings_from blobs stack i layers))
from_layers blobs stack i [] = sym (ap not (data_silent blobs stack i stack.data_only))
from_layers blobs stack i (layer ∷ layers) =
    let below : StackView = record stack { layers = layers } in
    sym (
    ap not (list_any-append tells (findings_in any_code blobs i layer below) (findings_from blobs stack (i + 1) layers))
    ∙ not-or (list_any tells (findings_in any_code blobs i layer below)) (list_any tells (findings_from blobs stack (i + 1) layers))
    ∙ ap (λ b. b && not (list_any tells (findings_from blobs stack (i + 1) layers))) (sym (over_entries (findings_at any_code blobs i layer below) (is_faulty layer below) (λ entry. at_entry blobs layer below entry i) layer))
    ∙ ap (λ b. list_all (λ entry. not (is_faulty layer below entry)) layer && b) (sym (from_layers blobs stack (i + 1) layers))
    )

pub findings-tell : FindingsTellSoundness
findings-tell blobs stack = from_layers blobs stack 0 stack.layers
