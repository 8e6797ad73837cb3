-- A layer without marks, and the layer of what a stack shows: what is found in it as a stack of its own.
use Rattle.std.proofs.Common.{◌≡◌, ◌<◌, ℕ, zero, suc, ◌+◌, Bool, true, false, cond, Option, Some, None, List, [], ◌∷◌, length, get_or, map, filter, refl, sym, ap, ◌∙◌, arith}
use Rattle.std.specs.Prelude.{◌||◌, ◌&&◌, not, is_some}
use Rattle.std.specs.List.{All, list_any, list_all, flat_map}
use Rattle.std.proofs.lemmas.Bool.{or_parts}
use Rattle.std.proofs.lemmas.List.{append-nil}
use Rattle.std.proofs.lemmas.List.Folds.{list_all-append, list_any-append}
use Rattle.ovl_names.specs.Names.{PathName}
use Rattle.ovl_names.specs.Paths.{PathNames, child_path}
use Rattle.ovl_names.proofs.Ascending.{both}
use Rattle.ovl_inode.specs.declared.inodes.Inode.{Inode}
use Rattle.ovl_inode.specs.declared.inodes.Kind.{Kind}
use Rattle.ovl_inode.specs.Attributes.{attribute, is_overlay_name, opaque_name, redirect_name, metacopy_name, whiteout_name, origin_name}
use Rattle.ovl_inode.specs.Marks.{has_attribute, is_directory, is_whiteout}
use Rattle.ovl_layer.specs.Layers.{Entries, Entry, IsLayer, entry_at, names_below}
use Rattle.ovl_lookup.specs.Stacks.{StackView}
use Rattle.ovl_lookup.specs.Sound.{IsSoundStack}
use Rattle.ovl_lookup.specs.Unmarked.{alone, HasNoMarks}
use Rattle.ovl_lookup.proofs.LawsOfFound.{Passes}
use Rattle.ovl_lookup.proofs.LawsOfInodes.{attribute-hidden}
use Rattle.ovl_lookup.proofs.LawsOfLooks.{Faultless, inode-whole, shown-kind, shown-visible}
use Rattle.ovl_lookup.proofs.LawsOfPaths.{all-entries}
use Rattle.ovl_lookup.proofs.LawsOfUnmarked.{faultless-alone}
use Rattle.ovl_check.specs.declared.findings.Code.{Code}
use Rattle.ovl_check.specs.declared.findings.Code.TheVariants.{RedirectForm, RedirectLost, RedirectKind, RedirectDouble, RedirectOpen, DataMissing, DataSize, BlobMissing, BlobSize, BlobDigest, ImpureMissing, MarkIgnored}
use Rattle.ovl_check.specs.declared.findings.Finding.{Finding}
use Rattle.ovl_blobs.specs.Blobs.{BlobView}
use Rattle.ovl_check.specs.Codes.{all_codes, is_fault, is_layer_fault, is_blob_fault}
use Rattle.ovl_check.specs.Conditions.{holds, has_origin_at, blob_is_missing, blob_is_of_other_size, blob_is_wrong}
use Rattle.ovl_check.specs.Findings.{finding, findings, findings_at, findings_in, findings_from, data_findings_from, any_code}
use Rattle.ovl_check.specs.Laws.{UnmarkedLayersAreQuiet, ShownLayersAreClean}
use Rattle.ovl_check.proofs.ListFacts.{any-map}
use Rattle.ovl_check.proofs.SoundLemmas.{any-filter, findings-tell}

-- ---- tests of all findings of a layer

-- only findings of codes that pass, if no other holds
mapped : (test : Code → Bool) (i : ℕ) (path : PathNames) (h : Code → Bool) → ((code : Code) → test code ≡ false → h code ≡ false) → (all : List Code)
    → list_all (λ (one : Finding). test one.code) (map (finding i path) (filter (λ code. any_code code && h code) all)) ≡ true
mapped test i path h none [] = refl
mapped test i path h none (code ∷ all) = by (mapped test i path h none all) (test code) refl (h code) refl
  where
    by : list_all (λ (one : Finding). test one.code) (map (finding i path) (filter (λ code. any_code code && h code) all)) ≡ true
        → (f : Bool) → test code ≡ f → (b : Bool) → h code ≡ b
        → list_all (λ (one : Finding). test one.code) (map (finding i path) (cond b (code ∷ filter (λ code. any_code code && h code) all) (filter (λ code. any_code code && h code) all))) ≡ true
    by later f e false n = later
    by later true e true n = (λ j. e j && later j)
    by later false e true n = let bad : true ≡ false = sym n ∙ none code e in cc

gathered : {X : Type 0} (test : Finding → Bool) (f : X → List Finding) (xs : List X) → list_all (λ x. list_all test (f x)) xs ≡ true → list_all test (flat_map f xs) ≡ true
gathered test f [] all = refl
gathered {X} test f (x ∷ xs) all =
    let parts = both {a = list_all test (f x)} {b = list_all (λ x. list_all test (f x)) xs} all in
    list_all-append test (f x) (flat_map f xs) ∙ (λ j. parts.0 j && gathered test f xs parts.1 j)

abbrev below : StackView
below = record { layers = []; data_only = [] }

-- all that is found in a layer by itself is of codes that pass, where no other holds at an entry
all-pass : (test : Code → Bool) (blobs : List BlobView) (layer : Entries) → IsLayer layer
    → ((path : PathNames) (inode : Inode) → entry_at layer path ≡ Some inode → (code : Code) → test code ≡ false → holds blobs layer below (path, inode) code ≡ false)
    → list_all (λ (one : Finding). test one.code) (findings blobs (alone layer)) ≡ true
all-pass test blobs layer is none =
    ap (list_all (λ (one : Finding). test one.code)) (append-nil (flat_map (findings_at any_code blobs 0 layer below) layer))
    ∙ gathered (λ (one : Finding). test one.code) (findings_at any_code blobs 0 layer below) layer
    (all-entries (λ (entry : Entry). list_all (λ (one : Finding). test one.code) (findings_at any_code blobs 0 layer below entry)) layer is.in_order
    (λ path inode here. mapped test 0 path (holds blobs layer below (path, inode)) (none path inode here) all_codes))

-- ---- a layer without marks

module _ (layer : Entries) (is : IsLayer layer) (bare : HasNoMarks layer) where
  hidden : (path : PathNames) (inode : Inode) → entry_at layer path ≡ Some inode → (name : List ℕ) → is_overlay_name name ≡ true → attribute inode.attrs name ≡ None
  hidden path inode here name own = ap (λ a. attribute a name) (sym (bare path inode here).0) ∙ attribute-hidden inode.attrs name own

  no_origin : (path : PathNames) → has_origin_at layer path ≡ false
  no_origin path = by (entry_at layer path) refl
    where
      by : (found : Option Inode) → entry_at layer path ≡ found → elim found as (λ _. Bool) [ Some inode ↦ has_attribute inode origin_name | None ↦ false ] ≡ false
      by None e = refl
      by (Some inode) e = ap is_some (hidden path inode e origin_name refl)

  no_origins : (path : PathNames) (names : List PathName) → list_any (λ name. has_origin_at layer (child_path path name)) names ≡ false
  no_origins path [] = refl
  no_origins path (name ∷ names) = λ j. no_origin (child_path path name) j || no_origins path names j

  -- at its entries nothing holds but what is wrong with blobs
  quiet : (blobs : List BlobView) (path : PathNames) (inode : Inode) → entry_at layer path ≡ Some inode → (code : Code) → is_blob_fault code ≡ false → holds blobs layer below (path, inode) code ≡ false
  quiet blobs path inode here = by
    where
      thing : is_whiteout inode ≡ false
      thing = (bare path inode here).1

      good : Faultless layer below path inode
      good = faultless-alone layer is bare path inode here

      no_kids : (a b : Bool) → (a && b && false) ≡ false
      no_kids false b = refl
      no_kids true false = refl
      no_kids true true = refl

      by : (code : Code) → is_blob_fault code ≡ false → holds blobs layer below (path, inode) code ≡ false
      by RedirectForm e = good.formed
      by RedirectLost e = good.found
      by RedirectKind e = good.fitting
      by RedirectDouble e = good.single
      by RedirectOpen e = good.hidden
      by DataMissing e = good.full
      by DataSize e = good.sized
      by BlobMissing e = let bad : true ≡ false = e in cc
      by BlobSize e = let bad : true ≡ false = e in cc
      by BlobDigest e = let bad : true ≡ false = e in cc
      by ImpureMissing e = rw (no_origins path (names_below layer path)) (no_kids (is_directory inode) _)
      by MarkIgnored e = rw (hidden path inode here opaque_name refl, hidden path inode here redirect_name refl, hidden path inode here metacopy_name refl, hidden path inode here whiteout_name refl) refl
      by _ e = rw thing refl

pub unmarked-quiet : UnmarkedLayersAreQuiet
unmarked-quiet layer is bare blobs = all-pass is_blob_fault blobs layer is (quiet layer is bare blobs)

-- ---- blobs that no entry of a stack has at fault

-- nothing is wrong with the blob that an inode names
abbrev is_right : List BlobView → Inode → Bool
is_right blobs inode = not (blob_is_missing blobs inode || blob_is_of_other_size blobs inode || blob_is_wrong blobs inode)

-- its kind says so by itself
right-kind : (blobs : List BlobView) (one other : Inode) → one.kind ≡ other.kind → is_right blobs one ≡ is_right blobs other
right-kind blobs one other same = ap (λ (kind : Kind). is_right blobs (record one { kind = kind })) same

none-at : {X : Type 0} (test : X → Bool) (xs : List X) → list_any test xs ≡ false → (k : ℕ) (d : X) → k < length xs → test (get_or xs k d) ≡ false
none-at test [] none k d inside = absurd (omega (arith, inside))
none-at test (x ∷ xs) none zero d inside = (or_parts (test x) (list_any test xs) none).0
none-at test (x ∷ xs) none (suc k) d inside = none-at test xs (or_parts (test x) (list_any test xs) none).1 k d (omega (arith, inside))

abbrev faulty : Finding → Bool
faulty found = is_fault found.code

-- where no finding at an entry is a fault, and those of blobs are sought
right-entry : (sought : Code → Bool) → sought BlobMissing ≡ true → sought BlobSize ≡ true → sought BlobDigest ≡ true
    → (blobs : List BlobView) (i : ℕ) (layer : Entries) (lower : StackView) (entry : Entry) → list_any faulty (findings_at sought blobs i layer lower entry) ≡ false → is_right blobs entry.1 ≡ true
right-entry sought m s w blobs i layer lower entry none =
    λ j. not (missing j || other j || wrong j)
  where
    h : Code → Bool
    h code = sought code && holds blobs layer lower entry code

    each : list_any (λ code. h code && is_fault code) all_codes ≡ false
    each = sym (any-map (finding i entry.0) faulty (filter h all_codes) ∙ any-filter h is_fault all_codes) ∙ none

    bare : (b c : Bool) → b ≡ true → ((b && c) && true) ≡ false → c ≡ false
    bare true true e n = n
    bare true false e n = refl
    bare false c e n = let bad : false ≡ true = e in cc

    missing : blob_is_missing blobs entry.1 ≡ false
    missing = bare (sought BlobMissing) (blob_is_missing blobs entry.1) m (none-at (λ code. h code && is_fault code) all_codes each 7 BlobMissing (omega arith))

    other : blob_is_of_other_size blobs entry.1 ≡ false
    other = bare (sought BlobSize) (blob_is_of_other_size blobs entry.1) s (none-at (λ code. h code && is_fault code) all_codes each 8 BlobMissing (omega arith))

    wrong : blob_is_wrong blobs entry.1 ≡ false
    wrong = bare (sought BlobDigest) (blob_is_wrong blobs entry.1) w (none-at (λ code. h code && is_fault code) all_codes each 9 BlobMissing (omega arith))

-- where none is in a list of lists
none-gathered : {X : Type 0} (test : X → Bool) (f : X → List Finding) → ((x : X) → list_any faulty (f x) ≡ false → test x ≡ true) → (xs : List X) → list_any faulty (flat_map f xs) ≡ false → list_all test xs ≡ true
none-gathered test f one [] none = refl
none-gathered test f one (x ∷ xs) none =
    let parts = or_parts (list_any faulty (f x)) (list_any faulty (flat_map f xs)) (sym (list_any-append faulty (f x) (flat_map f xs)) ∙ none) in
    (λ j. one x parts.0 j && none-gathered test f one xs parts.1 j)

all-more : {X : Type 0} (P : X → Type 0) (x : X) (xs : List X) → P x → All P xs → All P (x ∷ xs)
all-more P x xs one others zero d inside = one
all-more P x xs one others (suc k) d inside = others k d (omega (arith, inside))

right-data : (blobs : List BlobView) (stack : StackView) (i : ℕ) (layers : List Entries) → list_any faulty (data_findings_from blobs stack i layers) ≡ false → All (Passes (is_right blobs)) layers
right-data blobs stack i [] none = λ k d inside. absurd (omega (arith, inside))
right-data blobs stack i (layer ∷ layers) none =
    let lower : StackView = record stack { layers = [] } in
    let parts = or_parts (list_any faulty (findings_in is_blob_fault blobs i layer lower)) (list_any faulty (data_findings_from blobs stack (i + 1) layers))
    (sym (list_any-append faulty (findings_in is_blob_fault blobs i layer lower) (data_findings_from blobs stack (i + 1) layers)) ∙ none) in
    all-more (Passes (is_right blobs)) layer layers
    (none-gathered (λ (entry : Entry). is_right blobs entry.1) (findings_at is_blob_fault blobs i layer lower) (right-entry is_blob_fault refl refl refl blobs i layer lower) layer parts.0)
    (right-data blobs stack (i + 1) layers parts.1)

right-layers : (blobs : List BlobView) (stack : StackView) (i : ℕ) (layers : List Entries) → list_any faulty (findings_from blobs stack i layers) ≡ false → All (Passes (is_right blobs)) layers × All (Passes (is_right blobs)) stack.data_only
right-layers blobs stack i [] none = ((λ k d inside. absurd (omega (arith, inside))), right-data blobs stack i stack.data_only none)
right-layers blobs stack i (layer ∷ layers) none =
    let lower : StackView = record stack { layers = layers } in
    let parts = or_parts (list_any faulty (findings_in any_code blobs i layer lower)) (list_any faulty (findings_from blobs stack (i + 1) layers))
    (sym (list_any-append faulty (findings_in any_code blobs i layer lower) (findings_from blobs stack (i + 1) layers)) ∙ none) in
    let others = right-layers blobs stack (i + 1) layers parts.1 in (
      all-more (Passes (is_right blobs)) layer layers
          (none-gathered (λ (entry : Entry). is_right blobs entry.1) (findings_at any_code blobs i layer lower) (right-entry any_code refl refl refl blobs i layer lower) layer parts.0)
          others.0,
      others.1,
    )

-- ---- the layer of what a stack shows

no-layer_fault : (found : List Finding) → list_any faulty found ≡ false → list_any (λ (one : Finding). is_layer_fault one.code) found ≡ false
no-layer_fault [] none = refl
no-layer_fault (one ∷ found) none =
    let parts = or_parts (faulty one) (list_any faulty found) none in
    (λ j. (or_parts (is_layer_fault one.code) (is_blob_fault one.code) parts.0).0 j || no-layer_fault found parts.1 j)

no-finding : (found : List Finding) → list_all (λ (one : Finding). false) found ≡ true → found ≡ []
no-finding [] all = refl
no-finding (one ∷ found) all = let bad : false ≡ true = all in cc

pub shown-clean : ShownLayersAreClean
shown-clean blobs stack each none layer is made = no-finding (findings blobs (alone layer)) (all-pass (λ code. false) blobs layer is (λ path inode here code e. nothing path inode here code))
  where
    sound : IsSoundStack stack
    sound = findings-tell blobs stack ∙ ap not (no-layer_fault (findings blobs stack) none)

    bare : HasNoMarks layer
    bare path inode here = let v = shown-visible stack each path inode (inode-whole stack each sound path inode (sym (made path) ∙ here)) in (v.bare, v.thing)

    right : (path : PathNames) (inode : Inode) → entry_at layer path ≡ Some inode → is_right blobs inode ≡ true
    right path inode here =
        let layers = right-layers blobs stack 0 stack.layers none in
        shown-kind (is_right blobs) (right-kind blobs) stack each layers.0 layers.1 path inode (inode-whole stack each sound path inode (sym (made path) ∙ here))

    none_of : (b : Bool) → not b ≡ true → b ≡ false
    none_of true n = let bad : false ≡ true = n in cc
    none_of false n = refl

    nothing : (path : PathNames) (inode : Inode) → entry_at layer path ≡ Some inode → (code : Code) → holds blobs layer below (path, inode) code ≡ false
    nothing path inode here code = by (is_blob_fault code) refl
      where
        three : ((blob_is_missing blobs inode || blob_is_of_other_size blobs inode) ≡ false) × (blob_is_wrong blobs inode ≡ false)
        three = or_parts (blob_is_missing blobs inode || blob_is_of_other_size blobs inode) (blob_is_wrong blobs inode)
            (none_of (blob_is_missing blobs inode || blob_is_of_other_size blobs inode || blob_is_wrong blobs inode) (right path inode here))

        two : (blob_is_missing blobs inode ≡ false) × (blob_is_of_other_size blobs inode ≡ false)
        two = or_parts (blob_is_missing blobs inode) (blob_is_of_other_size blobs inode) three.0

        of_blob : (code : Code) → is_blob_fault code ≡ true → holds blobs layer below (path, inode) code ≡ false
        of_blob BlobMissing e = two.0
        of_blob BlobSize e = two.1
        of_blob BlobDigest e = three.1
        of_blob _ e = let bad : false ≡ true = e in cc

        by : (b : Bool) → is_blob_fault code ≡ b → holds blobs layer below (path, inode) code ≡ false
        by true e = of_blob code e
        by false e = quiet layer is bare blobs path inode here code e
