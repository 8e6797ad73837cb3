-- What is found along the walks of all layers.
use Rattle.std.proofs.Common.{◌≡◌, ℕ, zero, suc, ◌+◌, inl, inr, Bool, true, false, cond, Option, Some, None, List, [], ◌∷◌, ◌++◌, map, drop, length, length-append, ◌<◌, refl, sym, ap, ◌∙◌, subst, arith, append_assoc, add-one}
use Rattle.std.specs.Prelude.{◌||◌, ◌&&◌, slice_get, unwrap_or}
use Rattle.std.specs.List.{flat_map, list_any, All}
use Rattle.std.specs.List.Sorted.{IsPermutation}
use Rattle.std.proofs.Math.Nat.{min-eq_left, min-eq_right}
use Rattle.std.proofs.lemmas.List.Elements.{All-cons}
use Rattle.ovl_lookup.proofs.LawsOfPaths.{all-first, all-rest, drop_past}
use Rattle.std.proofs.lemmas.Bool.{lt-ltb, le-ltb}
use Rattle.std.proofs.lemmas.List.{flat_map_more, append-nil}
use Rattle.std.proofs.lemmas.List.Sorted.{IsPermutation-trans, IsPermutation-append_left}
use Rattle.ovl_layer.specs.Layers.{Entries, IsLayer}
use Rattle.ovl_lookup.specs.Stacks.{all_layers}
use Rattle.ovl_names.specs.Paths.{PathNames}
use Rattle.ovl_board.specs.declared.works.Parcel.{Parcel}
use Rattle.ovl_board.specs.Parcels.{parcel_view, parcel_views}
use Rattle.ovl_board.proofs.LawsOfMembers.{In, In-left, In-right, In-cases}
use Rattle.ovl_check.specs.declared.findings.Finding.{Finding}
use Rattle.ovl_check.specs.declared.findings.Code.TheVariants.{RedirectDouble}
use Rattle.ovl_check.specs.declared.work.CheckOut.{CheckOut}
use Rattle.ovl_check.specs.Findings.{finding, any_code}
use Rattle.ovl_check.specs.Contents.{findings_of_contents_in as findings_in, data_findings_of_contents_from as data_findings_from, findings_of_contents_from as findings_from}
use Rattle.ovl_check.specs.Codes.{is_blob_fault}
use Rattle.ovl_check.specs.Checks.{CheckView, check_seen, first_below, is_ordinary, sought_in, layer_at, layers_below}
use Rattle.ovl_check.proofs.LayerFacts.{layer_at-is}
use Rattle.ovl_check.specs.Walks.{View, AreLayerWalks, is_among, double_at, places_with, doubles_after, found_along}
use Rattle.ovl_check.proofs.MemberLemmas.{along-sound, along-whole}

-- one more list of parcels
pub found-more : {X : Type 0} (along : X → List Finding) (ys : List X) (x : X) (so_far middle new doubles outs : List Finding) → IsPermutation (flat_map along ys) so_far → middle ≡ so_far ++ doubles → IsPermutation (middle ++ outs) new → doubles ++ outs ≡ along x → IsPermutation (flat_map along (ys ++ x ∷ [])) new
found-more along ys x so_far middle new doubles outs before added moved parts =
    let split : flat_map along ys ++ (doubles ++ outs) ≡ flat_map along (ys ++ x ∷ []) = ap (λ (l : List Finding). flat_map along ys ++ l) parts ∙ flat_map_more along [] ys x in
    let joined : so_far ++ (doubles ++ outs) ≡ middle ++ outs = sym (append_assoc so_far doubles outs) ∙ ap (λ (l : List Finding). l ++ outs) (sym added) in
    IsPermutation-trans (flat_map along (ys ++ x ∷ [])) (middle ++ outs) new
    (subst (λ (l : List Finding). IsPermutation l (middle ++ outs)) split
    (subst (λ (l : List Finding). IsPermutation (flat_map along ys ++ (doubles ++ outs)) l) joined
    (IsPermutation-append_left (doubles ++ outs) (flat_map along ys) so_far before)))
    moved

-- the layers below one
drop-more : (layers : List Entries) (i : ℕ) (layer : Entries) (rest : List Entries) → drop i layers ≡ layer ∷ rest → drop (suc i) layers ≡ rest
drop-more [] zero layer rest is = cc
drop-more [] (suc i) layer rest is = cc
drop-more (first ∷ layers) zero layer rest is = ap (λ (l : List Entries). elim l as (λ _. List Entries) [ x ∷ xs ↦ xs | [] ↦ layers ]) is
drop-more (first ∷ layers) (suc i) layer rest is = drop-more layers i layer rest is

-- the layer at a place of the front, and of the back
front-at : (xs ys : List Entries) (i : ℕ) (layer : Entries) (rest : List Entries) → drop i xs ≡ layer ∷ rest → (unwrap_or (slice_get (xs ++ ys) i) [] ≡ layer) × (i < length xs)
front-at [] ys zero layer rest is = cc
front-at [] ys (suc i) layer rest is = cc
front-at (first ∷ xs) ys zero layer rest is = (ap (λ (l : List Entries). elim l as (λ _. Entries) [ x ∷ more ↦ x | [] ↦ first ]) is, omega arith)
front-at (first ∷ xs) ys (suc i) layer rest is = let later = front-at xs ys i layer rest is in (later.0, omega (arith, later.1))

back-at : (xs ys : List Entries) (k : ℕ) → slice_get (xs ++ ys) (length xs + k) ≡ slice_get ys k
back-at [] ys k = let none : 0 + k ≡ k = omega arith in ap (slice_get ys) none
back-at (first ∷ xs) ys k = let more : suc (length xs) + k ≡ suc (length xs + k) = omega arith in ap (slice_get (first ∷ xs ++ ys)) more ∙ back-at xs ys k

-- each of both parts is a layer
pub front-each : (work : CheckView) → All IsLayer (all_layers work.stack) → All IsLayer work.stack.layers × All IsLayer work.stack.data_only
front-each work each = (front work.stack.layers each, back work.stack.layers each)
  where
    front : (xs : List Entries) → All IsLayer (xs ++ work.stack.data_only) → All IsLayer xs
    front [] each = λ k d inside. absurd (omega (arith, inside))
    front (x ∷ xs) each = All-cons IsLayer x xs (all-first IsLayer x (xs ++ work.stack.data_only) each) (front xs (all-rest IsLayer x (xs ++ work.stack.data_only) each))

    back : (xs : List Entries) → All IsLayer (xs ++ work.stack.data_only) → All IsLayer work.stack.data_only
    back [] each = each
    back (x ∷ xs) each = back xs (all-rest IsLayer x (xs ++ work.stack.data_only) each)

module _ (work : CheckView) (each : All IsLayer (all_layers work.stack)) where
  abbrev FoundHere : ℕ → List Finding
  FoundHere i = findings_in (sought_in work.stack i) work.contents i (layer_at work.stack i) (layers_below work.stack i)

  -- a layer that isn't data-only
  abbrev FoundIn : ℕ → Entries → List Entries → List Finding
  FoundIn i layer rest = findings_in any_code work.contents i layer (record work.stack { layers = rest })

  front-is : (i : ℕ) (layer : Entries) (rest : List Entries) → drop i work.stack.layers ≡ layer ∷ rest → (FoundHere i ≡ FoundIn i layer rest) × (IsLayer (layer_at work.stack i) × (drop (i + 1) work.stack.layers ≡ rest))
  front-is i layer rest is =
      let at = front-at work.stack.layers work.stack.data_only i layer rest is in
      let under : drop (i + 1) work.stack.layers ≡ rest = rw add-one (drop-more work.stack.layers i layer rest is) in
      let below : drop (first_below work.stack i) work.stack.layers ≡ rest = ap (λ n. drop n work.stack.layers) (min-eq_left (omega (arith, at.1))) ∙ under in
      let own : is_ordinary work.stack i ≡ true = lt-ltb i (length work.stack.layers) at.1 in (
        (λ j. findings_in (cond (own j) any_code is_blob_fault) work.contents i (at.0 j) (record work.stack { layers = below j })),
        (layer_at-is (all_layers work.stack) each i (omega (arith, at.1, length-append work.stack.layers work.stack.data_only)), under),
      )

  -- a data-only layer
  abbrev FoundDeep : ℕ → Entries → List Finding
  FoundDeep i layer = findings_in is_blob_fault work.contents i layer (record work.stack { layers = [] })

  back-is : (i k : ℕ) (layer : Entries) (rest : List Entries) → i ≡ length work.stack.layers + k → drop k work.stack.data_only ≡ layer ∷ rest → (FoundHere i ≡ FoundDeep i layer) × (IsLayer (layer_at work.stack i) × (drop (k + 1) work.stack.data_only ≡ rest))
  back-is i k layer rest place is =
      let at = front-at work.stack.data_only [] k layer rest is in
      let same : unwrap_or (slice_get (all_layers work.stack) i) [] ≡ layer =
      ap (λ n. unwrap_or (slice_get (all_layers work.stack) n) []) place
      ∙ (ap (λ (o : Option Entries). unwrap_or o []) (back-at work.stack.layers work.stack.data_only k)
      ∙ (ap (λ (xs : List Entries). unwrap_or (slice_get xs k) []) (sym (append-nil work.stack.data_only)) ∙ at.0)) in
      let own : is_ordinary work.stack i ≡ false = le-ltb i (length work.stack.layers) (omega (arith, place)) in
      let below : drop (first_below work.stack i) work.stack.layers ≡ [] = ap (λ n. drop n work.stack.layers) (min-eq_right (omega (arith, place))) ∙ drop_past work.stack.layers (length work.stack.layers) (omega arith) in (
        (λ j. findings_in (cond (own j) any_code is_blob_fault) work.contents i (same j) (record work.stack { layers = below j })),
        (layer_at-is (all_layers work.stack) each i (omega (arith, place, at.1, length-append work.stack.layers work.stack.data_only)), rw add-one (drop-more work.stack.data_only k layer rest is)),
      )

  deep-sound : (i k : ℕ) (layers : List Entries) (lists : List (List View)) → i ≡ length work.stack.layers + k → drop k work.stack.data_only ≡ layers → length lists ≡ length layers → AreLayerWalks work i lists → (f : Finding) → In f (flat_map found_along lists) → In f (data_findings_from work.contents work.stack i layers)
  deep-sound i k [] [] place is count walks f h = absurd h
  deep-sound i k [] (views ∷ lists) place is count walks f h = absurd (omega (arith, count))
  deep-sound i k (layer ∷ layers) [] place is count walks f h = absurd h
  deep-sound i k (layer ∷ layers) (views ∷ lists) place is count walks f h =
      let at = back-is i k layer layers place is in
      elim (In-cases f (found_along views) (flat_map found_along lists) h) [
        | inl own ↦ In-left f (FoundDeep i layer) (data_findings_from work.contents work.stack (i + 1) layers) (subst (In f) at.0 (along-sound work each i at.1.0 views walks.0 f own))
        | inr more ↦ In-right f (FoundDeep i layer) (data_findings_from work.contents work.stack (i + 1) layers) (deep-sound (i + 1) (k + 1) layers lists (omega (arith, place)) at.1.1 (omega (arith, count)) walks.1 f more)
      ]

  deep-whole : (i k : ℕ) (layers : List Entries) (lists : List (List View)) → i ≡ length work.stack.layers + k → drop k work.stack.data_only ≡ layers → length lists ≡ length layers → AreLayerWalks work i lists → (f : Finding) → In f (data_findings_from work.contents work.stack i layers) → In f (flat_map found_along lists)
  deep-whole i k [] lists place is count walks f h = absurd h
  deep-whole i k (layer ∷ layers) [] place is count walks f h = absurd (omega (arith, count))
  deep-whole i k (layer ∷ layers) (views ∷ lists) place is count walks f h =
      let at = back-is i k layer layers place is in
      elim (In-cases f (FoundDeep i layer) (data_findings_from work.contents work.stack (i + 1) layers) h) [
        | inl own ↦ In-left f (found_along views) (flat_map found_along lists) (along-whole work each i at.1.0 views walks.0 f (subst (In f) (sym at.0) own))
        | inr more ↦ In-right f (found_along views) (flat_map found_along lists) (deep-whole (i + 1) (k + 1) layers lists (omega (arith, place)) at.1.1 (omega (arith, count)) walks.1 f more)
      ]

  pub all-sound : (i : ℕ) (layers : List Entries) (lists : List (List View)) → drop i work.stack.layers ≡ layers → i + length layers ≡ length work.stack.layers → length lists ≡ length layers + length work.stack.data_only → AreLayerWalks work i lists → (f : Finding) → In f (flat_map found_along lists) → In f (findings_from work.contents work.stack i layers)
  all-sound i [] lists is place count walks f h = deep-sound i 0 work.stack.data_only lists (omega (arith, place)) refl (omega (arith, count)) walks f h
  all-sound i (layer ∷ layers) [] is place count walks f h = absurd h
  all-sound i (layer ∷ layers) (views ∷ lists) is place count walks f h =
      let at = front-is i layer layers is in
      elim (In-cases f (found_along views) (flat_map found_along lists) h) [
        | inl own ↦ In-left f (FoundIn i layer layers) (findings_from work.contents work.stack (i + 1) layers) (subst (In f) at.0 (along-sound work each i at.1.0 views walks.0 f own))
        | inr more ↦ In-right f (FoundIn i layer layers) (findings_from work.contents work.stack (i + 1) layers) (all-sound (i + 1) layers lists at.1.1 (omega (arith, place)) (omega (arith, count)) walks.1 f more)
      ]

  pub all-whole : (i : ℕ) (layers : List Entries) (lists : List (List View)) → drop i work.stack.layers ≡ layers → i + length layers ≡ length work.stack.layers → length lists ≡ length layers + length work.stack.data_only → AreLayerWalks work i lists → (f : Finding) → In f (findings_from work.contents work.stack i layers) → In f (flat_map found_along lists)
  all-whole i [] lists is place count walks f h = deep-whole i 0 work.stack.data_only lists (omega (arith, place)) refl (omega (arith, count)) walks f h
  all-whole i (layer ∷ layers) [] is place count walks f h = absurd (omega (arith, count))
  all-whole i (layer ∷ layers) (views ∷ lists) is place count walks f h =
      let at = front-is i layer layers is in
      elim (In-cases f (FoundIn i layer layers) (findings_from work.contents work.stack (i + 1) layers) h) [
        | inl own ↦ In-left f (found_along views) (flat_map found_along lists) (along-whole work each i at.1.0 views walks.0 f (subst (In f) (sym at.0) own))
        | inr more ↦ In-right f (found_along views) (flat_map found_along lists) (all-whole (i + 1) layers lists at.1.1 (omega (arith, place)) (omega (arith, count)) walks.1 f more)
      ]

-- the lists of parcels, as they are seen
pub along-lists : {X : Type 0} (seen : X → List View) (xs : List X) → flat_map (λ x. found_along (seen x)) xs ≡ flat_map found_along (map seen xs)
along-lists seen [] = refl
along-lists seen (x ∷ xs) = ap (λ (rest : List Finding). found_along (seen x) ++ rest) (along-lists seen xs)

pub length-lists : {X : Type 0} (seen : X → List View) (xs : List X) → length (map seen xs) ≡ length xs
length-lists seen [] = refl
length-lists seen (x ∷ xs) = ap (λ n. suc n) (length-lists seen xs)

-- without a moved directory there are no doubles
pub none-doubled : (parcels : List (Parcel CheckOut)) (places : List PathNames) → list_any (λ parcel. parcel.out.moved) parcels ≡ false → doubles_after places (parcel_views check_seen parcels) ≡ []
none-doubled [] places none = refl
none-doubled (parcel ∷ parcels) places none =
    by (λ other. none-doubled parcels other) parcel.out.moved refl parcel.out.place (list_any (λ parcel. parcel.out.moved) parcels) refl none
  where
    by : ((other : List PathNames) → list_any (λ parcel. parcel.out.moved) parcels ≡ false → doubles_after other (parcel_views check_seen parcels) ≡ [])
        → (moved : Bool) → parcel.out.moved ≡ moved → (place : Option PathNames) → (more : Bool) → list_any (λ parcel. parcel.out.moved) parcels ≡ more → (moved || more) ≡ false
        → double_at places (parcel_view check_seen parcel) place ++ doubles_after (places_with places place) (parcel_views check_seen parcels) ≡ []
    by later true m place more e none = let bad : true ≡ false = none in cc
    by later false m None more e none = later places (e ∙ none)
    by later false m (Some place) more e none =
        ap (λ b. cond (b && is_among places place) (finding parcel.piece.space parcel.piece.dir RedirectDouble ∷ []) [] ++ doubles_after (places_with places (Some place)) (parcel_views check_seen parcels)) m
        ∙ later (places_with places (Some place)) (e ∙ none)
