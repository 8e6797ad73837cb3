-- The places of a view of a directory.
use Rattle.std.proofs.Common.{◌≡◌, ℕ, suc, ◌≤◌, arith, Bool, true, false, cond, Option, Some, is_some, List, [], ◌∷◌, drop, refl, sym, ap, subst}
use Rattle.std.specs.Prelude.{◌||◌, slice_get, IfSome}
use Rattle.std.specs.List.{All}
use Rattle.std.proofs.lemmas.List.Elements.{All-nil, All-cons}
use Rattle.std.proofs.lemmas.Option.{slice_get_within}
use Rattle.ovl_names.specs.Paths.{PathNames}
use Rattle.ovl_layer.specs.Layers.{Entries, entry_at, is_directory_at}
use Rattle.ovl_lookup.specs.declared.steps.Step.{Step}
use Rattle.ovl_lookup.specs.Walk.{walk, turn, is_shut}
use Rattle.ovl_lookup.specs.Laws.{ViewsStand}
use Rattle.ovl_lookup.specs.Views.{ReachedDirectory, reached, IsPlace, EndsWhereClosed}
use Rattle.ovl_lookup.proofs.LawsOfWalks.{walk-whole}
use Rattle.ovl_lookup.proofs.ViewLemmas.{layer-here}

-- a place of a view is what the walk of its path in its layer says
abbrev place_at : Entries → ℕ → PathNames → ReachedDirectory
place_at layer i path = record { layer = i; path = path; next = (walk layer path).next; closed = (walk layer path).closed }

is-place : (all : List Entries) (from i : ℕ) (layer : Entries) (path : PathNames) → from ≤ i → slice_get all i ≡ Some layer → is_directory_at layer path ≡ true → IsPlace all from (place_at layer i path)
is-place all from i layer path above here holds = record {
  not_above = above;
  inside = slice_get_within all i layer here;
  directory = subst (λ (o : Option Entries). IfSome o (λ own. is_directory_at own path ≡ true)) (sym here) holds;
  next = subst (λ (o : Option Entries). IfSome o (λ own. (walk layer path).next ≡ turn own path)) (sym here) (ap (λ (s : Step). s.next) (walk-whole layer path holds));
  closed = subst (λ (o : Option Entries). IfSome o (λ own. (walk layer path).closed ≡ is_shut own path)) (sym here) (ap (λ (s : Step). s.closed) (walk-whole layer path holds));
}

pub are-places : (all ls : List Entries) (from i : ℕ) (path : PathNames) → ls ≡ drop i all → from ≤ i → All (IsPlace all from) (reached ls i path)
are-places all [] from i path whole above = All-nil (IsPlace all from)
are-places all (layer ∷ layers) from i path whole above = by (are-places all layers from (suc i) (walk layer path).next (layer-here all i layer layers whole).1 (omega arith)) (is_directory_at layer path) refl
  where
    after : All (IsPlace all from) (reached layers (suc i) (walk layer path).next) → (b : Bool) → All (IsPlace all from) (cond b [] (reached layers (suc i) (walk layer path).next))
    after later true = All-nil (IsPlace all from)
    after later false = later

    by : All (IsPlace all from) (reached layers (suc i) (walk layer path).next) → (d : Bool) → is_directory_at layer path ≡ d → All (IsPlace all from) (cond d (place_at layer i path ∷ cond (walk layer path).closed [] (reached layers (suc i) (walk layer path).next)) (cond (is_some (entry_at layer path) || (walk layer path).closed) [] (reached layers (suc i) (walk layer path).next)))
    by later true d = All-cons (IsPlace all from) (place_at layer i path) (cond (walk layer path).closed [] (reached layers (suc i) (walk layer path).next))
        (is-place all from i layer path above (layer-here all i layer layers whole).0 d) (after later (walk layer path).closed)
    by later false d = after later (is_some (entry_at layer path) || (walk layer path).closed)

pub ends-closed : (ls : List Entries) (i : ℕ) (path : PathNames) → EndsWhereClosed (reached ls i path)
ends-closed [] i path = tt
ends-closed (layer ∷ layers) i path = by (ends-closed layers (suc i) (walk layer path).next) (is_directory_at layer path)
  where
    after : EndsWhereClosed (reached layers (suc i) (walk layer path).next) → (b : Bool) → EndsWhereClosed (cond b [] (reached layers (suc i) (walk layer path).next))
    after later true = tt
    after later false = later

    by : EndsWhereClosed (reached layers (suc i) (walk layer path).next) → (d : Bool) → EndsWhereClosed (cond d (place_at layer i path ∷ cond (walk layer path).closed [] (reached layers (suc i) (walk layer path).next)) (cond (is_some (entry_at layer path) || (walk layer path).closed) [] (reached layers (suc i) (walk layer path).next)))
    by later true = ((λ shut. ap (λ b. cond b [] (reached layers (suc i) (walk layer path).next)) shut), after later (walk layer path).closed)
    by later false = after later (is_some (entry_at layer path) || (walk layer path).closed)

pub views-stand : ViewsStand
views-stand stack each from path = (are-places stack.layers (drop from stack.layers) from from path refl (omega arith), ends-closed (drop from stack.layers) from path)
