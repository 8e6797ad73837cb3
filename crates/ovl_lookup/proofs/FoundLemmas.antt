-- What the walks through layers find, layer by layer, and what is shown of it.
use Rattle.std.proofs.Common.{◌≡◌, ℕ, zero, suc, ◌+◌, ◌<◌, length, drop, Bool, true, false, cond, Option, Some, None, List, [], ◌∷◌, refl, sym, ap, ◌∙◌, arith, add-one}
use Rattle.std.specs.Prelude.{slice_get, IfSome, ◌&&◌}
use Rattle.std.specs.List.{cons_option, list_all}
use Rattle.ovl_names.specs.Paths.{PathNames}
use Rattle.ovl_inode.specs.declared.inodes.Inode.{Inode}
use Rattle.ovl_inode.specs.Marks.{mark_of, is_metacopy, is_data}
use Rattle.ovl_layer.specs.Layers.{Entries}
use Rattle.ovl_lookup.specs.declared.steps.Step.{Step}
use Rattle.ovl_lookup.specs.Walk.{walk}
use Rattle.ovl_lookup.specs.Trace.{things_found}
use Rattle.ovl_lookup.specs.Merged.{place_of_data, place_told, last_place, data_at_place}
use Rattle.ovl_lookup.specs.Passes.{data_below}
use Rattle.ovl_lookup.specs.Hits.{past_metacopies}
use Rattle.ovl_lookup.proofs.LawsOfFound.{things_found-step}

pub things_found-next : (layers : List Entries) (i : ℕ) (path : PathNames) (step : Step) → i < length layers → IfSome (slice_get layers i) (λ layer. step ≡ walk layer path) → things_found (drop i layers) path ≡ cons_option step.found (cond step.closed [] (things_found (drop (suc i) layers) step.next))
things_found-next [] i path step inside is = absurd (omega arith)
things_found-next (layer ∷ layers) zero path step inside is =
    things_found-step layer layers path
    ∙ ap (λ (s : Step). cons_option s.found (cond s.closed [] (things_found layers s.next))) (sym is)
things_found-next (layer ∷ layers) (suc i) path step inside is = things_found-next layers i path step (omega arith) is

-- the same, by the parts of the step
module _ (layers : List Entries) (i : ℕ) (path : PathNames) (step : Step) (inside : i < length layers) (is : IfSome (slice_get layers i) (λ layer. step ≡ walk layer path)) where
  pub found-first : (inode : Inode) → step.found ≡ Some inode → things_found (drop i layers) path ≡ inode ∷ cond step.closed [] (things_found (drop (i + 1) layers) step.next)
  found-first inode found =
      things_found-next layers i path step inside is
      ∙ ((λ j. cons_option (found j) (cond step.closed [] (things_found (drop (suc i) layers) step.next)))
      ∙ rw add-one refl)

  pub found-closed : step.found ≡ None → step.closed ≡ true → things_found (drop i layers) path ≡ []
  found-closed found closed =
      things_found-next layers i path step inside is
      ∙ (λ j. cons_option (found j) (cond (closed j) [] (things_found (drop (suc i) layers) step.next)))

  pub found-open : step.found ≡ None → step.closed ≡ false → things_found (drop i layers) path ≡ things_found (drop (i + 1) layers) step.next
  found-open found closed =
      things_found-next layers i path step inside is
      ∙ ((λ j. cons_option (found j) (cond (closed j) [] (things_found (drop (suc i) layers) step.next)))
      ∙ rw add-one refl)

-- ---- past metacopy files

-- what is past them says what the data are
abbrev pub past_data : List Entries → Option Inode × Option PathNames → Option Inode
past_data data_only past = elim past.0 as (λ _. Option Inode) [ Some inode ↦ cond (is_data inode) (Some inode) None | None ↦ data_at_place data_only past.1 ]

pub data-past : (data_only : List Entries) (place : Option PathNames) (found : List Inode) → data_below data_only place found ≡ past_data data_only (past_metacopies place found)
data-past data_only place [] = refl
data-past data_only place (inode ∷ below) = by (data-past data_only (place_of_data (mark_of inode)) below) (is_metacopy inode)
  where
    by : data_below data_only (place_of_data (mark_of inode)) below ≡ past_data data_only (past_metacopies (place_of_data (mark_of inode)) below)
        → (b : Bool) → cond b (data_below data_only (place_of_data (mark_of inode)) below) (cond (is_data inode) (Some inode) None) ≡ past_data data_only (cond b (past_metacopies (place_of_data (mark_of inode)) below) (Some inode, place))
    by later true = later
    by later false = refl

-- and where data-only layers have them
abbrev pub past_place : Option Inode × Option PathNames → Option PathNames
past_place past = elim past.0 as (λ _. Option PathNames) [ Some inode ↦ None | None ↦ past.1 ]

abbrev last_or : Option PathNames → List Inode → Option PathNames
last_or place [] = place
last_or place (inode ∷ below) = last_or (place_of_data (mark_of inode)) below

place-past : (place : Option PathNames) (found : List Inode) → past_place (past_metacopies place found) ≡ cond (list_all is_metacopy found) (last_or place found) None
place-past place [] = refl
place-past place (inode ∷ below) = by (place-past (place_of_data (mark_of inode)) below) (is_metacopy inode)
  where
    by : past_place (past_metacopies (place_of_data (mark_of inode)) below) ≡ cond (list_all is_metacopy below) (last_or (place_of_data (mark_of inode)) below) None
        → (b : Bool) → past_place (cond b (past_metacopies (place_of_data (mark_of inode)) below) (Some inode, place)) ≡ cond (b && list_all is_metacopy below) (last_or (place_of_data (mark_of inode)) below) None
    by later true = later
    by later false = refl

last_or-last : (inode : Inode) (below : List Inode) → last_or (place_of_data (mark_of inode)) below ≡ last_place (inode ∷ below)
last_or-last inode [] = refl
last_or-last inode (other ∷ below) = last_or-last other below

last_or-none : (found : List Inode) → last_or None found ≡ last_place found
last_or-none [] = refl
last_or-none (inode ∷ below) = last_or-last inode below

pub told-past : (found : List Inode) → past_place (past_metacopies None found) ≡ place_told found
told-past found = place-past None found ∙ ap (λ (p : Option PathNames). cond (list_all is_metacopy found) p None) (last_or-none found)

pub past-metacopy : (place : Option PathNames) (inode : Inode) (below : List Inode) → is_metacopy inode ≡ true → past_metacopies place (inode ∷ below) ≡ past_metacopies (place_of_data (mark_of inode)) below
past-metacopy place inode below meta = ap (λ b. cond b (past_metacopies (place_of_data (mark_of inode)) below) (Some inode, place)) meta

pub past-other : (place : Option PathNames) (inode : Inode) (below : List Inode) → is_metacopy inode ≡ false → past_metacopies place (inode ∷ below) ≡ (Some inode, place)
past-other place inode below meta = ap (λ b. cond b (past_metacopies (place_of_data (mark_of inode)) below) (Some inode, place)) meta
