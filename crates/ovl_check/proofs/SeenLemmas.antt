-- Whether a layer hides a place from itself, by its own walk of the place.
use Rattle.std.proofs.Common.{◌≡◌, false, true, Option, Some, None, [], ◌∷◌, refl, sym, ap, ◌∙◌}
use Rattle.std.specs.Prelude.{Bool, ◌&&◌, ◌||◌, not, is_none}
use Rattle.std.specs.Option.{option_map}
use Rattle.ovl_names.specs.Paths.{PathNames, is_root, path_eq}
use Rattle.ovl_inode.specs.declared.inodes.Inode.{Inode}
use Rattle.ovl_inode.specs.Marks.{mark_of}
use Rattle.ovl_layer.specs.Layers.{Entries, IsLayer}
use Rattle.ovl_lookup.specs.declared.steps.Step.{Step}
use Rattle.ovl_lookup.specs.Walk.{walk, mark_at}
use Rattle.ovl_lookup.specs.Sound.{is_plain, is_seen_there}
use Rattle.ovl_lookup.specs.PathRopes.{rope_eq}
use Rattle.ovl_lookup.proofs.LawsOfPaths.{rope_eq-path}
use Rattle.ovl_lookup.proofs.LawsOfWalks.{walk-finds}
use Rattle.ovl_check.proofs.GatherLemmas.{mark-below}

module _ (layer : Entries) (place : PathNames) (step : Step) (is : step ≡ walk layer place) where
  abbrev told : Bool → Bool → Bool → Bool
  told closed stays found = not closed && stays && found

  pub seen-by : (closed stays found : Bool) → step.closed ≡ closed → path_eq step.next place ≡ stays → (is_none step.found || is_plain (mark_at layer place)) ≡ found → told closed stays found ≡ is_seen_there layer place
  seen-by closed stays found c s f =
      sym ((λ j. told (c j) (s j) (f j))) ∙ ap (λ (s : Step). not s.closed && path_eq s.next place && (is_none s.found || is_plain (mark_at layer place))) is

  pub seen-closed : step.closed ≡ true → false ≡ is_seen_there layer place
  seen-closed c = seen-by true (path_eq step.next place) (is_none step.found || is_plain (mark_at layer place)) c refl refl

  pub seen-elsewhere : step.closed ≡ false → path_eq step.next place ≡ false → false ≡ is_seen_there layer place
  seen-elsewhere c s = seen-by false false (is_none step.found || is_plain (mark_at layer place)) c s refl

  -- what is found there is a plain directory, as the root is
  plain-found : IsLayer layer → (inode : Inode) → step.found ≡ Some inode → (p : PathNames) → place ≡ p → is_plain (mark_at layer place) ≡ (is_root place || is_plain (Some (mark_of inode)))
  plain-found layered inode found [] e = (λ j. is_plain (mark_at layer (e j))) ∙ sym (ap (λ (p : PathNames). is_root p || is_plain (Some (mark_of inode))) e)
  plain-found layered inode found (name ∷ names) e =
      let below : is_root place ≡ false = ap is_root e in
      ap is_plain (mark-below layer place below ∙ ap (option_map mark_of) (walk-finds layer place inode layered (sym (ap (λ (s : Step). s.found) is) ∙ found)).0)
      ∙ sym (ap (λ b. b || is_plain (Some (mark_of inode))) below)

  pub seen-plain : IsLayer layer → (inode : Inode) → step.found ≡ Some inode → step.closed ≡ false → path_eq step.next place ≡ true → (is_root place || is_plain (Some (mark_of inode))) ≡ is_seen_there layer place
  seen-plain layered inode found c s =
      seen-by false true (is_root place || is_plain (Some (mark_of inode))) c s
      (ap (λ (o : Option Inode). is_none o || is_plain (mark_at layer place)) found ∙ plain-found layered inode found place refl)

  pub seen-nothing : step.found ≡ None → step.closed ≡ false → path_eq step.next place ≡ true → true ≡ is_seen_there layer place
  seen-nothing none c s = seen-by false true true c s (ap (λ (o : Option Inode). is_none o || is_plain (mark_at layer place)) none)

-- ---- whether the walk stays there, by ropes

not-not : (b : Bool) → not (not b) ≡ b
not-not true = refl
not-not false = refl

pub stays-by : (one other : PathNames) (apart : Bool) → apart ≡ not (rope_eq one other) → (c : Bool) → apart ≡ c → path_eq one other ≡ not c
stays-by one other apart is c e = sym (rope_eq-path one other) ∙ (sym (not-not (rope_eq one other)) ∙ ap not (sym is ∙ e))
