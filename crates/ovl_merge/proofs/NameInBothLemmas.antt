-- What the walks of a name in a directory report of it.
use Rattle.std.proofs.Common.{◌≡◌, ℕ, ◌<◌, length, Bool, true, false, cond, Option, Some, None, [], is_some, refl, sym, ap, ◌∙◌, subst}
use Rattle.std.specs.Prelude.{◌&&◌, not, is_none, IfSome}
use Rattle.std.specs.Option.{option_and_then, option_or}
use Rattle.std.specs.List.{All}
use Rattle.ovl_names.specs.Names.{PathName}
use Rattle.ovl_names.specs.Paths.{PathNames, child_path, parent_path}
use Rattle.ovl_names.proofs.Ascending.{both, not_true}
use Rattle.ovl_inode.specs.declared.inodes.Inode.{Inode}
use Rattle.ovl_inode.specs.Marks.{is_directory, is_metacopy}
use Rattle.ovl_layer.specs.Layers.{Entries, IsLayer}
use Rattle.ovl_lookup.specs.declared.looks.Look.{Look}
use Rattle.ovl_lookup.specs.declared.looks.Look.TheVariants.{Nothing}
use Rattle.ovl_lookup.specs.declared.steps.Step.{Step}
use Rattle.ovl_lookup.specs.Stacks.{StackView}
use Rattle.ovl_lookup.specs.Walk.{walk}
use Rattle.ovl_lookup.specs.Words.{look_on}
use Rattle.ovl_lookup.specs.Merged.{look, shows_directory, is_shown_directory}
use Rattle.ovl_lookup.proofs.LawsOfLooks.{nothing-under}
use Rattle.ovl_merge.specs.declared.bases.Base.{Base}
use Rattle.ovl_merge.specs.declared.stands.Stand.{Stand}
use Rattle.ovl_merge.specs.declared.stands.NameWalk.{NameWalk}
use Rattle.ovl_merge.specs.declared.names_in_both.NameInBoth.{NameInBoth}
use Rattle.ovl_merge.specs.declared.names_in_both.LowerWalk.{LowerWalk}
use Rattle.ovl_merge.specs.declared.names_in_both.Place.{Place}
use Rattle.ovl_merge.specs.Places.{Merge, merge_of, lower_path, rest_path, first_hit, is_open, is_nothing_or, is_shown_regular, shows_own_directory, shows_at, goes_on, goes_on_at, reach, reach_of, natural, base, child_of}
use Rattle.ovl_merge.specs.MergeDown.{merged_entry, merged_entry_of, new_whiteout}
use Rattle.ovl_merge.specs.Stands.{IsStand, IsRowAt, IsNameWalk, next_lookup_on, next_lookup_to, step_next_lookup, name_on}
use Rattle.ovl_merge.specs.NamesInBoth.{IsNameInBoth, IsLowerWalk, IsFoundMarked, IsPlaced, first_in, told_in, rest_from}
use Rattle.ovl_merge.specs.Reckoned.{IsBase, IsBelow, reach_from}
use Rattle.ovl_merge.proofs.Firsts.{first_step, first_hit-steps}
use Rattle.ovl_merge.proofs.Core.{base-reach}
use Rattle.ovl_merge.proofs.BaseLemmas.{unreached-look}
use Rattle.ovl_merge.proofs.StandLemmas.{row-inside}

module _ (m : Merge) (path : PathNames) (above : Option PathNames) (name_in_both : NameInBoth) (is : IsNameInBoth m path above name_in_both) where
  abbrev up : Step
  up = walk m.upper path

  abbrev low : Step
  low = walk m.lower (lower_path m path)

  -- the first thing
  pub name_in_both-first : first_in name_in_both ≡ first_hit m path
  name_in_both-first = (λ j. option_or (is.upper j) (is.lower.found j)) ∙ (by up.found up.closed ∙ sym (first_hit-steps m path))
    where
      end : (found : Option Inode) (closed : Bool) → found ≡ first_step found closed None
      end (Some inode) closed = refl
      end None true = refl
      end None false = refl

      by : (found : Option Inode) (closed : Bool) → option_or found (option_and_then (λ p. (walk m.lower p).found) (next_lookup_on up.next closed)) ≡ first_step found closed (first_step low.found low.closed None)
      by (Some inode) closed = refl
      by None true = refl
      by None false = end low.found low.closed

  -- where it goes on
  pub name_in_both-rest : rest_from above name_in_both.lower.rest ≡ cond (is_open m path) (Some (rest_path m path)) None
  name_in_both-rest = is.lower.rest ∙ by up.closed
    where
      end : (d : Bool) → next_lookup_on low.next d ≡ cond (not d) (Some low.next) None
      end true = refl
      end false = refl

      by : (c : Bool) → option_and_then (λ p. step_next_lookup (walk m.lower p)) (next_lookup_on up.next c) ≡ cond (not c && not low.closed) (Some low.next) None
      by true = refl
      by false = end low.closed

  -- and whether the first thing does
  pub reach-shut : rest_from above name_in_both.lower.rest ≡ None → reach m path ≡ None
  reach-shut none = by (first_hit m path)
    where
      shut : (b : Bool) → None ≡ cond b (Some (rest_path m path)) None → b ≡ false
      shut true e = let bad : None ≡ Some (rest_path m path) = e in cc
      shut false e = refl

      by : (o : Option Inode) → reach_of m path o ≡ None
      by None = refl
      by (Some inode) = ap (λ (b : Bool). cond (b && goes_on_at m inode low.found (rest_path m path)) (Some (rest_path m path)) None) (shut (is_open m path) (sym none ∙ name_in_both-rest))

  reach-open : (inode : Inode) → Some inode ≡ first_in name_in_both → (place : PathNames) → rest_from above name_in_both.lower.rest ≡ Some place → reach m path ≡ cond (goes_on_at m inode (told_in name_in_both.lower.found) place) (Some place) None
  reach-open inode first place there =
      let o = opens (is_open m path) (sym there ∙ name_in_both-rest) in
      let opened : up.closed ≡ false = not_true up.closed (both {a = not up.closed} {b = not low.closed} o.0).0 in
      let found : told_in name_in_both.lower.found ≡ low.found = is.lower.found ∙ ap (λ (c : Bool). option_and_then (λ p. (walk m.lower p).found) (next_lookup_on up.next c)) opened in
      ap (reach_of m path) (sym (first ∙ name_in_both-first))
      ∙ ((λ j. cond (o.0 j && goes_on_at m inode (sym found j) (sym o.1 j)) (Some (sym o.1 j)) None))
    where
      opens : (b : Bool) → Some place ≡ cond b (Some (rest_path m path)) None → (b ≡ true) × (place ≡ rest_path m path)
      opens true e = let same : place ≡ rest_path m path = cc in (refl, same)
      opens false e = let bad : Some place ≡ None = e in cc

  pub reach-told : (inode : Inode) → Some inode ≡ first_in name_in_both → (place : Option PathNames) → rest_from above name_in_both.lower.rest ≡ place → (answer : Bool)
      → ((own : PathNames) → place ≡ Some own → answer ≡ goes_on_at m inode (told_in name_in_both.lower.found) own) → cond answer place None ≡ reach m path
  reach-told inode first None there answer goes = none answer ∙ sym (reach-shut there)
    where
      none : (b : Bool) → cond {A = Option PathNames} b None None ≡ None
      none true = refl
      none false = refl
  reach-told inode first (Some own) there answer goes = ap (λ (b : Bool). cond b (Some own) None) (goes own refl) ∙ sym (reach-open inode first own there)

  -- what is entered where nothing is found
  module _ (none : first_in name_in_both ≡ None) where
    hit : first_hit m path ≡ None
    hit = sym name_in_both-first ∙ none

    entered : (b : Bool) → is_open m path ≡ b → merged_entry m path ≡ cond (not b && shows_own_directory m (parent_path path) && shows_at m.rest (natural m path)) (Some new_whiteout) None
    entered b open-so =
        ap (merged_entry_of m path) hit
        ∙ (λ j. cond (is_none (hit j) && not (open-so j) && shows_own_directory m (parent_path path) && shows_at m.rest (natural m path)) (Some new_whiteout) None)

    told : (b : Bool) → is_some (cond b (Some (rest_path m path)) None) ≡ b
    told true = refl
    told false = refl

    opens : is_some name_in_both.lower.rest ≡ is_open m path
    opens = is.lower.placed ∙ (ap is_some name_in_both-rest ∙ told (is_open m path))

    pub unfound-open : is_some name_in_both.lower.rest ≡ true → None ≡ merged_entry m path
    unfound-open some = sym (entered true (sym opens ∙ some))

    pub unfound-shut : is_some name_in_both.lower.rest ≡ false → shows_own_directory m (parent_path path) ≡ true → (shown : Bool) → shown ≡ shows_at m.rest (natural m path) → cond shown (Some new_whiteout) None ≡ merged_entry m path
    unfound-shut shut parent shown same = sym (entered false (sym opens ∙ shut) ∙ (λ j. cond (parent j && sym same j) (Some new_whiteout) None))

-- where there is a place, it goes on
pub placed-some : (o r : Option PathNames) → true ≡ is_some o → o ≡ r → r ≡ None → ⊥
placed-some None r some same none = let bad : true ≡ false = some in cc
placed-some (Some place) r some same none = let bad : Some place ≡ None = same ∙ none in cc

-- ---- the walk in the lower layer

pub lower_walk-nothing : (layer : Entries) (above : Option PathNames) (lower_walk : LowerWalk) → lower_walk.found ≡ None → lower_walk.rest ≡ None → IsLowerWalk layer None above lower_walk
lower_walk-nothing layer above lower_walk found rest = record {
  found = ap told_in found;
  marked = subst IsFoundMarked (sym found) tt;
  rest = ap (rest_from above) rest;
  placed = subst (IsPlaced above) (sym rest) refl;
}

pub lower_walk-beside : (layer : Entries) (next_lookup : Option PathNames) (lower : Stand) → IsBelow layer next_lookup (Some lower) → (own : PathName) (row : Option ℕ) → IfSome next_lookup (λ path. IsRowAt layer (child_path path own) row) → (name : PathName) (name_walk : NameWalk)
    → (sheet : Entries) → layer ≡ sheet → ((path : PathNames) → IsStand sheet path lower → IsRowAt sheet (child_path path own) row → IsNameWalk sheet (child_path path name) lower.next name_walk)
    → (rest : Option Place) → rest_from lower.next rest ≡ next_lookup_to lower.next name_walk.next_lookup → IsPlaced lower.next rest
    → IsLowerWalk layer (name_on next_lookup name) lower.next (record { found = name_walk.found; rest = rest })
lower_walk-beside layer None lower below own row known name name_walk sheet same passes rest told placed = absurd below
lower_walk-beside layer (Some path) lower below own row known name name_walk sheet same passes rest told placed =
    let p : IsNameWalk layer (child_path path name) lower.next name_walk =
    subst (λ (s : Entries). IsNameWalk s (child_path path name) lower.next name_walk) (sym same)
    (passes path (subst (λ (s : Entries). IsStand s path lower) same below) (subst (λ (s : Entries). IsRowAt s (child_path path own) row) same known)) in
    record { found = p.found; marked = p.marked; rest = told ∙ p.next_lookup; placed = placed }

-- the row that the lower layer has by a candidate is one of it
pub below-inside : (layer : Entries) (next_lookup : Option PathNames) (lower : Stand) → IsBelow layer next_lookup (Some lower) → (own : PathName) (row : Option ℕ) → IfSome next_lookup (λ path. IsRowAt layer (child_path path own) row) → IfSome row (λ number. number < length layer)
below-inside layer None lower below own row known = absurd below
below-inside layer (Some path) lower below own row known = row-inside layer (child_path path own) row known

-- what a walk finds is the entry
-- ---- in the rest

pub goes-directory : (m : Merge) (inode : Inode) (lower_walk : Option Inode) (place : PathNames) → is_directory inode ≡ true → (a : Bool) → a ≡ is_nothing_or is_directory lower_walk → (b : Bool) → b ≡ shows_directory m.rest place → (a && b) ≡ goes_on_at m inode lower_walk place
goes-directory m inode lower_walk place d a is b shown =
    (λ j. is j && shown j) ∙ sym (ap (λ (c : Bool). cond c (is_nothing_or is_directory lower_walk && shows_directory m.rest place) (is_metacopy inode && is_nothing_or is_metacopy lower_walk && is_shown_regular (look m.rest place))) d)

pub goes-file : (m : Merge) (inode : Inode) (lower_walk : Option Inode) (place : PathNames) → is_directory inode ≡ false → (a : Bool) → a ≡ is_metacopy inode → (b : Bool) → b ≡ is_nothing_or is_metacopy lower_walk → (c : Bool) → c ≡ is_shown_regular (look m.rest place) → (a && b && c) ≡ goes_on_at m inode lower_walk place
goes-file m inode lower_walk place d a meta b is c shown =
    (λ j. meta j && is j && shown j) ∙ sym (ap (λ (e : Bool). cond e (is_nothing_or is_directory lower_walk && shows_directory m.rest place) (is_metacopy inode && is_nothing_or is_metacopy lower_walk && is_shown_regular (look m.rest place))) d)

shown-by-goes : (m : Merge) (inode : Inode) (lower_walk : Option Inode) (place : PathNames) → goes_on_at m inode lower_walk place ≡ true → look m.rest place ≡ Nothing → ⊥
shown-by-goes m inode lower_walk place goes none =
    end (is_directory inode) (is_nothing_or is_directory lower_walk) (is_metacopy inode && is_nothing_or is_metacopy lower_walk)
    (ap (λ (l : Look). cond (is_directory inode) (is_nothing_or is_directory lower_walk && is_shown_directory l) (is_metacopy inode && is_nothing_or is_metacopy lower_walk && is_shown_regular l)) (sym none) ∙ goes)
  where
    end : (d x y : Bool) → cond d (x && false) (y && false) ≡ true → ⊥
    end true true y e = let bad : false ≡ true = e in cc
    end true false y e = let bad : false ≡ true = e in cc
    end false x true e = let bad : false ≡ true = e in cc
    end false x false e = let bad : false ≡ true = e in cc

-- something is shown where a path goes on
reach-found : (m : Merge) (path place : PathNames) → reach m path ≡ Some place → look m.rest place ≡ Nothing → ⊥
reach-found m path place is none = by (first_hit m path) is
  where
    by : (o : Option Inode) → reach_of m path o ≡ Some place → ⊥
    by None e = let bad : None ≡ Some place = e in cc
    by (Some inode) e = at (goes_on m path inode) refl e
      where
        at : (b : Bool) → goes_on m path inode ≡ b → cond b (Some (rest_path m path)) None ≡ Some place → ⊥
        at true g k =
            let same : rest_path m path ≡ place = cc in
            let parts = both {a = is_open m path} {b = goes_on_at m inode (walk m.lower (lower_path m path)).found (rest_path m path)} g in
            shown-by-goes m inode (walk m.lower (lower_path m path)).found (rest_path m path) parts.1 (ap (look m.rest) same ∙ none)
        at false g k = let bad : None ≡ Some place = k in cc

module _ (stack : StackView) (each : All IsLayer (merge_of stack).rest.layers) (dir : PathNames) where
  nothing-in : (place : PathNames) (name : PathName) → shows_directory (merge_of stack).rest place ≡ false → look (merge_of stack).rest (child_path place name) ≡ Nothing
  nothing-in place name none = nothing-under (merge_of stack).rest each place name [] none

  -- what the rest shows by a name where it knows the directory, it shows by that in the base
  pub beside-look : (own : Base) → IsBase stack dir own → (above : Option PathNames) → reach (merge_of stack) dir ≡ reach_from (merge_of stack).rest above → (name : PathName) (path : PathNames) → name_on above name ≡ Some path
      → look_on (merge_of stack).rest (child_of (base (merge_of stack) dir) name) ≡ look (merge_of stack).rest path
  beside-look own is None reached name path there = let bad : None ≡ Some path = there in cc
  beside-look own is (Some place) reached name path there = by (shows_directory (merge_of stack).rest place) refl
    where
      same : child_path place name ≡ path
      same = let some : Some (child_path place name) ≡ Some path = there in cc

      by : (b : Bool) → shows_directory (merge_of stack).rest place ≡ b → look_on (merge_of stack).rest (child_of (base (merge_of stack) dir) name) ≡ look (merge_of stack).rest path
      by true e =
          ap (λ (o : Option PathNames). look_on (merge_of stack).rest (child_of o name)) (base-reach (merge_of stack) dir place (reached ∙ ap (λ (b : Bool). cond b (Some place) None) e))
          ∙ ap (look (merge_of stack).rest) same
      by false e =
          unreached-look stack each dir own is (reached ∙ ap (λ (b : Bool). cond b (Some place) None) e) name
          ∙ (sym (nothing-in place name e) ∙ ap (look (merge_of stack).rest) same)

  -- where a name goes on, the directory above does
  pub reach-above : (above : Option PathNames) → reach (merge_of stack) dir ≡ reach_from (merge_of stack).rest above → (path place : PathNames) → reach (merge_of stack) path ≡ Some place → (own : PathName) → name_on above own ≡ Some place
      → (q : PathNames) × (reach (merge_of stack) dir ≡ Some q) × (place ≡ child_path q own)
  reach-above None reached path place goes own there = let bad : None ≡ Some place = there in cc
  reach-above (Some q) reached path place goes own there = by (shows_directory (merge_of stack).rest q) refl
    where
      same : child_path q own ≡ place
      same = let some : Some (child_path q own) ≡ Some place = there in cc

      by : (b : Bool) → shows_directory (merge_of stack).rest q ≡ b → (q : PathNames) × (reach (merge_of stack) dir ≡ Some q) × (place ≡ child_path q own)
      by true e = (q, reached ∙ ap (λ (b : Bool). cond b (Some q) None) e, sym same)
      by false e = absurd (reach-found (merge_of stack) path place goes (ap (look (merge_of stack).rest) (sym same) ∙ nothing-in q own e))
