-- What the kept walks of a directory's path report of it: whether the two layers show it, and where it goes on.
use Rattle.std.proofs.Common.{◌≡◌, ℕ, Bool, true, false, cond, Option, Some, None, [], ◌∷◌, refl, sym, ap, ◌∙◌, subst}
use Rattle.std.specs.Prelude.{◌&&◌, ◌||◌, not, is_some, is_none}
use Rattle.ovl_names.specs.Paths.{PathNames, is_root}
use Rattle.ovl_inode.specs.declared.inodes.Inode.{Inode}
use Rattle.ovl_inode.specs.Marks.{is_directory, is_metacopy}
use Rattle.ovl_layer.specs.Layers.{Entries, IsLayer, entry_at}
use Rattle.ovl_lookup.specs.declared.steps.Step.{Step}
use Rattle.ovl_lookup.specs.Stacks.{StackView}
use Rattle.ovl_lookup.specs.Walk.{walk}
use Rattle.ovl_lookup.specs.Merged.{look, shows_directory}
use Rattle.ovl_lookup.proofs.LawsOfWalks.{walk-whole, directory_found}
use Rattle.ovl_merge.specs.declared.stands.Stand.{Stand}
use Rattle.ovl_merge.specs.declared.directories.Directory.{Directory}
use Rattle.ovl_merge.specs.Places.{Merge, merge_of, lower_path, rest_path, first_hit, passes, shows_own_directory, is_open, is_nothing_or, is_shown_regular, reach, reach_of, natural, base, gets_opaque, shows_directory_at}
use Rattle.ovl_merge.specs.Stands.{IsStand, StandsAt, next_lookup_on, step_next_lookup}
use Rattle.ovl_merge.specs.Reckoned.{IsBelow, IsVisited, is_inside_at, next_lookup_at, reach_from, upper_next_lookup}
use Rattle.ovl_merge.proofs.Firsts.{first_step, first_hit-steps}
use Rattle.ovl_merge.proofs.Core.{root-shown, base-none}
use Rattle.ovl_merge.proofs.StandLemmas.{inside-found, own-next_lookup, past-found, past-next_lookup, past_next_lookup, stand-found}

-- ---- in one layer

nothing-or : (found : Option Inode) → passes is_directory found ≡ true → is_nothing_or is_directory found ≡ true
nothing-or None e = refl
nothing-or (Some inode) e = e

-- where a walk goes on past a path, nothing is found there and it is open
shut-past : (found : Option Inode) (next : PathNames) (closed : Bool) → None ≡ past_next_lookup found next closed → true ≡ (is_some found || closed)
shut-past (Some inode) next closed e = refl
shut-past None next true e = refl
shut-past None next false e = let bad : None ≡ Some next = e in cc

open-past : (found : Option Inode) (next : PathNames) (closed : Bool) (next_lookup : PathNames) → Some next_lookup ≡ past_next_lookup found next closed → (found ≡ None) × (closed ≡ false) × (next_lookup ≡ next)
open-past (Some inode) next closed next_lookup e = let bad : Some next_lookup ≡ None = e in cc
open-past None next true next_lookup e = let bad : Some next_lookup ≡ None = e in cc
open-past None next false next_lookup e = let same : next_lookup ≡ next = cc in (refl, refl, same)

-- ---- whether the two layers show a directory

first-directory : (found : Option Inode) (closed : Bool) (below : Option Inode) → passes is_directory found ≡ true → passes is_directory (first_step found closed below) ≡ true
first-directory None closed below e = let bad : false ≡ true = e in cc
first-directory (Some inode) closed below e = e

first-shut : (found : Option Inode) (closed : Bool) (below : Option Inode) → passes is_directory found ≡ false → true ≡ (is_some found || closed) → passes is_directory (first_step found closed below) ≡ false
first-shut (Some inode) closed below e shut = e
first-shut None true below e shut = refl
first-shut None false below e shut = let bad : true ≡ false = shut in cc

first-last : (found : Option Inode) (closed : Bool) → passes is_directory (first_step found closed None) ≡ passes is_directory found
first-last (Some inode) closed = refl
first-last None true = refl
first-last None false = refl

module _ (m : Merge) (path : PathNames) where
  abbrev below_first : Option Inode
  below_first = first_step (walk m.lower (lower_path m path)).found (walk m.lower (lower_path m path)).closed None

  pub shown-by : (row : Option ℕ) (next : Option PathNames) → StandsAt m.upper path row next → (lower : Option Stand) → IsBelow m.lower next lower
      → shows_own_directory m path ≡ (is_some row || is_inside_at lower)
  shown-by (Some row) next here lower there =
      ap (passes is_directory) (first_hit-steps m path) ∙ first-directory (walk m.upper path).found (walk m.upper path).closed below_first (inside-found m.upper path here.arrival.directory)
  shown-by None None here None there =
      ap (passes is_directory) (first_hit-steps m path)
      ∙ first-shut (walk m.upper path).found (walk m.upper path).closed below_first (past-found m.upper path None here) (shut-past (walk m.upper path).found (walk m.upper path).next (walk m.upper path).closed (past-next_lookup m.upper path None here))
  shown-by None None here (Some below) there = absurd there
  shown-by None (Some next) here None there = let bad : Some next ≡ None = there in cc
  shown-by None (Some next) here (Some below) there =
      let o = open-past (walk m.upper path).found (walk m.upper path).next (walk m.upper path).closed next (past-next_lookup m.upper path (Some next) here) in
      ap (passes is_directory) (first_hit-steps m path ∙ (λ j. first_step (o.0 j) (o.1 j) below_first))
      ∙ (first-last (walk m.lower (lower_path m path)).found (walk m.lower (lower_path m path)).closed
      ∙ stand-found m.lower (lower_path m path) below.row below.next (subst (λ (p : PathNames). IsStand m.lower p below) o.2 there))

  -- where the lower layer knows a shown directory
  pub lower-by : (row : Option ℕ) (next : Option PathNames) → StandsAt m.upper path row next → (lower : Option Stand) → IsBelow m.lower next lower → (is_some row || is_inside_at lower) ≡ true
      → next ≡ step_next_lookup (walk m.upper path)
  lower-by (Some row) next here lower there shown = own-next_lookup m.upper path row next here
  lower-by None None here None there shown = let bad : false ≡ true = shown in cc
  lower-by None None here (Some below) there shown = absurd there
  lower-by None (Some next) here lower there shown =
      let o = open-past (walk m.upper path).found (walk m.upper path).next (walk m.upper path).closed next (past-next_lookup m.upper path (Some next) here) in
      λ j. next_lookup_on (o.2 j) (sym o.1 j)

-- ---- where it goes on in the rest

module _ (m : Merge) (path : PathNames) where
  -- a shown directory goes on where both walks are open, over nothing or a directory, to a directory of the rest
  abbrev goes : Step → Step → Option PathNames
  goes upper lower = cond ((not upper.closed && not lower.closed) && (is_nothing_or is_directory lower.found && shows_directory m.rest lower.next)) (Some lower.next) None

  directory-reach : shows_own_directory m path ≡ true → reach m path ≡ goes (walk m.upper path) (walk m.lower (lower_path m path))
  directory-reach shown = by (first_hit m path) shown
    where
      by : (o : Option Inode) → passes is_directory o ≡ true → reach_of m path o ≡ goes (walk m.upper path) (walk m.lower (lower_path m path))
      by None e = let bad : false ≡ true = e in cc
      by (Some inode) e =
          ap (λ (b : Bool). cond (is_open m path && cond b (is_nothing_or is_directory (walk m.lower (lower_path m path)).found && shows_directory m.rest (rest_path m path)) (is_metacopy inode && is_nothing_or is_metacopy (walk m.lower (lower_path m path)).found && is_shown_regular (look m.rest (rest_path m path)))) (Some (rest_path m path)) None) e

  stand-goes : (upper : Step) → upper.closed ≡ false → (row : Option ℕ) (next : Option PathNames) → StandsAt m.lower (lower_path m path) row next → goes upper (walk m.lower (lower_path m path)) ≡ reach_from m.rest next
  stand-goes upper opened row next is =
      ap (λ (b : Bool). cond ((not b && not low.closed) && (is_nothing_or is_directory low.found && shows_directory m.rest low.next)) (Some low.next) None) opened ∙ by row is
    where
      low : Step
      low = walk m.lower (lower_path m path)

      inside : (closed : Bool) (found : Option Inode) → is_nothing_or is_directory found ≡ true → cond (not closed && (is_nothing_or is_directory found && shows_directory m.rest low.next)) (Some low.next) None ≡ reach_from m.rest (next_lookup_on low.next closed)
      inside true found e = refl
      inside false found e = ap (λ (b : Bool). cond (b && shows_directory m.rest low.next) (Some low.next) None) e

      past : (closed : Bool) (found : Option Inode) → passes is_directory found ≡ false → cond (not closed && (is_nothing_or is_directory found && shows_directory m.rest low.next)) (Some low.next) None ≡ reach_from m.rest (past_next_lookup found low.next closed)
      past true None e = refl
      past false None e = refl
      past true (Some inode) e = refl
      past false (Some inode) e = ap (λ (b : Bool). cond (b && shows_directory m.rest low.next) (Some low.next) None) e

      by : (row : Option ℕ) → StandsAt m.lower (lower_path m path) row next → cond (not low.closed && (is_nothing_or is_directory low.found && shows_directory m.rest low.next)) (Some low.next) None ≡ reach_from m.rest next
      by (Some r) is = inside low.closed low.found (nothing-or low.found (inside-found m.lower (lower_path m path) is.arrival.directory)) ∙ ap (reach_from m.rest) (sym (own-next_lookup m.lower (lower_path m path) r next is))
      by None is = past low.closed low.found (past-found m.lower (lower_path m path) next is) ∙ ap (reach_from m.rest) (sym (past-next_lookup m.lower (lower_path m path) next is))

  shut-goes : (upper lower : Step) → upper.closed ≡ true → goes upper lower ≡ None
  shut-goes upper lower shut = ap (λ (b : Bool). cond ((not b && not lower.closed) && (is_nothing_or is_directory lower.found && shows_directory m.rest lower.next)) (Some lower.next) None) shut

  reach-by : shows_own_directory m path ≡ true → (lower : Option Stand) → IsBelow m.lower (step_next_lookup (walk m.upper path)) lower
      → reach m path ≡ reach_from m.rest (next_lookup_at lower)
  reach-by shown lower there = directory-reach shown ∙ by (walk m.upper path).closed refl lower there
    where
      by : (closed : Bool) → (walk m.upper path).closed ≡ closed → (lower : Option Stand) → IsBelow m.lower (step_next_lookup (walk m.upper path)) lower
          → goes (walk m.upper path) (walk m.lower (lower_path m path)) ≡ reach_from m.rest (next_lookup_at lower)
      by true shut None there = shut-goes (walk m.upper path) (walk m.lower (lower_path m path)) shut
      by true shut (Some below) there = absurd (subst (λ (b : Bool). IsBelow m.lower (next_lookup_on (lower_path m path) b) (Some below)) shut there)
      by false opened None there = let bad : Some (lower_path m path) ≡ None = sym (ap (next_lookup_on (lower_path m path)) opened) ∙ there in cc
      by false opened (Some below) there =
          stand-goes (walk m.upper path) opened below.row below.next (subst (λ (b : Bool). IsBelow m.lower (next_lookup_on (lower_path m path) b) (Some below)) opened there)

  -- the same where the walk in the lower layer stands where that of the upper one goes on
  pub reach-below : (row : Option ℕ) (next : Option PathNames) → StandsAt m.upper path row next → (lower : Option Stand) → IsBelow m.lower next lower → shows_own_directory m path ≡ true
      → reach m path ≡ reach_from m.rest (next_lookup_at lower)
  reach-below row next here lower there shown =
      let inside : (is_some row || is_inside_at lower) ≡ true = sym (shown-by m path row next here lower there) ∙ shown in
      reach-by shown lower (subst (λ (o : Option PathNames). IsBelow m.lower o lower) (lower-by m path row next here lower there inside) there)

-- ---- the base of one that doesn't go on

directory-passes : (found : Option Inode) → directory_found found ≡ true → passes is_directory found ≡ true
directory-passes None e = e
directory-passes (Some inode) e = e

root-walk : (layer : Entries) → IsLayer layer → walk layer [] ≡ record { found = entry_at layer []; next = []; closed = false }
root-walk layer is = walk-whole layer [] is.rooted

root-reached : (m : Merge) → IsLayer m.upper → IsLayer m.lower → reach m [] ≡ cond (shows_directory m.rest []) (Some []) None
root-reached m upper lower =
    let d = root-shown m upper in
    directory-reach m [] (ap (passes is_directory) d.hit ∙ d.directory)
    ∙ (ap (λ (s : Step). goes m [] s (walk m.lower s.next)) (root-walk m.upper upper)
    ∙ (ap (λ (s : Step). goes m [] (record { found = entry_at m.upper []; next = []; closed = false }) s) (root-walk m.lower lower)
    ∙ (λ j. cond (nothing-or (entry_at m.lower []) (directory-passes (entry_at m.lower []) lower.rooted) j && shows_directory m.rest []) (Some []) None)))

root-reach : (m : Merge) → IsLayer m.upper → IsLayer m.lower → shows_directory m.rest [] ≡ true → reach m [] ≡ Some []
root-reach m upper lower shown = root-reached m upper lower ∙ ap (λ (b : Bool). cond b (Some []) None) shown

pub base-unreached : (m : Merge) → IsLayer m.upper → IsLayer m.lower → (path : PathNames) → shows_own_directory m path ≡ true → reach m path ≡ None
    → cond (shows_directory_at m.rest (natural m path)) None (natural m path) ≡ base m path
base-unreached m upper lower [] shown none = by (shows_directory m.rest []) refl ∙ sym (base-none m [] none)
  where
    by : (b : Bool) → shows_directory m.rest [] ≡ b → cond (shows_directory m.rest []) None (Some []) ≡ cond (gets_opaque m []) None (natural m [])
    by true e = let bad : Some [] ≡ None = sym (root-reach m upper lower e) ∙ none in cc
    by false e = ap (λ (b : Bool). cond b None (Some [])) e
base-unreached m upper lower (name ∷ names) shown none =
    let path : PathNames = name ∷ names in
    sym (base-none m path none
    ∙ (λ j. cond (not (is_root path) && shown j && is_none (none j) && shows_directory_at m.rest (natural m path)) None (natural m path)))

-- ---- by what is kept of a directory

pub visited-reach : (stack : StackView) (dir : PathNames) (directory : Directory) → IsVisited stack dir directory → reach (merge_of stack) dir ≡ reach_from (merge_of stack).rest (next_lookup_at directory.lower)
visited-reach stack dir directory is = reach-below (merge_of stack) dir directory.upper (upper_next_lookup (merge_of stack) dir) is.upper directory.lower is.lower is.shown
