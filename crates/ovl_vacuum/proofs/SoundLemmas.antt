-- Vacuum keeps a sound stack sound.
use Rattle.std.proofs.Common.{◌≡◌, Bool, true, false, cond, Option, Some, None, [], ◌∷◌, ◌++◌, refl, sym, ap, ◌∙◌, subst, append_assoc, inl, inr, ◌⊎◌}
use Rattle.std.specs.Prelude.{◌||◌, ◌&&◌, not, is_none}
use Rattle.std.specs.List.{list_any, All}
use Rattle.std.specs.Ordering.{is_lt}
use Rattle.std.specs.Cmp.Lexicographic.{pointwise_decides, bytes_decides}
use Rattle.std.proofs.lemmas.List.{append-nil}
use Rattle.ovl_names.specs.Names.{PathName}
use Rattle.ovl_names.specs.Paths.{PathNames, child_path, path_eq, path_cmp}
use Rattle.ovl_names.proofs.Ascending.{both, not_true}
use Rattle.ovl_inode.specs.declared.inodes.Inode.{Inode}
use Rattle.ovl_inode.specs.Marks.{is_directory}
use Rattle.ovl_layer.specs.Layers.{Entries, entry_at, is_directory_at, IsLayer}
use Rattle.ovl_lookup.specs.declared.steps.Step.{Step}
use Rattle.ovl_lookup.specs.Walk.{mark_at, turn, is_shut, walk, walk_beyond, nothing_found}
use Rattle.ovl_lookup.specs.Stacks.{StackView}
use Rattle.ovl_lookup.specs.Trace.{things_found}
use Rattle.ovl_lookup.specs.Merged.{look, is_nothing, is_shown_directory, data_of}
use Rattle.ovl_lookup.specs.Sound.{is_malformed, is_moved, is_meta, is_plain, has_other_size, goes_on_there, is_seen_there, redirect_is_double, redirect_is_open}
use Rattle.ovl_lookup.proofs.LawsOfPaths.{some-entry, any-entry}
use Rattle.ovl_lookup.proofs.LawsOfLooks.{Faultless, sound-first, sound-rest, sound-whole}
use Rattle.ovl_lookup.proofs.LawsOfWalks.{same-mark, same-walk, Beyond, walk-end, walk-past}
use Rattle.ovl_vacuum.specs.Vacuum.{is_idle_throughout, vacuumed_layer}
use Rattle.ovl_vacuum.specs.Laws.{VacuumKeepsSoundness}
use Rattle.ovl_vacuum.proofs.VacuumLemmas.{idle-each, idle-seen, entry-left}
use Rattle.ovl_vacuum.proofs.KeptLemmas.{IsLayer-vacuumed, directory-along, entry-along, walk-along, left-of}

-- what implies a falsehood is one
false_from : (a b : Bool) → (a ≡ true → b ≡ true) → b ≡ false → a ≡ false
false_from true b imp e = sym (imp refl) ∙ e
false_from false b imp e = refl

-- an open redirect that is neither lost nor of the wrong kind leads to a directory
leads : (moved closed nothing directory : Bool) → moved ≡ true → closed ≡ false → (moved && (closed || nothing)) ≡ false → (moved && not closed && not nothing && not directory) ≡ false → directory ≡ true
leads true false false true a b c d = refl
leads true false false false a b c d = let bad : true ≡ false = d in cc
leads true false true directory a b c d = let bad : true ≡ false = c in cc
leads true true nothing directory a b c d = let bad : true ≡ false = b in cc
leads false closed nothing directory a b c d = let bad : false ≡ true = a in cc

module _ (top : Entries) (below : StackView) (is : IsLayer top) (each : All IsLayer below.layers) where
  -- what the layer that is left sees at a place, the whole one does, where the layers below show a directory there
  record_seen : (place : PathNames) → (walk top place).closed ≡ false → (walk top place).next ≡ place → (is_none (walk top place).found || is_plain (mark_at top place)) ≡ true → is_seen_there top place ≡ true
  record_seen place opened there plain =
      (λ j. not (opened j) && (pointwise_decides bytes_decides (walk top place).next place).1 there j && plain j)

  beyond_found : (found : Option Inode) (turned : PathNames) (shut : Bool) (name other : PathName) (rest : PathNames) → (walk_beyond found turned shut name (other ∷ rest)).found ≡ None
  beyond_found None turned shut name other rest = refl
  beyond_found (Some inode) turned shut name other rest = refl

  seen-kept : (place : PathNames) → is_shown_directory (look below place) ≡ true → is_seen_there (vacuumed_layer top below) place ≡ true → is_seen_there top place ≡ true
  seen-kept place shown seen = by (walk-end (vacuumed_layer top below) place (IsLayer-vacuumed top below is))
    where
      parts : ((not (walk (vacuumed_layer top below) place).closed && path_eq (walk (vacuumed_layer top below) place).next place) ≡ true) × ((is_none (walk (vacuumed_layer top below) place).found || is_plain (mark_at (vacuumed_layer top below) place)) ≡ true)
      parts = both {a = not (walk (vacuumed_layer top below) place).closed && path_eq (walk (vacuumed_layer top below) place).next place} {b = is_none (walk (vacuumed_layer top below) place).found || is_plain (mark_at (vacuumed_layer top below) place)} seen

      firsts : (not (walk (vacuumed_layer top below) place).closed ≡ true) × (path_eq (walk (vacuumed_layer top below) place).next place ≡ true)
      firsts = both {a = not (walk (vacuumed_layer top below) place).closed} {b = path_eq (walk (vacuumed_layer top below) place).next place} parts.0

      next_there : (walk (vacuumed_layer top below) place).next ≡ place
      next_there = (pointwise_decides bytes_decides (walk (vacuumed_layer top below) place).next place).0 firsts.1

      -- the same walk, and the same mark or nothing found
      same : walk (vacuumed_layer top below) place ≡ walk top place → (is_none (walk top place).found || is_plain (mark_at top place)) ≡ true → is_seen_there top place ≡ true
      same walked plain = record_seen place
          (ap (λ (s : Step). s.closed) (sym walked) ∙ not_true (walk (vacuumed_layer top below) place).closed firsts.0)
          (ap (λ (s : Step). s.next) (sym walked) ∙ next_there) plain

      by : (is_directory_at (vacuumed_layer top below) place ≡ true) ⊎ Beyond (vacuumed_layer top below) place → is_seen_there top place ≡ true
      by (inl holds) =
          let along = directory-along top below is place holds in
          let walked = same-walk (vacuumed_layer top below) top place (IsLayer-vacuumed top below is) is along in
          let marked = same-mark (vacuumed_layer top below) top place (along place [] (append-nil place)) in
          same walked ((λ j. is_none (sym walked j).found || is_plain (sym marked j)) ∙ parts.1)
      by (inr b) = ends (left-of top below is place b).ends
        where
          next : PathNames
          next = child_path b.directory b.name

          whole : next ++ b.rest ≡ place
          whole = append_assoc b.directory (b.name ∷ []) b.rest ∙ b.whole

          found_none : (rest : PathNames) → b.rest ≡ rest → walk (vacuumed_layer top below) place ≡ walk top place → entry_at (vacuumed_layer top below) next ≡ entry_at top next → (is_none (walk top place).found || is_plain (mark_at top place)) ≡ true
          found_none [] e walked there =
              let end : next ≡ place = sym (append-nil next) ∙ (ap (λ (r : PathNames). next ++ r) (sym e) ∙ whole) in
              let marked : mark_at (vacuumed_layer top below) place ≡ mark_at top place = same-mark (vacuumed_layer top below) top place (subst (λ (p : PathNames). entry_at (vacuumed_layer top below) p ≡ entry_at top p) end there) in
              (λ j. is_none (sym walked j).found || is_plain (sym marked j)) ∙ parts.1
          found_none (other ∷ rest) e walked there =
              let none : (walk top place).found ≡ None =
              ap (λ (s : Step). s.found) (sym walked)
              ∙ (ap (λ (s : Step). s.found) (walk-past (vacuumed_layer top below) place (IsLayer-vacuumed top below is) b)
              ∙ (ap (λ (r : PathNames). (walk_beyond (entry_at (vacuumed_layer top below) next) (turn (vacuumed_layer top below) b.directory) (is_shut (vacuumed_layer top below) b.directory) b.name r).found) e
              ∙ beyond_found (entry_at (vacuumed_layer top below) next) (turn (vacuumed_layer top below) b.directory) (is_shut (vacuumed_layer top below) b.directory) b.name other rest)) in
              ap (λ (o : Option Inode). is_none o || is_plain (mark_at top place)) none

          ends : ((walk (vacuumed_layer top below) place ≡ walk top place) × (entry_at (vacuumed_layer top below) next ≡ entry_at top next)) ⊎ ((inode : Inode) × (entry_at top next ≡ Some inode) × (is_idle_throughout top below next ≡ true) × (walk (vacuumed_layer top below) place ≡ nothing_found (turn top b.directory ++ b.name ∷ b.rest) false)) → is_seen_there top place ≡ true
          ends (inl (walked, there)) = same walked (found_none b.rest refl walked there)
          ends (inr (inode, here, goes, walked)) =
              let natural : child_path (turn top b.directory) b.name ++ b.rest ≡ place =
              append_assoc (turn top b.directory) (b.name ∷ []) b.rest ∙ (ap (λ (s : Step). s.next) (sym walked) ∙ next_there) in
              let sees = idle-seen top below is each b.rest b.directory b.name inode (left-of top below is place b).holds here (λ more i e. idle-each top below next more i goes e)
              (ap (λ (p : PathNames). is_shown_directory (look below p)) natural ∙ shown) in
              record_seen place
              (ap (λ (p : PathNames). (walk top p).closed) (sym whole) ∙ sees.opened)
              (ap (λ (p : PathNames). (walk top p).next) (sym whole) ∙ (sees.there ∙ natural))
              (ap (λ (p : PathNames). is_none (walk top p).found || is_plain (mark_at top p)) (sym whole) ∙ sees.plain)

  -- each condition at an entry that is left holds only if it did
  module _ (path : PathNames) (inode : Inode) (here : entry_at (vacuumed_layer top below) path ≡ Some inode) (was : Faultless top below path inode) where
    marked : mark_at (vacuumed_layer top below) path ≡ mark_at top path
    marked = same-mark (vacuumed_layer top below) top path (entry-along top below is path inode here path [] (append-nil path))

    walked : walk (vacuumed_layer top below) path ≡ walk top path
    walked = walk-along top below is path inode here

    goes_on : (other : PathNames) (i : Inode) → entry_at (vacuumed_layer top below) other ≡ Some i → goes_on_there (vacuumed_layer top below) path (other, i) ≡ goes_on_there top path (other, i)
    goes_on other i there =
        let moved = walk-along top below is other i there in
        (λ j. is_directory i && is_lt (path_cmp other path) && not (moved j).closed && path_eq (moved j).next (walked j).next)

    double_was : list_any (goes_on_there (vacuumed_layer top below) path) (vacuumed_layer top below) ≡ true → list_any (goes_on_there top path) top ≡ true
    double_was any =
        let found = some-entry (goes_on_there (vacuumed_layer top below) path) (vacuumed_layer top below) (IsLayer-vacuumed top below is).in_order any in
        any-entry (goes_on_there top path) top found.0 found.1 (entry-left top below found.0 found.1 found.2).0 (sym (goes_on found.0 found.1 found.2) ∙ found.3)

    double : redirect_is_double (vacuumed_layer top below) path ≡ true → redirect_is_double top path ≡ true
    double is_double =
        let parts = both {a = is_moved (mark_at (vacuumed_layer top below) path) && not (walk (vacuumed_layer top below) path).closed} {b = list_any (goes_on_there (vacuumed_layer top below) path) (vacuumed_layer top below)} is_double in
        (λ j. is_moved (sym marked j) && not (sym walked j).closed && list_any (goes_on_there top path) top) ∙ (λ j. parts.0 j && double_was parts.1 j)

    opened : redirect_is_open (vacuumed_layer top below) path ≡ true → redirect_is_open top path ≡ true
    opened is_open =
        let parts = both {a = is_moved (mark_at (vacuumed_layer top below) path) && not (walk (vacuumed_layer top below) path).closed} {b = is_seen_there (vacuumed_layer top below) (walk (vacuumed_layer top below) path).next} is_open in
        let firsts : (is_moved (mark_at top path) && not (walk top path).closed) ≡ true = (λ j. is_moved (sym marked j) && not (sym walked j).closed) ∙ parts.0 in
        let two = both {a = is_moved (mark_at top path)} {b = not (walk top path).closed} firsts in
        let shown : is_shown_directory (look below (walk top path).next) ≡ true =
        leads (is_moved (mark_at top path)) (walk top path).closed (is_nothing (look below (walk top path).next)) (is_shown_directory (look below (walk top path).next)) two.0 (not_true (walk top path).closed two.1) was.found was.fitting in
        let seen : is_seen_there top (walk top path).next ≡ true = seen-kept (walk top path).next shown (ap (λ (s : Step). is_seen_there (vacuumed_layer top below) s.next) (sym walked) ∙ parts.1) in
        (λ j. firsts j && seen j)

    pub left-faultless : Faultless (vacuumed_layer top below) below path inode
    left-faultless = record {
      formed = ap is_malformed marked ∙ was.formed;
      found = (λ j. is_moved (marked j) && ((walked j).closed || is_nothing (look below (walked j).next))) ∙ was.found;
      fitting = (λ j. is_moved (marked j) && not (walked j).closed && not (is_nothing (look below (walked j).next)) && not (is_shown_directory (look below (walked j).next))) ∙ was.fitting;
      single = false_from (redirect_is_double (vacuumed_layer top below) path) (redirect_is_double top path) double was.single;
      hidden = false_from (redirect_is_open (vacuumed_layer top below) path) (redirect_is_open top path) opened was.hidden;
      full = (λ j. is_meta (marked j) && is_none (data_of below.data_only (inode ∷ cond (walked j).closed [] (things_found below.layers (walked j).next)))) ∙ was.full;
      sized = (λ j. is_meta (marked j) && has_other_size inode (data_of below.data_only (inode ∷ cond (walked j).closed [] (things_found below.layers (walked j).next)))) ∙ was.sized;
    }

pub VacuumKeepsSoundness-holds : VacuumKeepsSoundness
VacuumKeepsSoundness-holds top below is each sound =
    sound-whole (vacuumed_layer top below) below (IsLayer-vacuumed top below is).in_order
    (λ path inode here. left-faultless top below is each path inode here (sound-first top below sound path inode (entry-left top below path inode here).0))
    (sound-rest top below sound)
