-- What vacuum keeps: a layer, its merged tree, its soundness; and what it leaves.
use Rattle.std.proofs.Common.{◌≡◌, ◌≤◌, suc, Bool, true, false, cond, Option, Some, None, List, [], ◌∷◌, ◌++◌, length, refl, sym, ap, ◌∙◌, append_assoc, inl, inr, ◌⊎◌, arith}
use Rattle.std.specs.Prelude.{◌||◌, ◌&&◌, not, filter, drop}
use Rattle.std.specs.List.{All}
use Rattle.std.proofs.lemmas.List.{append-nil}
use Rattle.std.proofs.lemmas.Bool.{leb-true, le-leb}
use Rattle.std.proofs.Math.Bool.{or-true}
use Rattle.ovl_names.specs.Names.{PathName}
use Rattle.ovl_names.specs.Order.{ascends}
use Rattle.ovl_names.specs.Paths.{PathNames, child_path, parent_path, is_root, has_names}
use Rattle.ovl_names.proofs.Ascending.{list_all-filter, ascends-filter}
use Rattle.ovl_inode.specs.declared.inodes.Inode.{Inode}
use Rattle.ovl_inode.specs.Attributes.{has_escaped_name}
use Rattle.ovl_inode.specs.Marks.{mark_of}
use Rattle.ovl_inode.specs.Sound.{is_sound_inode}
use Rattle.ovl_layer.specs.Layers.{Entries, Entry, entry_at, entry_cmp, is_directory_at, has_parent, is_within_limits, entry_limit, IsLayer}
use Rattle.ovl_lookup.specs.declared.steps.Step.{Step}
use Rattle.ovl_lookup.specs.Walk.{turn, is_shut, walk, walk_beyond, nothing_found, natural_path}
use Rattle.ovl_lookup.specs.Stacks.{StackView}
use Rattle.ovl_lookup.specs.Merged.{look}
use Rattle.ovl_lookup.proofs.LawsOfWalks.{walk-whole, walk-stop, directory-above, directory-parent_of, entry-parent, entry-above, directory-entry, directory_found, same-mark, same-turn, same-walk, Beyond, walk-end, walk-past}
use Rattle.ovl_lookup.proofs.LawsOfPaths.{lookup-all, last-name, under-child, all-imply, filter-all, all-entries}
use Rattle.ovl_lookup.specs.Equal.{look_eq}
use Rattle.ovl_lookup.specs.Words.{over, is_at_or_under, SameEntries}
use Rattle.ovl_lookup.proofs.LawsOfLooks.{look-same, look-open}
use Rattle.ovl_vacuum.specs.Vacuum.{may_be_idle, is_idle, is_idle_throughout, vacuumed_layer}
use Rattle.ovl_vacuum.specs.Laws.{VacuumKeepsTree, VacuumGivesLayer, VacuumLeavesNothingIdle}
use Rattle.ovl_vacuum.proofs.VacuumLemmas.{entry-stays, entry-goes, entry-left, idle-each, idle-at, idle-facts, idle-shown}

-- ---- what is left is a layer

pub length-filter_le : {X : Type 0} (test : X → Bool) (xs : List X) → length (filter test xs) ≤ length xs
length-filter_le test [] = omega arith
length-filter_le {X} test (x ∷ xs) = by (test x) (length-filter_le test xs)
  where
    by : (b : Bool) → length (filter test xs) ≤ length xs → length (cond b (x ∷ filter test xs) (filter test xs)) ≤ suc (length xs)
    by true le = omega (arith, le)
    by false le = omega (arith, le)

module _ (top : Entries) (below : StackView) (is : IsLayer top) where
  -- the root isn't idle
  pub root-stays : is_idle_throughout top below [] ≡ false
  root-stays = by (is_idle_throughout top below []) refl
    where
      by : (b : Bool) → is_idle_throughout top below [] ≡ b → b ≡ false
      by false e = refl
      by true e =
          let root = directory-entry top [] is.rooted in
          let bad : false ≡ true = idle-at top below [] root.0 e root.1 in cc

  -- an entry of a directory goes with it
  pub throughout-child : (path : PathNames) (name : PathName) → is_idle_throughout top below path ≡ true → is_idle_throughout top below (child_path path name) ≡ true
  throughout-child path name throughout =
      all-imply (λ entry. not (is_at_or_under path entry.0) || is_idle top below entry) (λ entry. not (is_at_or_under (child_path path name) entry.0) || is_idle top below entry) top
      (λ entry e. by entry e (is_at_or_under (child_path path name) entry.0) refl) throughout
    where
      by : (entry : Entry) → (not (is_at_or_under path entry.0) || is_idle top below entry) ≡ true → (b : Bool) → is_at_or_under (child_path path name) entry.0 ≡ b → (not b || is_idle top below entry) ≡ true
      by entry e false u = refl
      by entry e true u = ap (λ b. not b || is_idle top below entry) (sym (under-child path entry.0 name u)) ∙ e

  -- so its directory stays with an entry
  directory_stays : (path : PathNames) (name : PathName) → is_idle_throughout top below (child_path path name) ≡ false → is_idle_throughout top below path ≡ false
  directory_stays path name stays = by (is_idle_throughout top below path) refl
    where
      by : (b : Bool) → is_idle_throughout top below path ≡ b → b ≡ false
      by false e = refl
      by true e = let bad : true ≡ false = sym (throughout-child path name e) ∙ stays in cc

  ascending : ascends entry_cmp (vacuumed_layer top below) ≡ true
  ascending = ascends-filter entry_cmp (λ entry. not (is_idle_throughout top below entry.0)) top is.in_order

  parents : (path : PathNames) (inode : Inode) → entry_at (vacuumed_layer top below) path ≡ Some inode → has_parent (vacuumed_layer top below) path ≡ true
  parents path inode here = by (last-name path)
    where
      by : (path ≡ []) ⊎ ((directory : PathNames) × (name : PathName) × (path ≡ child_path directory name)) → has_parent (vacuumed_layer top below) path ≡ true
      by (inl e) = ap (has_parent (vacuumed_layer top below)) e
      by (inr (directory, name, e)) =
          let left = entry-left top below (child_path directory name) inode (ap (entry_at (vacuumed_layer top below)) (sym e) ∙ here) in
          let kept : entry_at (vacuumed_layer top below) directory ≡ entry_at top directory = entry-stays top below directory (directory_stays directory name left.1) in
          ap (has_parent (vacuumed_layer top below)) e
          ∙ directory-parent_of (vacuumed_layer top below) directory name (ap directory_found kept ∙ entry-parent top directory name inode is left.0)

  pub IsLayer-vacuumed : IsLayer (vacuumed_layer top below)
  IsLayer-vacuumed = record {
    in_order = ascending;
    rooted = ap directory_found (entry-stays top below [] root-stays) ∙ is.rooted;
    closed = all-entries (λ entry. has_parent (vacuumed_layer top below) entry.0) (vacuumed_layer top below) ascending parents;
    named = list_all-filter (λ (entry : Entry). has_names entry.0) (λ entry. not (is_idle_throughout top below entry.0)) top is.named;
    sound = list_all-filter (λ (entry : Entry). is_sound_inode entry.1) (λ entry. not (is_idle_throughout top below entry.0)) top is.sound;
    unescaped = list_all-filter (λ (entry : Entry). not (has_escaped_name entry.1.attrs)) (λ entry. not (is_idle_throughout top below entry.0)) top is.unescaped;
    limited = list_all-filter (λ (entry : Entry). is_within_limits entry.0) (λ entry. not (is_idle_throughout top below entry.0)) top is.limited;
    counted = le-leb (length (vacuumed_layer top below)) entry_limit (omega (arith, leb-true (length top) entry_limit is.counted, length-filter_le (λ (entry : Entry). not (is_idle_throughout top below entry.0)) top));
  }

  -- ---- a walk to what is left

  directory_same : (path : PathNames) → is_directory_at (vacuumed_layer top below) path ≡ true → entry_at (vacuumed_layer top below) path ≡ entry_at top path
  directory_same path holds =
      let found = directory-entry (vacuumed_layer top below) path holds in
      found.1 ∙ sym (entry-left top below path found.0 found.1).0

  pub directory-along : (path : PathNames) → is_directory_at (vacuumed_layer top below) path ≡ true → SameEntries (vacuumed_layer top below) top path
  directory-along path holds front back e =
      directory_same front (directory-above (vacuumed_layer top below) front back IsLayer-vacuumed (ap (is_directory_at (vacuumed_layer top below)) e ∙ holds))

  pub entry-along : (path : PathNames) (inode : Inode) → entry_at (vacuumed_layer top below) path ≡ Some inode → SameEntries (vacuumed_layer top below) top path
  entry-along path inode here front back e = by back e
    where
      by : (back : PathNames) → front ++ back ≡ path → entry_at (vacuumed_layer top below) front ≡ entry_at top front
      by [] e =
          let same : front ≡ path = sym (append-nil front) ∙ e in
          let there : entry_at (vacuumed_layer top below) front ≡ Some inode = ap (entry_at (vacuumed_layer top below)) same ∙ here in
          there ∙ sym (entry-left top below front inode there).0
      by (name ∷ rest) e =
          directory_same front (entry-above (vacuumed_layer top below) front name rest inode IsLayer-vacuumed (ap (entry_at (vacuumed_layer top below)) e ∙ here))

  pub walk-along : (path : PathNames) (inode : Inode) → entry_at (vacuumed_layer top below) path ≡ Some inode → walk (vacuumed_layer top below) path ≡ walk top path
  walk-along path inode here = same-walk (vacuumed_layer top below) top path IsLayer-vacuumed is (entry-along path inode here)

  -- a walk beyond the last directory that is left: of the two layers, by what the whole one has there
  pub record Left (path : PathNames) (b : Beyond (vacuumed_layer top below) path) : Type 0 where
    pub holds : is_directory_at top b.directory ≡ true
    pub turned : turn (vacuumed_layer top below) b.directory ≡ turn top b.directory
    pub shut : is_shut (vacuumed_layer top below) b.directory ≡ is_shut top b.directory
    -- the walks are the same, with the same entry at the next name, or all are idle from there
    pub ends : ((walk (vacuumed_layer top below) path ≡ walk top path) × (entry_at (vacuumed_layer top below) (child_path b.directory b.name) ≡ entry_at top (child_path b.directory b.name)))
        ⊎ ((inode : Inode) × (entry_at top (child_path b.directory b.name) ≡ Some inode) × (is_idle_throughout top below (child_path b.directory b.name) ≡ true)
        × (walk (vacuumed_layer top below) path ≡ nothing_found (turn top b.directory ++ b.name ∷ b.rest) false))

  pub left-of : (path : PathNames) (b : Beyond (vacuumed_layer top below) path) → Left path b
  left-of path b = record { holds = holds; turned = turned.0; shut = turned.1; ends = by (entry_at top next) refl (is_idle_throughout top below next) refl }
    where
      next : PathNames
      next = child_path b.directory b.name

      holds : is_directory_at top b.directory ≡ true
      holds = ap directory_found (sym (directory_same b.directory b.holds)) ∙ b.holds

      turned : (turn (vacuumed_layer top below) b.directory ≡ turn top b.directory) × (is_shut (vacuumed_layer top below) b.directory ≡ is_shut top b.directory)
      turned = same-turn (vacuumed_layer top below) top b.directory (λ front back e. same-mark (vacuumed_layer top below) top front (directory-along b.directory b.holds front back e))

      walked : walk (vacuumed_layer top below) path ≡ walk_beyond (entry_at (vacuumed_layer top below) next) (turn top b.directory) (is_shut top b.directory) b.name b.rest
      walked =
          walk-past (vacuumed_layer top below) path IsLayer-vacuumed b
          ∙ (λ j. walk_beyond (entry_at (vacuumed_layer top below) next) (turned.0 j) (turned.1 j) b.name b.rest)

      same : entry_at (vacuumed_layer top below) next ≡ entry_at top next → walk (vacuumed_layer top below) path ≡ walk top path
      same there =
          walked
          ∙ (ap (λ (o : Option Inode). walk_beyond o (turn top b.directory) (is_shut top b.directory) b.name b.rest) there
          ∙ (sym (walk-stop top b.directory b.name b.rest is holds (ap directory_found (sym there) ∙ b.stops))
          ∙ ap (walk top) b.whole))

      by : (found : Option Inode) → entry_at top next ≡ found → (gone : Bool) → is_idle_throughout top below next ≡ gone
          → ((walk (vacuumed_layer top below) path ≡ walk top path) × (entry_at (vacuumed_layer top below) next ≡ entry_at top next)) ⊎ ((inode : Inode) × (entry_at top next ≡ Some inode) × (is_idle_throughout top below next ≡ true) × (walk (vacuumed_layer top below) path ≡ nothing_found (turn top b.directory ++ b.name ∷ b.rest) false))
      by found e false stays = let there = entry-stays top below next stays in inl (same there, there)
      by None e true goes = let there = entry-goes top below next goes ∙ sym e in inl (same there, there)
      by (Some inode) e true goes =
          let opened : is_shut top b.directory ≡ false = ap (λ (s : Step). s.closed) (sym (walk-whole top b.directory holds)) ∙ (idle-facts top below b.directory b.name inode (idle-at top below next inode goes e)).opened in
          inr (inode, e, goes, walked ∙ (λ j. walk_beyond (entry-goes top below next goes j) (turn top b.directory) (opened j) b.name b.rest))

-- ---- the merged tree is kept, and nothing idle is left

module _ (top : Entries) (below : StackView) (is : IsLayer top) (each : All IsLayer below.layers) where
  pub tree-kept : (path : PathNames) → look (over (vacuumed_layer top below) below) path ≡ look (over top below) path
  tree-kept path = by (walk-end (vacuumed_layer top below) path (IsLayer-vacuumed top below is))
    where
      by : (is_directory_at (vacuumed_layer top below) path ≡ true) ⊎ Beyond (vacuumed_layer top below) path → look (over (vacuumed_layer top below) below) path ≡ look (over top below) path
      by (inl holds) = look-same (vacuumed_layer top below) top below path (same-walk (vacuumed_layer top below) top path (IsLayer-vacuumed top below is) is (directory-along top below is path holds))
      by (inr b) = ends (left-of top below is path b).ends
        where
          next : PathNames
          next = child_path b.directory b.name

          whole : next ++ b.rest ≡ path
          whole = append_assoc b.directory (b.name ∷ []) b.rest ∙ b.whole

          ends : ((walk (vacuumed_layer top below) path ≡ walk top path) × (entry_at (vacuumed_layer top below) next ≡ entry_at top next)) ⊎ ((inode : Inode) × (entry_at top next ≡ Some inode) × (is_idle_throughout top below next ≡ true) × (walk (vacuumed_layer top below) path ≡ nothing_found (turn top b.directory ++ b.name ∷ b.rest) false)) → look (over (vacuumed_layer top below) below) path ≡ look (over top below) path
          ends (inl (same, there)) = look-same (vacuumed_layer top below) top below path same
          ends (inr (inode, here, goes, walked)) =
              look-open (vacuumed_layer top below) below path (turn top b.directory ++ b.name ∷ b.rest) walked
              ∙ (ap (look below) (sym (append_assoc (turn top b.directory) (b.name ∷ []) b.rest))
              ∙ (sym (idle-shown top below is each b.rest b.directory b.name inode (left-of top below is path b).holds here (λ more i e. idle-each top below next more i goes e))
              ∙ ap (look (over top below)) whole))

  -- an entry that is left is idle where it was
  idle_same : (path : PathNames) (inode : Inode) → entry_at (vacuumed_layer top below) path ≡ Some inode → is_idle (vacuumed_layer top below) below (path, inode) ≡ is_idle top below (path, inode)
  idle_same path inode here = by (is_root path) refl
    where
      by : (b : Bool) → is_root path ≡ b → is_idle (vacuumed_layer top below) below (path, inode) ≡ is_idle top below (path, inode)
      by true root =
          (λ j. not (root j) && may_be_idle (mark_of inode) && not (walk (vacuumed_layer top below) (parent_path path)).closed && look_eq (look below (natural_path (vacuumed_layer top below) path)) (look (over (vacuumed_layer top below) below) path))
          ∙ sym (λ j. not (root j) && may_be_idle (mark_of inode) && not (walk top (parent_path path)).closed && look_eq (look below (natural_path top path)) (look (over top below) path))
      by false root =
          let has : has_parent (vacuumed_layer top below) path ≡ true = lookup-all (λ entry. has_parent (vacuumed_layer top below) entry.0) path (vacuumed_layer top below) inode (IsLayer-vacuumed top below is).closed here in
          let parent : is_directory_at (vacuumed_layer top below) (parent_path path) ≡ true = ap (λ b. b || is_directory_at (vacuumed_layer top below) (parent_path path)) (sym root) ∙ has in
          let walked : walk (vacuumed_layer top below) (parent_path path) ≡ walk top (parent_path path) =
          same-walk (vacuumed_layer top below) top (parent_path path) (IsLayer-vacuumed top below is) is (directory-along top below is (parent_path path) parent) in
          (λ j. not (is_root path) && may_be_idle (mark_of inode) && not (walked j).closed && look_eq (look below ((walked j).next ++ drop (length (parent_path path)) path)) (tree-kept path j))

  throughout_same : (path : PathNames) → is_idle_throughout (vacuumed_layer top below) below path ≡ true → is_idle_throughout top below path ≡ true
  throughout_same path throughout = all-entries (λ entry. not (is_at_or_under path entry.0) || is_idle top below entry) top is.in_order (λ other inode here. by other inode here (is_idle_throughout top below other) refl)
    where
      by : (other : PathNames) (inode : Inode) → entry_at top other ≡ Some inode → (b : Bool) → is_idle_throughout top below other ≡ b → (not (is_at_or_under path other) || is_idle top below (other, inode)) ≡ true
      by other inode here true goes =
          ap (λ b. not (is_at_or_under path other) || b) (idle-at top below other inode goes here) ∙ or-true (not (is_at_or_under path other))
      by other inode here false stays =
          let left : entry_at (vacuumed_layer top below) other ≡ Some inode = entry-stays top below other stays ∙ here in
          ap (λ b. not (is_at_or_under path other) || b) (sym (idle_same other inode left))
          ∙ lookup-all (λ entry. not (is_at_or_under path entry.0) || is_idle (vacuumed_layer top below) below entry) other (vacuumed_layer top below) inode throughout left

  pub nothing-idle : vacuumed_layer (vacuumed_layer top below) below ≡ vacuumed_layer top below
  nothing-idle = filter-all (λ entry. not (is_idle_throughout (vacuumed_layer top below) below entry.0)) (vacuumed_layer top below)
      (all-entries (λ entry. not (is_idle_throughout (vacuumed_layer top below) below entry.0)) (vacuumed_layer top below) (IsLayer-vacuumed top below is).in_order (λ path inode here. by path inode here (is_idle_throughout (vacuumed_layer top below) below path) refl))
    where
      by : (path : PathNames) (inode : Inode) → entry_at (vacuumed_layer top below) path ≡ Some inode → (b : Bool) → is_idle_throughout (vacuumed_layer top below) below path ≡ b → not b ≡ true
      by path inode here false e = refl
      by path inode here true e = let bad : true ≡ false = sym (throughout_same path e) ∙ (entry-left top below path inode here).1 in cc

pub VacuumGivesLayer-holds : VacuumGivesLayer
VacuumGivesLayer-holds top below is = IsLayer-vacuumed top below is

pub VacuumKeepsTree-holds : VacuumKeepsTree
VacuumKeepsTree-holds top below is each path = tree-kept top below is each path

pub VacuumLeavesNothingIdle-holds : VacuumLeavesNothingIdle
VacuumLeavesNothingIdle-holds top below is each = nothing-idle top below is each
