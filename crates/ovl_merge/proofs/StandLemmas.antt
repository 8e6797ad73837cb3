-- Where the walk of a directory is in a layer, and how those of the names in it end.
use Rattle.std.proofs.Common.{◌≡◌, ℕ, ◌<◌, Bool, true, false, cond, Option, Some, None, [], length, refl, sym, ap, ◌∙◌, subst}
use Rattle.std.specs.Prelude.{◌||◌, is_some, is_none, slice_get, unwrap_or, IfSome, MatchOption}
use Rattle.std.specs.Option.{option_map}
use Rattle.std.specs.List.{list_any}
use Rattle.ovl_names.specs.Names.{PathName, name_eq}
use Rattle.ovl_names.specs.Paths.{PathNames, child_path}
use Rattle.ovl_inode.specs.declared.inodes.Inode.{Inode}
use Rattle.ovl_inode.specs.declared.marks.Mark.{Mark}
use Rattle.ovl_inode.specs.Marks.{mark_of, is_directory}
use Rattle.ovl_layer.specs.Layers.{Entries, IsLayer, entry_at, is_directory_at, names_below}
use Rattle.ovl_layer.specs.LayerTrees.{entries_under}
use Rattle.ovl_layer.specs.Sheets.{path_at}
use Rattle.ovl_layer.proofs.NodeLemmas.{entry_at-under}
use Rattle.ovl_lookup.specs.declared.steps.Found.{Found}
use Rattle.ovl_lookup.specs.declared.steps.Step.{Step}
use Rattle.ovl_lookup.specs.declared.next_lookup.NextLookup.{NextLookup}
use Rattle.ovl_lookup.specs.declared.next_lookup.NextLookup.TheVariants.{Beside, At, Nowhere}
use Rattle.ovl_lookup.specs.NextLookups.{IsNextLookup, path_on, name_on as marked_name, path_told, name_told}
use Rattle.ovl_lookup.specs.Stacks.{StackView}
use Rattle.ovl_lookup.specs.Walk.{walk, nothing_found}
use Rattle.ovl_lookup.specs.Passes.{IsArrivalAt}
use Rattle.ovl_lookup.proofs.LawsOfWalks.{directory_found, entry-of_row, hides-alike, names_below-has, nothing-below, walk-child, walk-child_end, walk-finds, walk-whole}
use Rattle.ovl_merge.specs.declared.stands.Stand.{Stand}
use Rattle.ovl_merge.specs.declared.stands.NameWalk.{NameWalk}
use Rattle.ovl_merge.specs.Places.{merge_of, passes}
use Rattle.ovl_merge.specs.Stands.{StandsAt, IsStand, IsOver, IsRowAt, IsThing, IsNameWalk, next_lookup_on, step_next_lookup, name_on, next_lookup_to}
use Rattle.ovl_merge.specs.Reckoned.{IsBelow}
use Rattle.ovl_merge.proofs.VisitLemmas.{lower-layer}

-- the sheets of the two layers
pub upper-sheet : (stack : StackView) (layer : Entries) → slice_get stack.layers 0 ≡ Some layer → (merge_of stack).upper ≡ layer
upper-sheet stack layer at = ap (λ (o : Option Entries). unwrap_or o []) at

pub lower-sheet : (stack : StackView) → 1 < length stack.layers → (layer : Entries) → slice_get stack.layers 1 ≡ Some layer → (merge_of stack).lower ≡ layer
lower-sheet stack several layer at =
    lower-layer stack several (λ own. own ≡ layer) (subst (λ (o : Option Entries). IfSome o (λ own. own ≡ layer)) (sym at) refl)

-- ---- a stand

pub over-row : (layer : Entries) (path : PathNames) (row : Option ℕ) (next : Option PathNames) → StandsAt layer path row next → IfSome row (λ r. r < length layer)
over-row layer path None next is = tt
over-row layer path (Some row) next is = is.arrival.inside

pub below-over : (layer : Entries) (next_lookup : Option PathNames) (stand : Stand) → IsBelow layer next_lookup (Some stand) → IsOver layer stand
below-over layer None stand below = absurd below
below-over layer (Some path) stand below = over-row layer path stand.row stand.next below

-- where that of the lower layer stands, if it goes on there
pub below-place : (layer : Entries) (next_lookup : Option PathNames) (stand : Stand) → IsBelow layer next_lookup (Some stand) → (place : PathNames) × (next_lookup ≡ Some place) × IsStand layer place stand
below-place layer None stand below = absurd below
below-place layer (Some place) stand below = (place, refl, below)

passes-same : (found : Option Inode) → directory_found found ≡ passes is_directory found
passes-same None = refl
passes-same (Some inode) = refl

pub inside-found : (layer : Entries) (path : PathNames) → is_directory_at layer path ≡ true → passes is_directory (walk layer path).found ≡ true
inside-found layer path is = ap (λ (s : Step). passes is_directory s.found) (walk-whole layer path is) ∙ (sym (passes-same (entry_at layer path)) ∙ is)

-- what isn't a directory there is none for its walk
pub past-found : (layer : Entries) (path : PathNames) (next : Option PathNames) → StandsAt layer path None next → passes is_directory (walk layer path).found ≡ false
past-found layer path next is = by (walk layer path).found refl
  where
    by : (found : Option Inode) → (walk layer path).found ≡ found → passes is_directory (walk layer path).found ≡ false
    by None e = ap (passes is_directory) e
    by (Some inode) e = ap (passes is_directory) e ∙ (sym (ap directory_found (walk-finds layer path inode is.layered e).0) ∙ is.arrival.none)

pub stand-found : (layer : Entries) (path : PathNames) (row : Option ℕ) (next : Option PathNames) → StandsAt layer path row next → passes is_directory (walk layer path).found ≡ is_some row
stand-found layer path (Some row) next is = inside-found layer path is.arrival.directory
stand-found layer path None next is = past-found layer path next is

-- where its walk goes on, and past what is no directory: a thing hides all under it
pub own-next_lookup : (layer : Entries) (path : PathNames) (row : ℕ) (next : Option PathNames) → StandsAt layer path (Some row) next → next ≡ step_next_lookup (walk layer path)
own-next_lookup layer path row next is = is.told ∙ (λ j. next_lookup_on (is.arrival.next j) (is.arrival.closed j))

abbrev pub past_next_lookup : Option Inode → PathNames → Bool → Option PathNames
past_next_lookup found next closed = cond (is_some found) None (next_lookup_on next closed)

pub past-next_lookup : (layer : Entries) (path : PathNames) (next : Option PathNames) → StandsAt layer path None next → next ≡ past_next_lookup (walk layer path).found (walk layer path).next (walk layer path).closed
past-next_lookup layer path next is = is.told ∙ by (walk layer path).found (walk layer path).closed is.closed (is.arrival.ended ∙ hides-alike layer path is.layered) is.arrival.next
  where
    by : (found : Option Inode) (closed hidden : Bool) → hidden ≡ (is_some found || closed) → (hidden ≡ false → is.next_lookup ≡ (walk layer path).next) → next_lookup_on is.next_lookup hidden ≡ past_next_lookup found (walk layer path).next closed
    by None true hidden e goes = ap (next_lookup_on is.next_lookup) e
    by None false hidden e goes = λ j. next_lookup_on (goes e j) (e j)
    by (Some inode) closed hidden e goes = ap (next_lookup_on is.next_lookup) e

-- where a walk goes on at a thing of this mark and name
abbrev next_lookup_among : Option PathNames → Option PathName → Option PathNames → Option PathNames
next_lookup_among (Some path) own next = Some path
next_lookup_among None (Some own) next = name_on next own
next_lookup_among None None next = None

abbrev next_lookup_by : Mark → Option PathNames → PathName → Option PathNames
next_lookup_by mark next name = next_lookup_among (path_on mark) (marked_name mark name) next

next_lookup-told : (mark : Mark) (name : PathName) (next_lookup : NextLookup) → IsNextLookup mark name next_lookup → (next : Option PathNames) → next_lookup_to next next_lookup ≡ next_lookup_by mark next name
next_lookup-told mark name next_lookup is next = by next_lookup ∙ (λ j. next_lookup_among (is.at j) (is.by j) next)
  where
    by : (o : NextLookup) → next_lookup_to next o ≡ next_lookup_among (path_told o) (name_told o) next
    by (Beside own) = refl
    by (At path) = refl
    by Nowhere = refl

-- by the path and the flag there
next_lookup-on : (path : Option PathNames) (own : Option PathName) (next : PathNames) (name : PathName) (closed : Bool)
    → next_lookup_among path own (next_lookup_on next closed) ≡ next_lookup_on (unwrap_or path (child_path next (unwrap_or own name))) (cond (is_some path) false (cond (is_none own) true closed))
next_lookup-on (Some path) own next name closed = refl
next_lookup-on None (Some own) next name true = refl
next_lookup-on None (Some own) next name false = refl
next_lookup-on None None next name closed = refl

-- ---- the end of a name's walk

-- in what is no directory there is no row
no-row : (layer : Entries) (path : PathNames) (name : PathName) (next : Option PathNames) → StandsAt layer path None next → (row : ℕ) → row < length layer → path_at layer row ≡ child_path path name → ⊥
no-row layer path name next is row inside there =
    let entry = entry-of_row layer row is.layered inside in
    let bad : None ≡ Some entry.0 = sym (nothing-below layer path name [] is.layered is.arrival.none) ∙ (ap (entry_at layer) (sym there) ∙ entry.1) in cc

-- at a name that the layer doesn't have
module _ (layer : Entries) (path : PathNames) (name : PathName) (next : Option PathNames) (name_walk : NameWalk) (found : name_walk.found ≡ None) (next_lookup : (n : Option PathNames) → next_lookup_to n name_walk.next_lookup ≡ name_on n name) where
  name-next_lookup : (n : PathNames) (closed : Bool) → name_on (next_lookup_on n closed) name ≡ next_lookup_on (child_path n name) closed
  name-next_lookup n true = refl
  name-next_lookup n false = refl

  passed : (n : PathNames) (closed : Bool) → next ≡ next_lookup_on n closed → walk layer (child_path path name) ≡ nothing_found (child_path n name) closed → IsNameWalk layer (child_path path name) next name_walk
  passed n closed told step = record {
    found = ap (option_map (λ (f : Found). f.inode.now)) found ∙ sym (ap (λ (s : Step). s.found) step);
    marked = subst (λ (o : Option Found). IfSome o (λ f. f.mark.now ≡ mark_of f.inode.now)) (sym found) tt;
    next_lookup = next_lookup next ∙ (ap (λ (o : Option PathNames). name_on o name) told ∙ (name-next_lookup n closed ∙ sym (ap step_next_lookup step)));
  }

  pub pass-none : (directory : Option ℕ) → StandsAt layer path directory next → entry_at layer (child_path path name) ≡ None → IsNameWalk layer (child_path path name) next name_walk
  pass-none None is nothing = passed is.next_lookup is.closed is.told (is.arrival.below name [])
  pass-none (Some directory) is nothing =
      passed (walk layer path).next (walk layer path).closed (own-next_lookup layer path directory next is) (walk-child_end layer path name is.layered None is.arrival.directory nothing refl [])

-- at a thing in its row
pass-thing : (layer : Entries) (path : PathNames) (name : PathName) (directory : ℕ) (next : Option PathNames) → StandsAt layer path (Some directory) next
    → (row : ℕ) → row < length layer → path_at layer row ≡ child_path path name → (name_walk : NameWalk) → IsThing layer row name name_walk → IsNameWalk layer (child_path path name) next name_walk
pass-thing layer path name directory next is row inside place name_walk thing =
    let inode : Inode = thing.inode in
    let step = walk-child layer path name is.layered inode (ap (entry_at layer) (sym place) ∙ thing.here) in
    record {
      found = thing.found ∙ ap (λ (s : Step). s.found) (sym step);
      marked = thing.marked;
      next_lookup =
          next_lookup-told (mark_of inode) name name_walk.next_lookup thing.next_lookup next
          ∙ (ap (λ (o : Option PathNames). next_lookup_by (mark_of inode) o name) (own-next_lookup layer path directory next is)
          ∙ (next_lookup-on (path_on (mark_of inode)) (marked_name (mark_of inode) name) (walk layer path).next name (walk layer path).closed
          ∙ ap step_next_lookup (sym step)));
    }

pub pass-row : (layer : Entries) (path : PathNames) (name : PathName) (directory : Option ℕ) (next : Option PathNames) → StandsAt layer path directory next
    → (row : ℕ) → row < length layer → path_at layer row ≡ child_path path name → (name_walk : NameWalk) → IsThing layer row name name_walk → IsNameWalk layer (child_path path name) next name_walk
pass-row layer path name None next is row inside there name_walk thing = absurd (no-row layer path name next is row inside there)
pass-row layer path name (Some directory) next is row inside there name_walk thing = pass-thing layer path name directory next is row inside there name_walk thing

-- ---- the rows in a directory

-- the row of an entry is one of the layer
pub row-inside : (layer : Entries) (path : PathNames) (row : Option ℕ) → IsRowAt layer path row → IfSome row (λ number. number < length layer)
row-inside layer path None is = tt
row-inside layer path (Some number) is = is.0

-- what the layer doesn't have among the names there has none
pub unnamed : (layer : Entries) (path : PathNames) (name : PathName) → list_any (name_eq name) (names_below layer path) ≡ false → entry_at layer (child_path path name) ≡ None
unnamed layer path name other = by (entry_at layer (child_path path name)) refl
  where
    by : (found : Option Inode) → entry_at layer (child_path path name) ≡ found → entry_at layer (child_path path name) ≡ None
    by None e = e
    by (Some inode) e = let bad : false ≡ true = sym other ∙ names_below-has layer path name inode e in cc

-- the row that is sought in a directory
pub sought-inside : (layer : Entries) (path : PathNames) (row : Option ℕ) → MatchOption row (entries_under path layer ≡ []) (λ child. (child < length layer) × (path_at layer child ≡ path)) → IfSome row (λ number. number < length layer)
sought-inside layer path None nothing = tt
sought-inside layer path (Some child) there = there.0

pub sought-row : (layer : Entries) (path : PathNames) (directory : ℕ) (next : Option PathNames) → StandsAt layer path (Some directory) next → (name : PathName) (row : Option ℕ)
    → MatchOption row (entries_under (child_path (path_at layer directory) name) layer ≡ []) (λ child. (child < length layer) × (path_at layer child ≡ child_path (path_at layer directory) name))
    → IsRowAt layer (child_path path name) row
sought-row layer path directory next is name None nothing =
    entry_at-under (child_path path name) layer
    ∙ ap (λ (entries : Entries). entry_at entries []) (ap (λ (p : PathNames). entries_under (child_path p name) layer) (sym is.arrival.here) ∙ nothing)
sought-row layer path directory next is name (Some child) there = (there.0, there.1 ∙ ap (λ (p : PathNames). child_path p name) is.arrival.here)

-- where a walk arrives, it stands
pub arrival-stands : (layer : Entries) → IsLayer layer → (path : PathNames) (row : Option ℕ) (next : PathNames) (closed : Bool) → IsArrivalAt layer path row next closed → StandsAt layer path row (next_lookup_on next closed)
arrival-stands layer is path row next closed at = record { layered = is; next_lookup = next; closed = closed; arrival = at; told = refl }
