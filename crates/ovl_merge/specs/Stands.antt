-- Where the walks of a directory and of the names in it stand and end in a layer, as the program
-- reckons it.
use Rattle.std.specs.Prelude.{◌≡◌, ℕ, ◌<◌, Bool, Option, Some, None, if◌then◌else◌, length, IfSome, MatchOption}
use Rattle.std.specs.Option.{option_map}
use Rattle.ovl_names.specs.Names.{PathName}
use Rattle.ovl_names.specs.Paths.{PathNames, child_path}
use Rattle.ovl_inode.specs.declared.inodes.Inode.{Inode}
use Rattle.ovl_inode.specs.Marks.{mark_of, is_whiteout}
use Rattle.ovl_layer.specs.Layers.{Entries, IsLayer, entry_at}
use Rattle.ovl_layer.specs.Sheets.{path_at}
use Rattle.ovl_lookup.specs.declared.next_lookup.NextLookup.{NextLookup}
use Rattle.ovl_lookup.specs.declared.next_lookup.NextLookup.TheVariants.{Beside, At, Nowhere}
use Rattle.ovl_lookup.specs.declared.steps.Step.{Step}
use Rattle.ovl_lookup.specs.NextLookups.{IsNextLookup}
use Rattle.ovl_lookup.specs.Passes.{IsArrivalAt}
use Rattle.ovl_lookup.specs.Walk.{walk}
use Rattle.ovl_merge.specs.declared.stands.Stand.{Stand}
use Rattle.ovl_merge.specs.declared.stands.NameWalk.{NameWalk}

-- ---- where a walk goes on

-- at this path, unless it is closed
abbrev pub next_lookup_on : PathNames → Bool → Option PathNames
next_lookup_on next closed = if closed then None else Some next

abbrev pub step_next_lookup : Step → Option PathNames
step_next_lookup step = next_lookup_on step.next step.closed

-- a name in a directory that is known by a path, if it is
abbrev pub name_on : Option PathNames → PathName → Option PathNames
name_on next name = option_map (λ path. child_path path name) next

-- by where the layer below knows the directory above
abbrev pub next_lookup_to : Option PathNames → NextLookup → Option PathNames
next_lookup_to next (Beside name) = name_on next name.now
next_lookup_to next (At path) = Some path.now
next_lookup_to next Nowhere = None

-- ---- where the walk of a directory's path stands

-- where it arrives in the layer, and the path that goes on there, unless it is hidden in the layers
-- below
pub record StandsAt (layer : Entries) (path : PathNames) (row : Option ℕ)
    (next : Option PathNames) : Type 0 where
  pub layered : IsLayer layer
  pub next_lookup : PathNames
  pub closed : Bool
  pub arrival : IsArrivalAt layer path row next_lookup closed
  pub told : next ≡ next_lookup_on next_lookup closed

abbrev pub IsStand : Entries → PathNames → Stand → Type 0
IsStand layer path stand = StandsAt layer path stand.row stand.next

-- its row is one of the layer
abbrev pub IsOver : Entries → Stand → Type 0
IsOver layer stand = IfSome stand.row (λ row. row < length layer)

-- ---- how the walk of a name in it ends

-- the number of the row of an entry, if there is one
abbrev pub IsRowAt : Entries → PathNames → Option ℕ → Type 0
IsRowAt layer path row =
    MatchOption row (entry_at layer path ≡ None)
    (λ number. (number < length layer) × (path_at layer number ≡ path))

-- what a layer has in a row, and where a walk goes on there by this name
pub record IsThing (layer : Entries) (row : ℕ) (name : PathName) (name_walk : NameWalk) : Type 0 where
  pub inode : Inode
  pub here : entry_at layer (path_at layer row) ≡ Some inode
  pub found : option_map (λ found. found.inode.now) name_walk.found
      ≡ (if is_whiteout inode then None else Some inode)
  pub marked : IfSome name_walk.found (λ found. found.mark.now ≡ mark_of found.inode.now)
  pub next_lookup : IsNextLookup (mark_of inode) name name_walk.next_lookup

-- the walk of a path, by where the layer below knows the directory above
pub record IsNameWalk (layer : Entries) (path : PathNames) (next : Option PathNames)
    (name_walk : NameWalk) : Type 0 where
  pub found : option_map (λ found. found.inode.now) name_walk.found ≡ (walk layer path).found
  pub marked : IfSome name_walk.found (λ found. found.mark.now ≡ mark_of found.inode.now)
  pub next_lookup : next_lookup_to next name_walk.next_lookup ≡ step_next_lookup (walk layer path)
