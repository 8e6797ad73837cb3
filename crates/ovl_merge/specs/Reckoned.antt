-- The directories of a merge, as the program reckons them.
use Rattle.std.specs.Prelude.{◌≡◌, Bool, true, false, Option, Some, None, if◌then◌else◌, is_some, IsSomeAnd, MatchOption}
use Rattle.ovl_names.specs.Names.{PathName}
use Rattle.ovl_names.specs.Paths.{PathNames, child_path, path_eq}
use Rattle.ovl_layer.specs.Layers.{Entries}
use Rattle.ovl_lookup.specs.Stacks.{StackView}
use Rattle.ovl_lookup.specs.DirViews.{IsViewOf}
use Rattle.ovl_lookup.specs.Merged.{shows_directory}
use Rattle.ovl_lookup.specs.Walk.{walk}
use Rattle.ovl_merge.specs.declared.stands.Stand.{Stand}
use Rattle.ovl_merge.specs.declared.bases.Base.{Base}
use Rattle.ovl_merge.specs.declared.bases.Base.TheVariants.{Reached, Apart}
use Rattle.ovl_merge.specs.declared.directories.Directory.{Directory}
use Rattle.ovl_merge.specs.declared.directories.Stands.{Stands}
use Rattle.ovl_merge.specs.Places.{Merge, merge_of, shows_own_directory, shows_directory_at, reach, base, last_name}
use Rattle.ovl_merge.specs.Stands.{IsStand, StandsAt, step_next_lookup}

-- the name by which a path lies directly in a directory, if there is one
abbrev pub name_directly_in : Option PathNames → PathNames → Option PathName
name_directly_in None path = None
name_directly_in (Some directory) path =
    if path_eq path (child_path directory (last_name path)) then Some (last_name path) else None

-- where a shown directory goes on in the rest that knows it by this path
abbrev pub reach_from : StackView → Option PathNames → Option PathNames
reach_from rest None = None
reach_from rest (Some place) = if shows_directory rest place then Some place else None

-- ---- in the lower layer, by the upper one

-- where the walk of a path goes on from the upper one
abbrev pub upper_next_lookup : Merge → PathNames → Option PathNames
upper_next_lookup m path = step_next_lookup (walk m.upper path)

-- where the walk stands, where that of the upper layer goes on
abbrev pub IsBelow : Entries → Option PathNames → Option Stand → Type 0
IsBelow layer next_lookup below =
    MatchOption below (next_lookup ≡ None) (λ stand. IsSomeAnd next_lookup (λ path. IsStand layer path stand))

abbrev pub is_inside_at : Option Stand → Bool
is_inside_at None = false
is_inside_at (Some stand) = is_some stand.row

-- the path by which the rest knows the directory, where both walks go on
abbrev pub next_lookup_at : Option Stand → Option PathNames
next_lookup_at None = None
next_lookup_at (Some stand) = stand.next

-- ---- in the rest

-- the path of the directory of the rest in which one goes on, if it does
abbrev pub reached_in : Base → Option PathNames
reached_in (Reached view) = Some view.path
reached_in Apart = None

-- where the names in a directory lie in the rest
abbrev pub IsBase : StackView → PathNames → Base → Type 0
IsBase stack dir (Reached view) =
    (reach (merge_of stack) dir ≡ Some view.path) × IsViewOf stack 2 view.path view
IsBase stack dir Apart =
    (reach (merge_of stack) dir ≡ None)
    × (shows_directory_at (merge_of stack).rest (base (merge_of stack) dir) ≡ false)

-- ---- both

-- where the walks of a path stand, that of the lower layer where that of the upper one goes on
pub record AreStands (m : Merge) (path : PathNames) (stands : Stands) : Type 0 where
  pub next : Option PathNames
  pub upper : StandsAt m.upper path stands.upper next
  pub lower : IsBelow m.lower next stands.lower

-- a directory of the new lower layer, with what is kept of it for the names in it
pub record IsVisited (stack : StackView) (dir : PathNames) (directory : Directory) : Type 0 where
  pub path : directory.path ≡ dir
  pub shown : shows_own_directory (merge_of stack) dir ≡ true
  pub upper : StandsAt (merge_of stack).upper dir directory.upper
      (upper_next_lookup (merge_of stack) dir)
  pub lower : IsBelow (merge_of stack).lower (upper_next_lookup (merge_of stack) dir) directory.lower
  pub base : IsBase stack dir directory.base
