-- How the walks of the names in a directory end in the two layers, as the program reckons it.
use Rattle.std.specs.Prelude.{◌≡◌, Option, Some, is_some, IfSome}
use Rattle.std.specs.Option.{option_map, option_and_then, option_or}
use Rattle.ovl_names.specs.Paths.{PathNames, child_path}
use Rattle.ovl_inode.specs.declared.inodes.Inode.{Inode}
use Rattle.ovl_inode.specs.Marks.{mark_of}
use Rattle.ovl_layer.specs.Layers.{Entries}
use Rattle.ovl_lookup.specs.declared.steps.Found.{Found}
use Rattle.ovl_lookup.specs.Stacks.{StackView}
use Rattle.ovl_lookup.specs.Walk.{walk}
use Rattle.ovl_merge.specs.declared.directories.Directory.{Directory}
use Rattle.ovl_merge.specs.declared.names_in_both.NameInBoth.{NameInBoth}
use Rattle.ovl_merge.specs.declared.names_in_both.LowerWalk.{LowerWalk}
use Rattle.ovl_merge.specs.declared.names_in_both.Place.{Place}
use Rattle.ovl_merge.specs.declared.names_in_both.Place.TheVariants.{Beside, At}
use Rattle.ovl_merge.specs.Places.{Merge, merge_of}
use Rattle.ovl_merge.specs.Reckoned.{IsVisited, next_lookup_at}
use Rattle.ovl_merge.specs.Stands.{name_on, step_next_lookup}

-- a place in the rest, by where that knows the directory above
abbrev pub place_from : Option PathNames → Place → Option PathNames
place_from above (Beside name) = name_on above name.now
place_from above (At path) = Some path

abbrev pub rest_from : Option PathNames → Option Place → Option PathNames
rest_from above place = option_and_then (place_from above) place

-- where there is a place it is one
abbrev pub IsPlaced : Option PathNames → Option Place → Type 0
IsPlaced above place = is_some place ≡ is_some (rest_from above place)

-- what is found, if something is
abbrev pub told_in : Option Found → Option Inode
told_in found = option_map (λ found. found.inode.now) found

abbrev pub IsFoundMarked : Option Found → Type 0
IsFoundMarked found = IfSome found (λ found. found.mark.now ≡ mark_of found.inode.now)

-- what a layer finds at a path, if there is one, and where a walk goes on there
abbrev pub found_by : Entries → Option PathNames → Option Inode
found_by layer path = option_and_then (λ path. (walk layer path).found) path

abbrev pub next_lookup_by : Entries → Option PathNames → Option PathNames
next_lookup_by layer path = option_and_then (λ path. step_next_lookup (walk layer path)) path

-- the walk of a path in the lower layer, if there is one, by where the rest knows the directory
-- above
pub record IsLowerWalk (layer : Entries) (path above : Option PathNames)
    (lower_walk : LowerWalk) : Type 0 where
  pub found : told_in lower_walk.found ≡ found_by layer path
  pub marked : IsFoundMarked lower_walk.found
  pub rest : rest_from above lower_walk.rest ≡ next_lookup_by layer path
  pub placed : IsPlaced above lower_walk.rest

-- the walks of a path: that in the upper layer, and where it goes on that in the lower one
pub record IsNameInBoth (m : Merge) (path : PathNames) (above : Option PathNames)
    (name_in_both : NameInBoth) : Type 0 where
  pub upper : told_in name_in_both.upper ≡ (walk m.upper path).found
  pub marked : IsFoundMarked name_in_both.upper
  pub lower : IsLowerWalk m.lower (step_next_lookup (walk m.upper path)) above name_in_both.lower

-- the first thing that they find
abbrev pub first_in : NameInBoth → Option Inode
first_in name_in_both = option_or (told_in name_in_both.upper) (told_in name_in_both.lower.found)

-- ... in a directory
pub record IsFirstFound (stack : StackView) (directory : Directory) (walks : NameInBoth)
    (thing : Found) : Type 0 where
  pub above : IsVisited stack directory.path directory
  pub name_in_both : IsNameInBoth (merge_of stack) (child_path directory.path walks.name.now)
      (next_lookup_at directory.lower) walks
  pub first : Some thing.inode.now ≡ first_in walks
  pub marked : thing.mark.now ≡ mark_of thing.inode.now
