-- Views of directories over a stack, as the program keeps them.
use Rattle.std.specs.Prelude.{◌≡◌, ℕ, ◌<◌, ◌≤◌, ◌++◌, Bool, true, false, Option, Some, None, List, [], drop, length, map, slice_get, IsSomeAnd, MatchOption}
use Rattle.std.specs.List.{All}
use Rattle.ovl_names.specs.Names.{PathName}
use Rattle.ovl_names.specs.Paths.{PathNames, child_path}
use Rattle.ovl_inode.specs.Marks.{mark_of}
use Rattle.ovl_layer.specs.Sheets.{path_at}
use Rattle.ovl_lookup.specs.declared.views.DirPlace.{DirPlace}
use Rattle.ovl_lookup.specs.declared.views.PlaceEntry.{PlaceEntry}
use Rattle.ovl_lookup.specs.declared.views.DirView.{DirView}
use Rattle.ovl_lookup.specs.Stacks.{StackView, from_layer}
use Rattle.ovl_lookup.specs.Walk.{turn, is_shut}
use Rattle.ovl_lookup.specs.Merged.{shows_directory}
use Rattle.ovl_lookup.specs.Views.{ReachedDirectory, reached, entry_in}

-- a place in a stack: its row is one of its layer
abbrev pub IsPlaceOver : StackView → DirPlace → Type 0
IsPlaceOver stack place =
    IsSomeAnd (slice_get stack.layers place.layer) (λ layer. place.row < length layer)

-- the path of a row of a layer of the stack
abbrev pub path_in : StackView → ℕ → ℕ → PathNames
path_in stack layer row =
    elim (slice_get stack.layers layer) [ Some entries ↦ path_at entries row | None ↦ [] ]

-- the path by which the layers below know the directory of such a row, and whether they are hidden
-- there
abbrev pub next_in : StackView → ℕ → ℕ → PathNames
next_in stack layer row =
    elim (slice_get stack.layers layer)
    [ Some entries ↦ turn entries (path_at entries row) | None ↦ [] ]

abbrev pub closed_in : StackView → ℕ → ℕ → Bool
closed_in stack layer row =
    elim (slice_get stack.layers layer)
    [ Some entries ↦ is_shut entries (path_at entries row) | None ↦ false ]

-- the place as the laws of views have it
abbrev pub place_in : StackView → DirPlace → ReachedDirectory
place_in stack place = record {
  layer = place.layer;
  path = path_in stack place.layer place.row;
  next = next_in stack place.layer place.row;
  closed = closed_in stack place.layer place.row;
}

abbrev pub places_in : StackView → List DirPlace → List ReachedDirectory
places_in stack places = map (place_in stack) places

-- a view was made over the stack
pub record IsViewOver (stack : StackView) (view : DirView) : Type 0 where
  pub within : view.from ≤ length stack.layers
  pub over : All (IsPlaceOver stack) view.places.items
  pub reached : places_in stack view.places.items
      ≡ reached (drop view.from stack.layers) view.from view.path

-- the view of a path of the merged tree, at which a directory is shown
pub record IsViewOf (stack : StackView) (from : ℕ) (path : PathNames)
    (view : DirView) : Type 0 where
  pub over : IsViewOver stack view
  pub starts : view.from ≡ from
  pub stands : view.path ≡ path
  pub shown : shows_directory (from_layer from stack) path ≡ true

-- more places were added
pub record AddsPlaces (stack : StackView) (old new : List DirPlace)
    (more : List ReachedDirectory) : Type 0 where
  pub places : places_in stack new ≡ places_in stack old ++ more
  pub over : All (IsPlaceOver stack) old → All (IsPlaceOver stack) new

-- what is at a name in a place: the number of its row, its inode and its mark
pub record IsEntryIn (stack : StackView) (name : PathName) (place : DirPlace)
    (entry : PlaceEntry) : Type 0 where
  pub inode : entry_in stack.layers name (place_in stack place) ≡ Some entry.inode.now
  pub mark : entry.mark.now ≡ mark_of entry.inode.now
  pub row : IsSomeAnd (slice_get stack.layers place.layer)
      (λ layer. (entry.row < length layer)
      × (path_at layer entry.row ≡ child_path (path_at layer place.row) name))

-- the place of the directory that an entry of a place is
abbrev pub place_below : DirPlace → PlaceEntry → DirPlace
place_below place entry = record { layer = place.layer; row = entry.row }

-- the view of a directory of the layers from one on, and none where they show no directory there
abbrev pub IsSought : StackView → ℕ → PathNames → Option DirView → Type 0
IsSought stack from path found =
    MatchOption found (shows_directory (from_layer from stack) path ≡ false)
    (λ view. IsViewOf stack from path view)
