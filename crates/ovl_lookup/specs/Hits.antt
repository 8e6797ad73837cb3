-- The things found at a path as the program finds them, one after another.
use Rattle.std.specs.Prelude.{◌≡◌, ℕ, Bool, Option, Some, None, List, [], ◌∷◌, if◌then◌else◌, drop, ⊤}
use Rattle.std.specs.List.{All}
use Rattle.ovl_names.specs.Paths.{PathNames}
use Rattle.ovl_inode.specs.declared.inodes.Inode.{Inode}
use Rattle.ovl_inode.specs.Marks.{mark_of, is_metacopy}
use Rattle.ovl_lookup.specs.declared.hits.Hit.{Hit}
use Rattle.ovl_lookup.specs.declared.hits.Search.{Search}
use Rattle.ovl_lookup.specs.declared.hits.Search.TheVariants.{Walks, Origin, Rows, Nowhere}
use Rattle.ovl_lookup.specs.Stacks.{StackView}
use Rattle.ovl_lookup.specs.Trace.{things_found}
use Rattle.ovl_lookup.specs.Merged.{place_of_data}
use Rattle.ovl_lookup.specs.Views.{found_below}
use Rattle.ovl_lookup.specs.DirViews.{IsPlaceOver, places_in}

-- what the layers from `i` on find, where the walk above them gave this path and flag
abbrev pub found_on : StackView → ℕ → PathNames → Bool → List Inode
found_on stack i next closed = if closed then [] else things_found (drop i stack.layers) next

-- what is found where things are sought
abbrev pub found_by : StackView → Search → List Inode
found_by stack (Walks from path) = things_found (drop from stack.layers) path
found_by stack (Origin from path) = things_found (drop from stack.layers) path.now
found_by stack (Rows places name) =
    found_below stack.layers name.now (places_in stack places.now)
found_by stack Nowhere = []

-- all things found, by the first
abbrev pub found_of : StackView → Option Hit → List Inode
found_of stack None = []
found_of stack (Some hit) = hit.found.inode.now ∷ found_by stack hit.below

-- things are sought in places of the stack
abbrev pub IsSearchOver : StackView → Search → Type 0
IsSearchOver stack (Rows places name) = All (IsPlaceOver stack) places.now
IsSearchOver stack _ = ⊤

-- the first thing found has its mark, and those below it are sought in the stack
abbrev pub IsHitOver : StackView → Option Hit → Type 0
IsHitOver stack None = ⊤
IsHitOver stack (Some hit) =
    (hit.found.mark.now ≡ mark_of hit.found.inode.now) × IsSearchOver stack hit.below

-- the first of the things found that is no metacopy file, and where data-only layers have the data
-- by the last one above it; before the first, that is `place`
abbrev pub past_metacopies : Option PathNames → List Inode → Option Inode × Option PathNames
past_metacopies place [] = (None, place)
past_metacopies place (inode ∷ below) =
    if is_metacopy inode then past_metacopies (place_of_data (mark_of inode)) below
    else (Some inode, place)
