-- Laws of the merged tree.
use Rattle.std.specs.Prelude.{◌≡◌, ℕ, ◌*◌, ◌≤◌, true, List, length, drop}
use Rattle.std.specs.List.{All}
use Rattle.ovl_names.specs.Names.{PathName}
use Rattle.ovl_names.specs.Paths.{PathNames, child_path, depth_limit}
use Rattle.ovl_layer.specs.Layers.{IsLayer}
use Rattle.ovl_lookup.specs.Stacks.{StackView, from_layer}
use Rattle.ovl_lookup.specs.Trace.{things_found}
use Rattle.ovl_lookup.specs.Merged.{shows, shows_directory}
use Rattle.ovl_lookup.specs.Views.{IsPlace, EndsWhereClosed, reached, is_reached, reached_below, found_below}
use Rattle.ovl_lookup.specs.ViewPasses.{First, AreTops, AreLooks, looks_from_tops}

-- where something is shown in a directory, the directory is shown
abbrev pub ShowsParents : Type 0
ShowsParents =
    (stack : StackView) → All IsLayer stack.layers → (path : PathNames) (name : PathName) →
    shows stack (child_path path name) ≡ true → shows_directory stack path ≡ true

-- what is shown has at most as many names as the layers may have together
abbrev pub ShowsWithinDepth : Type 0
ShowsWithinDepth = (stack : StackView) → All IsLayer stack.layers → (path : PathNames) →
    shows stack path ≡ true → length path ≤ depth_limit * length stack.layers

-- a directory is shown exactly if its view isn't empty
abbrev pub ViewsShow : Type 0
ViewsShow = (stack : StackView) → All IsLayer stack.layers → (from : ℕ) (path : PathNames) →
    shows_directory (from_layer from stack) path
    ≡ is_reached (reached (drop from stack.layers) from path)

-- where a view's places are, and how they go on
abbrev pub ViewsStand : Type 0
ViewsStand = (stack : StackView) → All IsLayer stack.layers → (from : ℕ) (path : PathNames) →
    All (IsPlace stack.layers from) (reached (drop from stack.layers) from path)
    × EndsWhereClosed (reached (drop from stack.layers) from path)

-- the view of a directory of the layers from one on, with one more name
abbrev pub ViewsGoOn : Type 0
ViewsGoOn =
    (stack : StackView) → All IsLayer stack.layers
    → (from : ℕ) (path : PathNames) (name : PathName) →
    reached (drop from stack.layers) from (child_path path name)
    ≡ reached_below stack.layers name (reached (drop from stack.layers) from path)

-- what is found with one more name, by the view of the directory; nothing where that is empty
abbrev pub ViewsFind : Type 0
ViewsFind =
    (stack : StackView) → All IsLayer stack.layers
    → (from : ℕ) (path : PathNames) (name : PathName) →
    things_found (drop from stack.layers) (child_path path name)
    ≡ found_below stack.layers name (reached (drop from stack.layers) from path)

-- the looks of all names in a directory, each from the first place of the view that has the name
abbrev pub ViewsLook : Type 0
ViewsLook = (stack : StackView) → All IsLayer stack.layers → (from : ℕ) (path : PathNames) →
    let places = reached (drop from stack.layers) from path in
    ((tops : List (PathName × First)) × AreTops stack.layers 0 places tops)
    × ((tops : List (PathName × First)) → AreTops stack.layers 0 places tops
    → AreLooks (from_layer from stack) path (looks_from_tops stack places tops))
