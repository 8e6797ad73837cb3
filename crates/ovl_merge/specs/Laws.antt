-- Laws of a merge: over a sound stack the merged tree stays, and where the walks of the new lower
-- layer go on.
use Rattle.std.specs.Prelude.{◌≡◌, true, false, Some, None, [], ◌∷◌}
use Rattle.std.specs.List.{All}
use Rattle.ovl_names.specs.Paths.{PathNames}
use Rattle.ovl_layer.specs.Layers.{Entries, IsLayer}
use Rattle.ovl_lookup.specs.Stacks.{StackView}
use Rattle.ovl_lookup.specs.Sound.{IsSoundStack}
use Rattle.ovl_lookup.specs.Merged.{look}
use Rattle.ovl_lookup.specs.Words.{over, through, look_on}
use Rattle.ovl_rewrite.specs.Limits.{IsLayerWithinLimits}
use Rattle.ovl_merge.specs.Places.{Merge, whole, two_layers, shows_own_directory, shows_directory_at, reach}
use Rattle.ovl_merge.specs.MergeDown.{IsMergedDown, merged_entry, merged_top}

-- the stack with the new layers in place of the upper and the lower one
abbrev pub after_merge : Merge → Entries → StackView
after_merge m lower = over (merged_top m) (over lower m.rest)

abbrev pub MergeKeepsTree : Type 0
MergeKeepsTree =
    (m : Merge) (lower : Entries) → All IsLayer (whole m).layers → IsSoundStack (whole m) →
    IsLayer lower → IsMergedDown m lower → (path : PathNames)
    → look (after_merge m lower) path ≡ look (whole m) path

-- the new lower layer keeps the tree without the new upper one above it, too
abbrev pub MergedLayerKeepsTree : Type 0
MergedLayerKeepsTree =
    (m : Merge) (lower : Entries) → All IsLayer (whole m).layers → IsSoundStack (whole m) →
    IsLayer lower → IsMergedDown m lower → (path : PathNames)
    → look (over lower m.rest) path ≡ look (whole m) path

-- a shown directory or metacopy file with a reach goes on there in the new lower layer; for a shown
-- directory without a reach, the rest shows no directory along the new walk; for every other path,
-- what the rest shows along the new walk is what it shows along the two old ones
pub record IsMergeCore (m : Merge) (lower : Entries) (path : PathNames) : Type 0 where
  pub reached : (place : PathNames) → reach m path ≡ Some place
      → through (lower ∷ []) path ≡ Some place
  pub unreached : shows_own_directory m path ≡ true → reach m path ≡ None
      → shows_directory_at m.rest (through (lower ∷ []) path) ≡ false
  pub other : shows_own_directory m path ≡ false → reach m path ≡ None →
      look_on m.rest (through (lower ∷ []) path)
      ≡ look_on m.rest (through (two_layers m).layers path)

abbrev pub MergeHasCore : Type 0
MergeHasCore =
    (m : Merge) (lower : Entries) → All IsLayer (whole m).layers → IsSoundStack (whole m) →
    IsLayer lower → IsMergedDown m lower → (path : PathNames) → IsMergeCore m lower path

-- the new lower layer of a sound stack is a layer, but for the limits
abbrev pub MergeGivesLayer : Type 0
MergeGivesLayer =
    (m : Merge) → All IsLayer (whole m).layers → All IsLayer m.rest.data_only
    → IsSoundStack (whole m) → IsLayerWithinLimits (merged_entry m)
