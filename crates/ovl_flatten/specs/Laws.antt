-- Laws of flatten: what a sound stack shows, as one layer, is a layer; by itself it shows the same, and
-- has no marks.
use Rattle.std.specs.Prelude.{◌≡◌, ◌<◌, length}
use Rattle.std.specs.List.{All}
use Rattle.ovl_names.specs.Paths.{PathNames}
use Rattle.ovl_layer.specs.Layers.{Entries, IsLayer}
use Rattle.ovl_lookup.specs.Stacks.{StackView}
use Rattle.ovl_lookup.specs.Merged.{look}
use Rattle.ovl_lookup.specs.Sound.{IsSoundStack}
use Rattle.ovl_lookup.specs.Unmarked.{alone, HasNoMarks}
use Rattle.ovl_rewrite.specs.Limits.{IsLayerWithinLimits}
use Rattle.ovl_flatten.specs.Flatten.{flattened_at, IsFlattened}

abbrev pub FlattenKeepsTree : Type 0
FlattenKeepsTree = (stack : StackView) → All IsLayer stack.layers → IsSoundStack stack →
    (layer : Entries) → IsLayer layer → IsFlattened layer stack →
    (path : PathNames) → look (alone layer) path ≡ look stack path

abbrev pub FlattenHasNoMarks : Type 0
FlattenHasNoMarks = (stack : StackView) → All IsLayer stack.layers → IsSoundStack stack →
    (layer : Entries) → IsFlattened layer stack → HasNoMarks layer

abbrev pub FlattenIsSound : Type 0
FlattenIsSound = (stack : StackView) → All IsLayer stack.layers → IsSoundStack stack →
    (layer : Entries) → IsLayer layer → IsFlattened layer stack → IsSoundStack (alone layer)

-- the flattened layer of a sound stack is a layer, but for the limits
abbrev pub FlattenGivesLayer : Type 0
FlattenGivesLayer =
    (stack : StackView) → 0 < length stack.layers → All IsLayer stack.layers
    → All IsLayer stack.data_only →
    IsSoundStack stack → IsLayerWithinLimits (flattened_at stack)

-- it is the one layer without marks that shows by itself what the stack shows
abbrev pub FlattenIsTheOne : Type 0
FlattenIsTheOne = (stack : StackView) (layer : Entries) → IsLayer layer → HasNoMarks layer →
    ((path : PathNames) → look (alone layer) path ≡ look stack path) → IsFlattened layer stack
