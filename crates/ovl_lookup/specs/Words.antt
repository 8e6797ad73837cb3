-- Words of the laws of walks.
use Rattle.std.specs.Prelude.{◌≡◌, Bool, Option, Some, None, List, [], ◌∷◌, ◌++◌, if◌then◌else◌, slice_get, unwrap_or}
use Rattle.std.specs.List.{starts_with}
use Rattle.ovl_names.specs.Names.{name_eq}
use Rattle.ovl_names.specs.Paths.{PathNames}
use Rattle.ovl_layer.specs.Layers.{Entries, entry_at}
use Rattle.ovl_lookup.specs.declared.looks.Look.{Look}
use Rattle.ovl_lookup.specs.declared.looks.Look.TheVariants.{Nothing}
use Rattle.ovl_lookup.specs.Walk.{mark_at, walk}
use Rattle.ovl_lookup.specs.Stacks.{StackView, from_layer}
use Rattle.ovl_lookup.specs.Merged.{look}

-- a layer over the layers of a stack
abbrev pub over : Entries → StackView → StackView
over top below = record below { layers = top ∷ below.layers }

-- the topmost layer of a stack, and the stack of those below it
abbrev pub top_layer : StackView → Entries
top_layer stack = unwrap_or (slice_get stack.layers 0) []

abbrev pub lower_layers : StackView → StackView
lower_layers stack = from_layer 1 stack

-- the other path is this one, or lies under it
abbrev pub is_at_or_under : PathNames → PathNames → Bool
is_at_or_under path other = starts_with name_eq other path

-- two layers have the same mark, or the same entry, at each prefix of a path
abbrev pub SameMarks : Entries → Entries → PathNames → Type 0
SameMarks one other path =
    (front back : PathNames) → front ++ back ≡ path → mark_at one front ≡ mark_at other front

abbrev pub SameEntries : Entries → Entries → PathNames → Type 0
SameEntries one other path =
    (front back : PathNames) → front ++ back ≡ path → entry_at one front ≡ entry_at other front

-- the next path after these layers; none where a walk is closed
abbrev pub through : List Entries → PathNames → Option PathNames
through [] path = Some path
through (layer ∷ layers) path =
    let step = walk layer path in
    if step.closed then None else through layers step.next

-- what a stack shows where walks go on; a closed walk shows nothing
abbrev pub look_on : StackView → Option PathNames → Look
look_on stack None = Nothing
look_on stack (Some path) = look stack path
