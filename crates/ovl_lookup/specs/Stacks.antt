-- Stacks of layers.
use Rattle.std.specs.Prelude.{ℕ, ◌-◌, List, ◌++◌, length, take, drop}
use Rattle.ovl_layer.specs.Layers.{Entries}

-- a stack: its layers, the topmost first, and the data-only layers under them; overlayfs.rst,
-- "Multiple lower layers" and "Data-only lower layers"
pub record StackView : Type 0 where
  pub layers : List Entries
  pub data_only : List Entries

-- the stack of these layers, of which the last `bottom` are data-only
abbrev pub stack_with : List Entries → ℕ → StackView
stack_with layers bottom = record {
  layers = take (length layers - bottom) layers;
  data_only = drop (length layers - bottom) layers;
}

-- all layers of a stack, the data-only ones last
abbrev pub all_layers : StackView → List Entries
all_layers stack = stack.layers ++ stack.data_only

-- the stack without its first `i` layers; the data-only ones stay
abbrev pub from_layer : ℕ → StackView → StackView
from_layer i stack = record stack { layers = drop i stack.layers }

-- the most layers of a stack
abbrev pub layer_limit : ℕ
layer_limit = 128
