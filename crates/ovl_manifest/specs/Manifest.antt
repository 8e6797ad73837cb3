-- The layer that a manifest states, or its first fault.
use Rattle.std.specs.Prelude.{ℕ, Bool, ◌||◌, Option, Some, None, Result, Err, List, [], ◌∷◌, if◌then◌else◌, codes, is_some, option_and_then}
use Rattle.std.specs.Str.{is_utf8}
use Rattle.serde_json.specs.Data.{Num, Data, Items, no_items, item}
use Rattle.serde_json.specs.Find.{get, as_number, as_u64, as_i64, as_array}
use Rattle.serde_json.specs.Read.{read}
use Rattle.ovl_layer.specs.Layers.{Entry, Entries}
use Rattle.ovl_layer.specs.Entries.{layer_of_entries}
use Rattle.ovl_manifest.specs.Fields.{has_exactly, entry_of}
use Rattle.ovl_manifest.specs.Versions.{version_of}
use Rattle.ovl_manifest.specs.declared.versions.Version.{Version}
use Rattle.ovl_layer.specs.declared.faults.LayerFault.{LayerFault}
use Rattle.ovl_layer.specs.declared.faults.LayerFault.TheVariants.{NotJson, Shape, Version as WrongVersion}

-- the entries that values state, one after another
abbrev pub stated_entries : Version → Items → List (Option Entry)
stated_entries version no_items = []
stated_entries version (item value values) = entry_of version value ∷ stated_entries version values

-- a whole number, and the layer of the version that it names
abbrev pub is_whole : Num → Bool
is_whole n = is_some (as_u64 n) || is_some (as_i64 n)

abbrev pub layer_of_version : Num → Items → Result Entries LayerFault
layer_of_version n values = elim (option_and_then version_of (as_u64 n)) [
  | Some version ↦ layer_of_entries (stated_entries version values)
  | None ↦ Err WrongVersion
]

-- a manifest is an object of a whole number and a list
abbrev pub layer_of_fields : Option Num → Option Items → Result Entries LayerFault
layer_of_fields (Some version) (Some values) =
    if is_whole version then layer_of_version version values else Err Shape
layer_of_fields _ _ = Err Shape

abbrev pub layer_of_value : Data → Result Entries LayerFault
layer_of_value value =
    if has_exactly (codes "entries" ∷ codes "overlay-layer" ∷ []) value
    then layer_of_fields (option_and_then as_number (get (codes "overlay-layer") value))
    (option_and_then as_array (get (codes "entries") value))
    else Err Shape

-- the layer that bytes state
abbrev pub read_layer : List ℕ → Result Entries LayerFault
read_layer bytes =
    elim (if is_utf8 bytes then read bytes else None)
    [ None ↦ Err NotJson | Some value ↦ layer_of_value value ]
