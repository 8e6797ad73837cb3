-- The limits of a manifest, and new layers that pass them.
use Rattle.std.specs.Prelude.{◌≡◌, Bool, true, false, ◌&&◌, length, nat_le}
use Rattle.std.specs.List.{list_all}
use Rattle.ovl_names.specs.Order.{ascends}
use Rattle.ovl_layer.specs.Layers.{Entries, entry_cmp, entry_limit, is_within_limits, IsLayer}
use Rattle.ovl_rewrite.specs.NewLayers.{NewLayer, IsOf}

-- no more entries than a manifest may have, and no path with more names or a longer text
abbrev pub keeps_limits : Entries → Bool
keeps_limits entries =
    list_all (λ entry. is_within_limits entry.0) entries && nat_le (length entries) entry_limit

-- the entries of a new layer, in path order, don't keep them
abbrev pub PassesLimits : NewLayer → Type 0
PassesLimits new =
    (entries : Entries) × (ascends entry_cmp entries ≡ true) × IsOf new entries
    × (keeps_limits entries ≡ false)

-- they are a layer where they keep them
abbrev pub IsLayerWithinLimits : NewLayer → Type 0
IsLayerWithinLimits new =
    (entries : Entries) → ascends entry_cmp entries ≡ true → IsOf new entries
    → keeps_limits entries ≡ true → IsLayer entries
