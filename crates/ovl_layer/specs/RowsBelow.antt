-- Rows by their numbers and names, and those directly below a path.
use Rattle.std.specs.Prelude.{◌≡◌, ◌<◌, ℕ, List, [], length, map, unwrap_or, IsSome}
use Rattle.std.specs.List.{AllByRecursion}
use Rattle.ovl_names.specs.Names.{PathName}
use Rattle.ovl_names.specs.Paths.{PathNames, child_path}
use Rattle.ovl_layer.specs.Layers.{Entries, names_below}
use Rattle.ovl_layer.specs.Sheets.{last_name, path_at}

-- the number of a row, and its name
abbrev pub NamedRow : Type 0
NamedRow = ℕ × PathName

-- a row of this number is in the layer, and isn't the root's, which has no name
abbrev pub IsNamedRow : Entries → ℕ → Type 0
IsNamedRow layer number = (number < length layer) × IsSome (last_name (path_at layer number))

abbrev pub named_row : Entries → ℕ → NamedRow
named_row layer number = (number, unwrap_or (last_name (path_at layer number)) [])

-- a row of this number is in the layer, and lies directly below the path, by this name
abbrev pub LiesBelow : Entries → PathNames → NamedRow → Type 0
LiesBelow layer directory row =
    (row.0 < length layer) × (path_at layer row.0 ≡ child_path directory row.1)

-- these are the rows directly below a path, in the order of their names
pub record AreRowsBelow (layer : Entries) (directory : PathNames)
    (rows : List NamedRow) : Type 0 where
  pub names : map (λ row. row.1) rows ≡ names_below layer directory
  pub each : AllByRecursion (LiesBelow layer directory) rows
