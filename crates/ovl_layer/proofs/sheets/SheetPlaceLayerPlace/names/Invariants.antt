use Rattle.std.proofs.Common.{◌≡◌, ◌++◌, map}
use Rattle.ovl_layer.proofs.sheets.SheetPlaceLayerPlace.names.Given as goal

-- the names so far, with those of the rows that are left
abbrev pub invariant-loop-name : goal.invariant-loop-name
invariant-loop-name l = l.names.items ++ map (λ row. row.1) l.name-iterator ≡ map (λ row. row.1) l.initial.name-iterator
