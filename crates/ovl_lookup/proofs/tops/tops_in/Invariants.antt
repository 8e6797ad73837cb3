use Rattle.std.proofs.Common.{◌≡◌, ◌++◌, map}
use Rattle.std.specs.List.{AllByRecursion}
use Rattle.ovl_layer.specs.Sheets.{path_at}
use Rattle.ovl_layer.specs.RowsBelow.{LiesBelow}
use Rattle.ovl_lookup.specs.ViewPasses.{tops_told}
use Rattle.ovl_lookup.specs.DirViews.{place_in}
use Rattle.ovl_lookup.specs.NamedLists.{names_of}
use Rattle.ovl_lookup.proofs.TopLemmas.{names_in, StandHere}
use Rattle.ovl_lookup.proofs.tops.tops_in.Given as goal

-- the names so far, each with what is at it, and those of the rows that are left
abbrev pub invariant-loop-row : goal.invariant-loop-row
invariant-loop-row l = record {
  names : names_of (tops_told l.tops.items) ++ map (λ row. row.1) l.row-iterator ≡ names_in l.stack.layers (place_in l.stack l.place);
  stand : StandHere l.stack.layers l.number (place_in l.stack l.place) (tops_told l.tops.items);
  rest : AllByRecursion (LiesBelow l.sheet (path_at l.sheet l.place.row)) l.row-iterator;
}
