use Rattle.std.proofs.Common.{◌≡◌, List, length, map, sym, ap, subst, arith}
use Rattle.std.specs.List.{AllByRecursion}
use Rattle.ovl_names.specs.Paths.{PathNames}
use Rattle.ovl_layer.specs.Layers.{Entries, names_below}
use Rattle.ovl_layer.specs.Sheets.{path_at}
use Rattle.ovl_layer.specs.RowsBelow.{NamedRow, LiesBelow}
use Rattle.ovl_layer.proofs.SheetLemmas.{has-numbers}
use Rattle.ovl_layer.proofs.RowBelowLemmas.{numbers-kept, numbers-named, numbers-below}
use Rattle.ovl_layer.proofs.sheets.Sheet.below.Goals as goal

pub below-requires : goal.below-requires
below-requires c = has-numbers _ _ _ c.self.invariant c.args.directory (omega (arith, c.requires, ap length c.self.view_is))

pub of-requires : goal.of-requires
of-requires c =
    let kept = numbers-kept _ _ _ c.args.self.now c.args.directory c.below.result.now c.self.invariant c.self.view_is c.requires c.below.ensures in
    numbers-named c.args.self.now (path_at c.args.self.now c.args.directory) c.below.result.now _ kept.0 kept.1

pub returns : goal.returns
returns c =
    let layer : Entries = c.args.self.now in
    let directory : PathNames = path_at layer c.args.directory in
    let kept = numbers-kept _ _ _ layer c.args.directory c.below.result.now c.self.invariant c.self.view_is c.requires c.below.ensures in
    let rows = numbers-below layer directory c.below.result.now _ kept.0 kept.1 in
    record {
      names = subst (λ (own : List NamedRow). map (λ row. row.1) own ≡ names_below layer directory) (sym c.of.ensures) rows.0;
      each = subst (AllByRecursion (LiesBelow layer directory)) (sym c.of.ensures) rows.1;
    }
