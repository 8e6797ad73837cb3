use Rattle.std.proofs.Common.{Option, Some, sym, ap, subst}
use Rattle.std.specs.Prelude.{IfOk}
use Rattle.ovl_names.specs.Paths.{PathNames}
use Rattle.ovl_layer.specs.Layers.{Entries}
use Rattle.ovl_merge.specs.Places.{merge_of}
use Rattle.ovl_merge.specs.Stands.{next_lookup_to}
use Rattle.ovl_merge.specs.Reckoned.{next_lookup_at, upper_next_lookup}
use Rattle.ovl_merge.specs.NamesInBoth.{IsLowerWalk}
use Rattle.ovl_merge.proofs.StandLemmas.{lower-sheet}
use Rattle.ovl_merge.proofs.NameInBothLemmas.{lower_walk-nothing}
use Rattle.ovl_merge.proofs.names_in_both.LowerWalk.of.Goals as goal

pub returns-in-Beside : goal.returns-in-Beside
returns-in-Beside c =
    let m = merge_of c.args.stack.now in
    let above = c.args.above.now in
    subst (λ (o : Option PathNames). IfOk c.beside.result (IsLowerWalk m.lower o (next_lookup_at above.lower))) (sym (ap (next_lookup_to (upper_next_lookup m above.path)) c.in-Beside.is)) c.beside.ensures

pub returns-in-At : goal.returns-in-At
returns-in-At c =
    let stack = c.args.stack.now in
    let m = merge_of stack in
    let above = c.args.above.now in
    subst (λ (o : Option PathNames). IfOk c.at.result (IsLowerWalk m.lower o (next_lookup_at above.lower))) (sym (ap (next_lookup_to (upper_next_lookup m above.path)) c.in-At.is))
    (subst (λ (layer : Entries). IfOk c.at.result (IsLowerWalk layer (Some c.in-At.origin.now) (next_lookup_at above.lower))) (sym (lower-sheet stack c.requires.several c.sheet.result.now c.sheet.ensures)) (c.at.ensures (next_lookup_at above.lower)))

pub returns-in-Nowhere : goal.returns-in-Nowhere
returns-in-Nowhere c =
    let m = merge_of c.args.stack.now in
    let above = c.args.above.now in
    subst (λ (o : Option PathNames). IsLowerWalk m.lower o (next_lookup_at above.lower) c.nothing.result) (sym (ap (next_lookup_to (upper_next_lookup m above.path)) c.in-Nowhere.is))
    (lower_walk-nothing m.lower (next_lookup_at above.lower) c.nothing.result c.nothing.ensures.found c.nothing.ensures.rest)
