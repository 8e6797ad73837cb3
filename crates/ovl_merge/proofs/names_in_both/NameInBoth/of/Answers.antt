use Rattle.std.proofs.Common.{◌<◌, Option, length, sym, subst}
use Rattle.std.specs.Prelude.{IfSome}
use Rattle.ovl_names.specs.Paths.{PathNames, child_path}
use Rattle.ovl_layer.specs.Layers.{Entries}
use Rattle.ovl_merge.specs.Places.{merge_of}
use Rattle.ovl_merge.specs.Stands.{IsRowAt, StandsAt, IsNameWalk}
use Rattle.ovl_merge.specs.Reckoned.{next_lookup_at, upper_next_lookup}
use Rattle.ovl_merge.specs.NamesInBoth.{IsLowerWalk}
use Rattle.ovl_merge.proofs.StandLemmas.{upper-sheet, row-inside}
use Rattle.ovl_merge.proofs.names_in_both.NameInBoth.of.Goals as goal

pub name_walk_at-requires : goal.name_walk_at-requires
name_walk_at-requires c =
    let above = c.args.above.now in
    let candidate = c.args.candidate.now in
    subst (λ (layer : Entries). IfSome candidate.upper (λ row. row < length layer)) (upper-sheet c.args.stack.now c.sheet.result.now c.sheet.ensures)
    (row-inside (merge_of c.args.stack.now).upper (child_path above.path candidate.name.now) candidate.upper c.requires.candidate.upper)

pub returns-clause-walks : goal.returns-clause-walks
returns-clause-walks c =
    let stack = c.args.stack.now in
    let m = merge_of stack in
    let above = c.args.above.now in
    let candidate = c.args.candidate.now in
    let path : PathNames = child_path above.path candidate.name.now in
    let next_lookup : Option PathNames = upper_next_lookup m above.path in
    let sheet = upper-sheet stack c.sheet.result.now c.sheet.ensures in
    let name_walk : IsNameWalk m.upper path next_lookup c.name_walk_at.result = subst (λ (layer : Entries). IsNameWalk layer path next_lookup c.name_walk_at.result) (sym sheet)
    (c.name_walk_at.ensures above.path (subst (λ (layer : Entries). IsRowAt layer path candidate.upper) sheet c.requires.candidate.upper)
    above.upper next_lookup (subst (λ (layer : Entries). StandsAt layer above.path above.upper next_lookup) sheet c.requires.above.upper)) in
    record {
      upper = name_walk.found;
      marked = name_walk.marked;
      lower = subst (λ (o : Option PathNames). IsLowerWalk m.lower o (next_lookup_at above.lower) c.in_ok-lower.lower) name_walk.next_lookup c.in_ok-lower.ensures;
    }
