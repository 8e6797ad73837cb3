use Rattle.std.proofs.Common.{◌≡◌, ◌<◌, Option, None, length, sym, subst}
use Rattle.std.specs.Prelude.{IfSome}
use Rattle.ovl_names.specs.Paths.{PathNames}
use Rattle.ovl_layer.specs.Layers.{Entries}
use Rattle.ovl_merge.specs.declared.stands.Stand.{Stand}
use Rattle.ovl_merge.specs.declared.names_in_both.LowerWalk.{LowerWalk}
use Rattle.ovl_merge.specs.Places.{merge_of}
use Rattle.ovl_merge.specs.Stands.{IsOver, name_on}
use Rattle.ovl_merge.specs.Reckoned.{IsBelow, next_lookup_at, upper_next_lookup}
use Rattle.ovl_merge.specs.NamesInBoth.{IsLowerWalk}
use Rattle.ovl_merge.proofs.StandLemmas.{lower-sheet, below-over}
use Rattle.ovl_merge.proofs.VisitLemmas.{not-some}
use Rattle.ovl_merge.proofs.NameInBothLemmas.{below-inside, lower_walk-nothing, lower_walk-beside}
use Rattle.ovl_merge.proofs.names_in_both.LowerWalk.beside.Goals as goal

pub returns-in_default : goal.returns-in_default
returns-in_default c =
    let m = merge_of c.args.stack.now in
    let above = c.args.above.now in
    let lower : above.lower ≡ None = not-some above.lower c.in_default.not-Some in
    let none : upper_next_lookup m above.path ≡ None = subst (IsBelow m.lower (upper_next_lookup m above.path)) lower c.requires.above.lower in
    subst (λ (o : Option PathNames). IsLowerWalk m.lower (name_on o c.args.name.now) (next_lookup_at above.lower) c.nothing.result) (sym none)
    (lower_walk-nothing m.lower (next_lookup_at above.lower) c.nothing.result c.nothing.ensures.found c.nothing.ensures.rest)

pub name_walk_by-requires-clause-over : goal.name_walk_by-requires-clause-over
name_walk_by-requires-clause-over c =
    let stack = c.args.stack.now in
    let m = merge_of stack in
    let above = c.args.above.now in
    subst (λ (layer : Entries). IsOver layer c.in-Some.lower) (lower-sheet stack c.requires.several c.sheet.result.now c.sheet.ensures)
    (below-over m.lower (upper_next_lookup m above.path) c.in-Some.lower (subst (IsBelow m.lower (upper_next_lookup m above.path)) c.in-Some.is c.requires.above.lower))

pub name_walk_by-requires-clause-inside : goal.name_walk_by-requires-clause-inside
name_walk_by-requires-clause-inside c =
    let stack = c.args.stack.now in
    let m = merge_of stack in
    let above = c.args.above.now in
    let candidate = c.args.candidate.now in
    subst (λ (layer : Entries). IfSome candidate.lower (λ row. row < length layer)) (lower-sheet stack c.requires.several c.sheet.result.now c.sheet.ensures)
    (below-inside m.lower (upper_next_lookup m above.path) c.in-Some.lower (subst (IsBelow m.lower (upper_next_lookup m above.path)) c.in-Some.is c.requires.above.lower) candidate.name.now candidate.lower c.requires.candidate.lower)

pub returns : goal.returns
returns c =
    let stack = c.args.stack.now in
    let m = merge_of stack in
    let above = c.args.above.now in
    let candidate = c.args.candidate.now in
    let sheet = lower-sheet stack c.requires.several c.sheet.result.now c.sheet.ensures in
    let lower : Stand = c.in-Some.lower in
    let name = c.args.name.now in
    let lower_walk : LowerWalk = record { found = c.name_walk_by.result.found; rest = c.in_ok-rest.rest } in
    subst (λ (o : Option Stand). IsLowerWalk m.lower (name_on (upper_next_lookup m above.path) name) (next_lookup_at o) lower_walk) (sym c.in-Some.is)
    (lower_walk-beside m.lower (upper_next_lookup m above.path) lower (subst (IsBelow m.lower (upper_next_lookup m above.path)) c.in-Some.is c.requires.above.lower) candidate.name.now candidate.lower c.requires.candidate.lower name c.name_walk_by.result
    c.sheet.result.now sheet c.name_walk_by.ensures
    c.in_ok-rest.rest c.in_ok-rest.ensures.rest c.in_ok-rest.ensures.placed)
