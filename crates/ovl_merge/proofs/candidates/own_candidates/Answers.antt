use Rattle.std.proofs.Common.{◌≡◌, ◌<◌, None, [], length, sym, subst}
use Rattle.std.specs.Prelude.{IfSome}
use Rattle.std.proofs.lemmas.Result.{IfOk-weaker}
use Rattle.ovl_layer.specs.Layers.{Entries}
use Rattle.ovl_lookup.specs.Passes.{own_names_along}
use Rattle.ovl_names.specs.NameSets.{put_names}
use Rattle.ovl_merge.specs.declared.candidates.Side.TheVariants.{Upper, Lower}
use Rattle.ovl_merge.specs.Places.{merge_of, two_layers}
use Rattle.ovl_merge.specs.Stands.{IsOver}
use Rattle.ovl_merge.specs.Reckoned.{IsBelow, upper_next_lookup}
use Rattle.ovl_merge.specs.Candidates.{AreCandidates, candidates_told}
use Rattle.ovl_merge.proofs.FinishLemmas.{merge-each}
use Rattle.ovl_merge.proofs.LayerLemmas.{upper, lower}
use Rattle.ovl_merge.proofs.StandLemmas.{upper-sheet, lower-sheet, over-row, below-over, below-place}
use Rattle.ovl_merge.proofs.VisitLemmas.{not-some}
use Rattle.ovl_merge.proofs.CandidateLemmas.{upper-candidates, both-candidates, rows-there, rows-ascend}
use Rattle.ovl_merge.proofs.candidates.own_candidates.Goals as goal

pub rows_of-requires : goal.rows_of-requires
rows_of-requires c =
    let directory = c.args.directory.now in
    let m = merge_of c.args.stack.now in
    subst (λ (layer : Entries). IfSome directory.upper (λ row. row < length layer)) (upper-sheet c.args.stack.now c.sheet.result.now c.sheet.ensures)
    (over-row m.upper directory.path directory.upper (upper_next_lookup m directory.path) c.requires.visited.upper)

pub returns-in_default : goal.returns-in_default
returns-in_default c =
    let stack = c.args.stack.now in
    let m = merge_of stack in
    let each = merge-each stack c.requires.several c.ordinary-layers.ensures.each in
    let directory = c.args.directory.now in
    let told = candidates_told c.in_ok-upper.upper.items in
    let rows = rows-there Upper m.upper c.sheet.result.now (upper-sheet stack c.sheet.result.now c.sheet.ensures) told directory.upper directory.path (upper_next_lookup m directory.path) c.requires.visited.upper c.in_ok-upper.ensures in
    let none : upper_next_lookup m directory.path ≡ None = subst (IsBelow m.lower (upper_next_lookup m directory.path)) (not-some directory.lower c.in_default.not-Some) c.requires.visited.lower in
    upper-candidates m directory (upper m each) none told rows

pub rows_of-requires-2 : goal.rows_of-requires-2
rows_of-requires-2 c =
    let stack = c.args.stack.now in
    let m = merge_of stack in
    let directory = c.args.directory.now in
    subst (λ (layer : Entries). IsOver layer c.in-Some.below) (lower-sheet stack c.requires.several c.sheet-2.result.now c.sheet-2.ensures)
    (below-over m.lower (upper_next_lookup m directory.path) c.in-Some.below (subst (IsBelow m.lower (upper_next_lookup m directory.path)) c.in-Some.is c.requires.visited.lower))

pub merged-requires : goal.merged-requires
merged-requires c =
    let stack = c.args.stack.now in
    let m = merge_of stack in
    let each = merge-each stack c.requires.several c.ordinary-layers.ensures.each in
    let directory = c.args.directory.now in
    let below = c.in-Some.below in
    let place = below-place m.lower (upper_next_lookup m directory.path) below (subst (IsBelow m.lower (upper_next_lookup m directory.path)) c.in-Some.is c.requires.visited.lower) in
    let other = candidates_told c.in_ok-lower.lower.items in
    rows-ascend Lower m.lower (lower m each) place.0 other
    (rows-there Lower m.lower c.sheet-2.result.now (lower-sheet stack c.requires.several c.sheet-2.result.now c.sheet-2.ensures) other below.row place.0 below.next place.2 c.in_ok-lower.ensures)

pub returns : goal.returns
returns c =
    let stack = c.args.stack.now in
    let m = merge_of stack in
    let each = merge-each stack c.requires.several c.ordinary-layers.ensures.each in
    let directory = c.args.directory.now in
    let below = c.in-Some.below in
    let place = below-place m.lower (upper_next_lookup m directory.path) below (subst (IsBelow m.lower (upper_next_lookup m directory.path)) c.in-Some.is c.requires.visited.lower) in
    let one = candidates_told c.in_ok-upper.upper.items in
    let other = candidates_told c.in_ok-lower.lower.items in
    let upper_rows = rows-there Upper m.upper c.sheet.result.now (upper-sheet stack c.sheet.result.now c.sheet.ensures) one directory.upper directory.path (upper_next_lookup m directory.path) c.requires.visited.upper c.in_ok-upper.ensures in
    let lower_rows = rows-there Lower m.lower c.sheet-2.result.now (lower-sheet stack c.requires.several c.sheet-2.result.now c.sheet-2.ensures) other below.row place.0 below.next place.2 c.in_ok-lower.ensures in
    let names = put_names [] (own_names_along (two_layers m).layers directory.path) in
    IfOk-weaker c.merged.result _ _ (λ both are.
    subst (AreCandidates m directory names) (sym are) (both-candidates m directory (upper m each) (lower m each) place.0 place.1 one other upper_rows lower_rows)) c.merged.ensures
