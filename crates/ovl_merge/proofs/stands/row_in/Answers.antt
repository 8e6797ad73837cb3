use Rattle.std.proofs.Common.{ℕ, Option, ◌≡◌, ◌<◌, [], length, subst}
use Rattle.std.specs.Prelude.{MatchOption}
use Rattle.ovl_names.specs.Names.{PathName}
use Rattle.ovl_names.specs.Paths.{child_path}
use Rattle.ovl_layer.specs.LayerTrees.{entries_under}
use Rattle.ovl_layer.specs.Sheets.{path_at}
use Rattle.ovl_merge.specs.Stands.{StandsAt}
use Rattle.ovl_lookup.proofs.LawsOfWalks.{nothing-below}
use Rattle.ovl_merge.proofs.StandLemmas.{sought-inside, sought-row}
use Rattle.ovl_merge.proofs.stands.row_in.Goals as goal

pub returns-in-Some-clause-inside : goal.returns-in-Some-clause-inside
returns-in-Some-clause-inside c = sought-inside c.args.sheet.now (child_path (path_at c.args.sheet.now c.in-Some.directory) c.as_str.result.now) c.child.result c.child.ensures

pub returns-in-Some-clause-row : goal.returns-in-Some-clause-row
returns-in-Some-clause-row c path next is =
    sought-row c.args.sheet.now path c.in-Some.directory next (subst (λ (o : Option ℕ). StandsAt c.args.sheet.now path o next) c.in-Some.is is) c.args.name.now c.child.result
    (subst (λ (n : PathName). MatchOption c.child.result (entries_under (child_path (path_at c.args.sheet.now c.in-Some.directory) n) c.args.sheet.now ≡ []) (λ child. (child < length c.args.sheet.now) × (path_at c.args.sheet.now child ≡ child_path (path_at c.args.sheet.now c.in-Some.directory) n)))
    c.as_str.ensures.value c.child.ensures)

pub returns-in-None-clause-row : goal.returns-in-None-clause-row
returns-in-None-clause-row c path next is =
    let past = subst (λ (o : Option ℕ). StandsAt c.args.sheet.now path o next) c.in-None.is is in
    nothing-below c.args.sheet.now path c.args.name.now [] past.layered past.arrival.none
