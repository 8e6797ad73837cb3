use Rattle.std.proofs.Common.{subst}
use Rattle.ovl_names.specs.Paths.{child_path}
use Rattle.ovl_merge.specs.Stands.{IsRowAt}
use Rattle.ovl_merge.proofs.StandLemmas.{pass-none, pass-row}
use Rattle.ovl_merge.proofs.stands.name_walk_at.Goals as goal

pub returns-in-Some : goal.returns-in-Some
returns-in-Some c path there directory next is =
    let layer = c.args.sheet.now in
    let name = c.args.name.now in
    let row = subst (IsRowAt layer (child_path path name)) c.in-Some.is there in
    pass-row layer path name directory next is c.in-Some.row row.0 row.1 c.thing_at.result c.thing_at.ensures

pub returns-in-None : goal.returns-in-None
returns-in-None c path there directory next is =
    let layer = c.args.sheet.now in
    let name = c.args.name.now in
    let end = c.nothing_at in
    pass-none layer path name next end.result end.ensures.found end.ensures.next_lookup directory is (subst (IsRowAt layer (child_path path name)) c.in-None.is there)
