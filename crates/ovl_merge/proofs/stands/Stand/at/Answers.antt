use Rattle.std.proofs.Common.{Bool, subst}
use Rattle.ovl_merge.specs.Stands.{StandsAt, next_lookup_on}
use Rattle.ovl_merge.proofs.StandLemmas.{arrival-stands}
use Rattle.ovl_merge.proofs.stands.Stand.at.Goals as goal

pub returns-then-closed : goal.returns-then-closed
returns-then-closed c =
    let layer = c.args.sheet.now in
    let at = c.in_ok-row.field-0 in
    subst (λ (b : Bool). StandsAt layer c.args.rope at.row (next_lookup_on at.next b)) c.if-closed.true
    (arrival-stands layer c.root_number-root.ensures.layer c.args.rope at.row at.next at.closed c.in_ok-row.ensures)

pub returns : goal.returns
returns c =
    let layer = c.args.sheet.now in
    let at = c.in_ok-row.field-0 in
    subst (λ (b : Bool). StandsAt layer c.args.rope at.row (next_lookup_on at.next b)) c.if-closed.false
    (arrival-stands layer c.root_number-root.ensures.layer c.args.rope at.row at.next at.closed c.in_ok-row.ensures)
