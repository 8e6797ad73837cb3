use Rattle.std.proofs.Common.{◌≡◌, ◌∙◌, ◌++◌, Bool, take, drop, is_some, sym, ap, subst, arith}
use Rattle.std.specs.Prelude.{◌||◌, unwrap_or}
use Rattle.std.proofs.lemmas.Bool.Decides.{nat_tests}
use Rattle.ovl_names.specs.Paths.{PathNames}
use Rattle.ovl_lookup.specs.declared.steps.Descent.{Descent}
use Rattle.ovl_lookup.specs.Passes.{IsPast}
use Rattle.ovl_lookup.proofs.WalkFacts.{all-walked, past-descent}
use Rattle.ovl_lookup.proofs.steps.Arrival.at.Goals.{then-closed, else-closed}
use Rattle.ovl_lookup.proofs.steps.Arrival.at.Goals as goal

pub returns-then-depth-len : goal.returns-then-depth-len
returns-then-depth-len c =
    let d : Descent = c.in_ok-own.field-0 in
    let own = all-walked c.args.sheet.now c.args.rope d c.in_ok-own.ensures (grind (arith, nat_tests, c.if-depth-len.true, c.len.ensures)) in
    record { inside = own.inside; here = own.here; directory = own.directory; next = c.unwrap_or.ensures ∙ own.next; closed = own.closed }

pub returns : goal.returns
returns c =
    let d : Descent = c.in_ok-own.field-0 in
    let layer = c.args.sheet.now in
    let past = past-descent layer c.args.rope d c.in_ok-own.ensures (λ all. grind (arith, nat_tests, all, c.if-depth-len.false, c.len.ensures)) in
    let shut : c.if-closed.result ≡ (d.own.closed || is_some d.number) = elim c.if-closed.branch [
      | then-closed w ↦ w.result-is ∙ (w.if-closed.true ∙ sym (ap (λ b. b || is_some d.number) w.if-closed.true))
      | else-closed w ↦ w.result-is ∙ (w.is_some.ensures ∙ sym (ap (λ b. b || is_some d.number) w.if-closed.false))
    ] in
    subst (λ (next : PathNames). IsPast layer c.args.rope next c.if-closed.result) (sym (c.unwrap_or-next.ensures ∙ c.in_ok-past.ensures))
    (subst (λ (b : Bool). IsPast layer c.args.rope (unwrap_or d.own.turned (take d.depth c.args.rope) ++ drop d.depth c.args.rope) b) (sym shut) past)
