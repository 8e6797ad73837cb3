use Rattle.std.proofs.Common.{◌≡◌, ℕ, ◌∙◌, ◌++◌, true, false, Option, sym, ap}
use Rattle.std.proofs.lemmas.List.{append-nil}
use Rattle.ovl_lookup.specs.DirViews.{places_in}
use Rattle.ovl_lookup.proofs.DirViewLemmas.{arrival-step, places_of}
use Rattle.ovl_lookup.proofs.views.push_reached.Goals.{in-Some+in_ok-push, in_default}
use Rattle.ovl_lookup.proofs.views.push_reached.Goals as goal

pub returns-then-closed : goal.returns-then-closed
returns-then-closed c =
    let at = c.in_ok-row.field-0 in
    let items : c.match-row.places.items ≡ c.loop-layer.places.items ++ places_of c.loop-layer.layer at.row = elim c.match-row.branch [
      | in-Some+in_ok-push w ↦ ap (λ v. v.items) w.places-is ∙ w.in_ok-push.ensures.items ∙ ap (λ (row : Option ℕ). c.loop-layer.places.items ++ places_of c.loop-layer.layer row) (sym w.in-Some.is)
      | in_default w ↦ ap (λ v. v.items) w.places-is ∙ sym (append-nil c.loop-layer.places.items) ∙ ap (λ (row : Option ℕ). c.loop-layer.places.items ++ places_of c.loop-layer.layer row) (sym w.in_default.is)
    ] in
    let step = arrival-step c.args.stack.now c.loop-layer.layer c.sheet.result.now c.loop-layer.rope at.row at.next at.closed true c.sheet.ensures c.in_ok-row.ensures c.if-closed.true c.args.places.now.items c.loop-layer.places.items c.match-row.places.items _ items c.loop-layer.invariant.over c.loop-layer.invariant.places in
    record { places = sym (append-nil (places_in c.args.stack.now c.match-row.places.items)) ∙ step.0; over = step.1 }

pub loop-layer-preserved : goal.loop-layer-preserved
loop-layer-preserved c =
    let at = c.in_ok-row.field-0 in
    let items : c.match-row.places.items ≡ c.loop-layer.places.items ++ places_of c.loop-layer.layer at.row = elim c.match-row.branch [
      | in-Some+in_ok-push w ↦ ap (λ v. v.items) w.places-is ∙ w.in_ok-push.ensures.items ∙ ap (λ (row : Option ℕ). c.loop-layer.places.items ++ places_of c.loop-layer.layer row) (sym w.in-Some.is)
      | in_default w ↦ ap (λ v. v.items) w.places-is ∙ sym (append-nil c.loop-layer.places.items) ∙ ap (λ (row : Option ℕ). c.loop-layer.places.items ++ places_of c.loop-layer.layer row) (sym w.in_default.is)
    ] in
    let step = arrival-step c.args.stack.now c.loop-layer.layer c.sheet.result.now c.loop-layer.rope at.row at.next at.closed false c.sheet.ensures c.in_ok-row.ensures c.if-closed.false c.args.places.now.items c.loop-layer.places.items c.match-row.places.items _ items c.loop-layer.invariant.over c.loop-layer.invariant.places in
    record { places = step.0; over = step.1 }
