use Rattle.std.proofs.Common.{◌≡◌, ◌∙◌, ap}
use Rattle.ovl_lookup.specs.declared.steps.Step.{Step}
use Rattle.ovl_lookup.specs.Passes.{step_of}
use Rattle.ovl_lookup.specs.Walk.{walk}
use Rattle.ovl_merge.specs.Stands.{step_next_lookup}
use Rattle.ovl_merge.proofs.names_in_both.LowerWalk.at.Goals as goal

pub returns : goal.returns
returns c above =
    let same : step_of c.in_ok-found.field-0 ≡ walk c.args.sheet.now c.args.path.now = c.in_ok-found.ensures.value ∙ ap (walk c.args.sheet.now) (c.in_ok-rope.ensures ∙ c.names.ensures.value) in
    record {
      found = ap (λ (s : Step). s.found) same;
      marked = c.in_ok-found.ensures.marked;
      rest = c.rest_at-rest.ensures.rest above ∙ ap step_next_lookup same;
      placed = c.rest_at-rest.ensures.placed above;
    }
