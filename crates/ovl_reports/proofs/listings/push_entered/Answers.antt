use Rattle.std.proofs.Common.{◌++◌, ◌∷◌, [], ◌∙◌, ap}
use Rattle.std.specs.Prelude.{codes}
use Rattle.std.proofs.lemmas.Result.{IfOk-weaker}
use Rattle.ovl_names.specs.Escapes.{escaped}
use Rattle.ovl_reports.proofs.listings.push_entered.Goals as goal

pub returns-clause-next : goal.returns-clause-next
returns-clause-next c =
    IfOk-weaker c.enter.result _ _
    (λ rest next parcel others e.
    let it = next parcel others e in
    let last = it.1.0 in (
      it.0,
      (
        last,
        (
          it.1.1.0 ∙ ap (λ opens. opens ++ last ∷ []) c.in_ok-push.ensures.items,
          it.1.1.1,
          it.1.1.2,
          it.1.1.3 ∙ (c.in_ok-text.ensures ∙ (λ j. c.as_str-above.ensures.value j ++ (codes "/" ++ escaped (c.as_str-2.ensures.value j)))),
        ),
      ),
    ))
    c.enter.ensures.next
