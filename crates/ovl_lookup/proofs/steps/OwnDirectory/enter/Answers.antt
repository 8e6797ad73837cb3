use Rattle.std.proofs.Common.{◌≡◌, ◌∙◌, Some, None, sym, ap}
use Rattle.std.specs.Prelude.{unwrap_or}
use Rattle.ovl_names.specs.Names.{PathName}
use Rattle.ovl_names.specs.Paths.{child_path}
use Rattle.ovl_layer.specs.Sheets.{last_name}
use Rattle.ovl_layer.proofs.SheetLemmas.{last_name-child}
use Rattle.ovl_lookup.specs.NextLookups.{next_on, closed_on}
use Rattle.ovl_lookup.proofs.WalkFacts.{entry-entered}
use Rattle.ovl_lookup.proofs.steps.OwnDirectory.enter.Goals as goal

pub returns-in_default : goal.returns-in_default
returns-in_default c path name stands at =
    let bad : None ≡ Some name = c.in_default.ensures ∙ (ap last_name at ∙ last_name-child path name) in
    cc

pub returns : goal.returns
returns c path name stands at =
    let own = c.args.self in
    let entered = c.in_ok-turned in
    let same : Some c.in-Some.name.now ≡ Some name = c.in-Some.ensures ∙ (ap last_name at ∙ last_name-child path name) in
    let named : c.in-Some.name.now ≡ name = ap (λ o. unwrap_or o name) same in
    entry-entered c.args.sheet.now path name c.root_number-root.ensures.layer own stands c.args.number c.requires.number at c.mark.result.now c.mark.ensures entered.turned entered.closed
    ((λ j. unwrap_or entered.turned (child_path (sym stands.here j) (sym named j)))
    ∙ (entered.ensures.next ∙ (λ j. next_on c.mark.result.now (unwrap_or own.turned (stands.here j)) (named j))))
    (entered.ensures.closed ∙ ap (λ (n : PathName). closed_on c.mark.result.now n own.closed) named)
