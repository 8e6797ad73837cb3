use Rattle.std.proofs.Common.{◌≡◌, ◌∷◌, refl, sym, ◌∙◌}
use Rattle.ovl_reports.proofs.listings.enter.Goals as goal

pub returns-clause-next : goal.returns-clause-next
returns-clause-next c parcel others e =
    let split : c.in-Some.parcel.now ∷ c.in-Some.rest.now ≡ parcel ∷ others = sym c.in-Some.ensures.cases.0 ∙ e in
    (cc, (record { parcel = c.in-Some.parcel; told = 0; text = c.args.text }, (c.in_ok-push.ensures.items, cc, refl, refl)))
