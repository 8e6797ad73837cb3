use Rattle.std.proofs.Common.{◌≡◌, true, false, refl, sym, ◌∙◌, subst, arith, All}
use Rattle.std.proofs.lemmas.List.{take_all}
use Rattle.std.proofs.lemmas.List.Elements.{All-map, All-more}
use Rattle.ovl_board.specs.declared.works.Parcel.{Parcel}
use Rattle.ovl_board.specs.Pieces.{AreLawfulKids}
use Rattle.ovl_board.specs.Parcels.{ParcelView, parcel_view}
use Rattle.ovl_board.specs.Assembly.{bare}
use Rattle.ovl_board.proofs.LawsOfMembers.{In, Every-All, In-map, get_or-In}
use Rattle.ovl_board.proofs.works.all_lawful.Goals as goal

abbrev view : {O : Type 0} → Parcel O → ParcelView (Unit {0})
view parcel = parcel_view (λ _. tt {0}) parcel

abbrev IsLawful : ParcelView (Unit {0}) → Type 0
IsLawful v = AreLawfulKids v.piece v.kids

pub loop-parcel-preserved : goal.loop-parcel-preserved
loop-parcel-preserved g c =
    All-more (λ parcel. IsLawful (view parcel)) c.args.parcels.now c.loop-parcel.parcel-index c.parcel-item.result c.loop-parcel-test.true c.loop-parcel.invariant
    (subst (λ parcel. IsLawful (view parcel)) c.parcel-item.is (c.kids_lawful.ensures.0 c.if-not-kids_lawful.false))

pub returns : goal.returns
returns g c =
    let all = take_all c.loop-parcel.parcel-index c.args.parcels.now (omega (arith, c.loop-parcel-test.false)) in
    ((λ _. All-map IsLawful view c.args.parcels.now (subst (All (λ parcel. IsLawful (view parcel))) all c.loop-parcel.invariant)), λ _. refl)

pub returns-then-not-kids_lawful : goal.returns-then-not-kids_lawful
returns-then-not-kids_lawful g c = (
  (λ f. let no : false ≡ true = f in cc),
  (λ lawful.
      let parcels = c.args.parcels.now in
      let parcel = c.parcel-item.result in
      let inside = subst (λ p. In p parcels) (sym c.parcel-item.is) (get_or-In parcels c.loop-parcel.parcel-index parcel c.loop-parcel-test.true) in
      let no : false ≡ true = sym c.if-not-kids_lawful.true ∙ c.kids_lawful.ensures.1 (Every-All IsLawful (bare parcels) lawful (view parcel) (In-map view parcel parcels inside)) in cc),
)
