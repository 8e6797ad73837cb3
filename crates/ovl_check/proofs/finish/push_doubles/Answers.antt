use Rattle.std.proofs.Common.{◌≡◌, ◌∙◌, ◌++◌, [], List, drop, sym, ap}
use Rattle.std.proofs.lemmas.List.{append-nil}
use Rattle.ovl_names.specs.Paths.{PathNames}
use Rattle.ovl_lookup.proofs.LawsOfPaths.{drop_past}
use Rattle.ovl_board.specs.declared.works.Parcel.{Parcel}
use Rattle.ovl_board.specs.Parcels.{parcel_views}
use Rattle.ovl_check.specs.declared.findings.Finding.{Finding}
use Rattle.ovl_check.specs.declared.work.CheckOut.{CheckOut}
use Rattle.ovl_check.specs.Checks.{check_seen}
use Rattle.ovl_check.specs.Walks.{View, doubles_among}
use Rattle.ovl_check.proofs.FinishLemmas.{none-doubled}
use Rattle.ovl_check.proofs.SoughtLemmas.{doubles-among_moved}
use Rattle.ovl_check.proofs.finish.push_doubles.Goals as goal

pub returns-then-not-has_moved : goal.returns-then-not-has_moved
returns-then-not-has_moved c =
    sym (ap (λ (more : List Finding). c.args.findings.now.items ++ more) (none-doubled c.args.parcels.now [] (sym c.has_moved.ensures ∙ c.if-not-has_moved.true))
    ∙ append-nil c.args.findings.now.items)

pub returns : goal.returns
returns c =
    let before : List Finding = c.args.findings.now.items in
    let found : List Finding = c.loop-parcel.findings.items in
    let moved : List PathNames = c.in_ok-moved.moved.keys in
    let views : List View = parcel_views check_seen c.args.parcels.now in
    let none : drop c.loop-parcel.parcel-index c.args.parcels.now ≡ [] = drop_past c.args.parcels.now c.loop-parcel.parcel-index c.loop-parcel-test.false in
    sym (ap (λ (rest : List (Parcel CheckOut)). found ++ doubles_among moved c.loop-parcel.places.keys (parcel_views check_seen rest)) none ∙ append-nil found)
    ∙ (c.loop-parcel.invariant
    ∙ ap (λ (more : List Finding). before ++ more) (ap (λ (wanted : List PathNames). doubles_among wanted [] views) c.in_ok-moved.ensures ∙ doubles-among_moved views))
