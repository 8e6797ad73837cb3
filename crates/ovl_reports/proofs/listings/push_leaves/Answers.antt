use Rattle.std.proofs.Common.{◌≡◌, ◌+◌, ◌<◌, ◌∙◌, ◌++◌, ◌∷◌, [], cond, length, get_or, drop, ap, sym, subst, arith, string_bytes}
use Rattle.std.specs.Prelude.{codes}
use Rattle.std.proofs.Math.Dec.{leb}
use Rattle.std.proofs.lemmas.Bool.{leb-true, leb-false}
use Rattle.ovl_names.specs.Escapes.{escaped}
use Rattle.ovl_reports.specs.Listings.{name_line}
use Rattle.ovl_reports.specs.Reports.{look_line}
use Rattle.ovl_reports.proofs.LeafSteps.{leaves-more}
use Rattle.ovl_reports.proofs.ListingSteps.{next_left}
use Rattle.ovl_reports.proofs.listings.push_leaves.Goals as goal

pub loop-name-preserved : goal.loop-name-preserved
loop-name-preserved c =
    let l = c.loop-name in
    let given = c.args.directory.now in
    let out = l.directory.parcel.now.out.items in
    let told = l.directory.told in
    let lines = string_bytes l.lines in
    let entry = c.in-Some.field-0.now in
    let wanted = leb c.args.first l.number in
    let here : drop told out ≡ entry ∷ drop (told + 1) out =
    next_left out told entry (subst (λ entries. told < length entries) c.deref.ensures.value c.in-Some.ensures.lookup.3.0)
    (c.in-Some.ensures.lookup.1 ∙ ap (λ entries. get_or entries told entry) c.deref.ensures.value) in
    let same = l.invariant.3 in
    let some : drop told given.parcel.now.out.items ≡ entry ∷ drop (told + 1) given.parcel.now.out.items =
    subst (λ parcel. drop told parcel.now.out.items ≡ entry ∷ drop (told + 1) parcel.now.out.items) same here in
    let more : string_bytes c.push_wanted.new.report ≡ lines ++ cond wanted (name_line (string_bytes given.text) entry) [] =
    c.in_ok-push_wanted.ensures
    ∙ (λ j. lines ++ cond wanted (look_line ((c.as_str.ensures.value ∙ ap string_bytes l.invariant.4) j ++ (codes "/" ++ escaped (c.as_str-in-Some.ensures.value j))) entry.1) []) in (
      leaves-more c.args.first (string_bytes given.text) (drop given.told given.parcel.now.out.items) c.args.told (string_bytes c.args.lines.now)
          (drop told given.parcel.now.out.items) l.number lines l.invariant.0 entry (drop (told + 1) given.parcel.now.out.items) some (sym c.if-is_shown_directory.ensures)
          wanted (leb-true c.args.first l.number) (leb-false c.args.first l.number) (string_bytes c.push_wanted.new.report) more,
      omega (arith, l.invariant.1, c.if-number-end.false),
      omega (arith, l.invariant.2),
      l.invariant.3,
      l.invariant.4,
    )
