use Rattle.std.proofs.Common.{rules, ◌≡◌, ◌+◌, ◌-◌, ◌<◌, ◌≤◌, ◌∙◌, ◌++◌, ◌∷◌, [], cond, true, length, get_or, drop, refl, ap, sym, subst, arith, string_bytes}
use Rattle.std.specs.Prelude.{codes, ◌==◌}
use Rattle.std.proofs.Math.Dec.{leb}
use Rattle.std.proofs.lemmas.Bool.{leb-true, leb-false}
use Rattle.std.proofs.lemmas.List.{drop_all}
use Rattle.ovl_lookup.specs.Merged.{is_shown_directory}
use Rattle.ovl_reports.specs.Directories.{IsShowWalk}
use Rattle.ovl_reports.specs.Listings.{one_told}
use Rattle.ovl_reports.specs.Reports.{look_line}
use Rattle.ovl_reports.proofs.ListingLemmas.{views_of, has-first, has-next}
use Rattle.ovl_reports.proofs.ListingSteps.{view, IsListing, next_left, listing-first, listing-exhausted, listing-leaves_told, listing-entered, listing-share, listing-last}
use Rattle.ovl_reports.proofs.listings.push_lines.Goals.{in-Some+in_ok-told+then-told-end, in_default}
use Rattle.ovl_reports.proofs.listings.push_lines.Goals as goal

pub loop-directory-init : goal.loop-directory-init
loop-directory-init c = (
  λ stack tree.
      let first = has-first stack tree.each tree.some c.args.parcels.now tree.walk in
      let lines = string_bytes c.push_wanted.new.report in
      let opened = c.in_ok-rest.ensures.next first.0 first.1.0 first.1.1 in
      let top = opened.1.0 in
      subst (IsListing stack c.args.first lines 1 c.enter.new.opened.items) (sym opened.0)
      (subst (λ opens. IsListing stack c.args.first lines 1 opens first.1.0) (sym (opened.1.1.0 ∙ ap (λ opens. opens ++ top ∷ []) c.new-open.ensures.items))
      (listing-first stack c.args.first tree.each tree.some first.0 first.1.0 (subst (λ parcels. IsShowWalk stack (views_of parcels)) first.1.1 tree.walk) lines
      (c.in_ok-push_wanted.ensures ∙ (λ j. c.requires.empty j ++ cond (c.args.first == 0) (look_line (codes "/") (tree.root_is j)) []))
      top opened.1.1.1 opened.1.1.2 (opened.1.1.3 ∙ c.new.ensures.bytes))),
  omega (arith, c.requires.some),
)

pub loop-directory-preserved-in_default-get : goal.loop-directory-preserved-in_default-get
loop-directory-preserved-in_default-get c =
    let l = c.loop-directory in
    let given = c.in-Some.directory in
    let o = c.push_leaves.new.directory in
    let kept = c.pop.new.self.items in
    let lines = string_bytes c.push_leaves.new.lines in
    let past : length o.parcel.now.out.items ≤ o.told = subst (λ entries. length entries ≤ o.told) c.deref.ensures.value c.in_default-get.ensures.lookup.3 in (
      λ stack tree.
          let before = subst (λ opens. IsListing stack c.args.first (string_bytes l.lines) l.told opens l.rest.now) c.in-Some.ensures.items (l.invariant.0 stack tree) in
          listing-exhausted stack c.args.first tree.each lines c.in_ok-told.told kept o l.rest.now
          (listing-leaves_told stack c.args.first tree.each (string_bytes l.lines) l.told kept given l.rest.now before o lines c.in_ok-told.told c.in_ok-told.ensures.leaves c.in_ok-told.ensures.same.0 c.in_ok-told.ensures.same.1)
          (drop_all o.told o.parcel.now.out.items past),
      c.in_ok-told.ensures.within,
    )

pub loop-directory-preserved : goal.loop-directory-preserved
loop-directory-preserved c =
    let l = c.loop-directory in
    let given = c.in-Some.directory in
    let o = c.push_leaves.new.directory in
    let number = c.in_ok-told.told in
    let lines = string_bytes c.push_leaves.new.lines in
    let out = o.parcel.now.out.items in
    let kept = c.pop.new.self.items in
    let entry = c.in-Some-get.entry.now in
    let wanted = leb c.args.first number in
    let longer = string_bytes c.push_entered.new.lines in
    let some : drop o.told out ≡ entry ∷ drop (o.told + 1) out =
    next_left out o.told entry (subst (λ entries. o.told < length entries) c.deref.ensures.value c.in-Some-get.ensures.lookup.3.0)
    (c.in-Some-get.ensures.lookup.1 ∙ ap (λ entries. get_or entries o.told entry) c.deref.ensures.value) in
    let within : number ≤ c.args.end = c.in_ok-told.ensures.within in
    let few : number < c.args.end = omega (arith, within, c.if-told-end.false) in
    let is : is_shown_directory entry.1 ≡ true =
    c.in_ok-told.ensures.next few entry (drop (o.told + 1) out) (subst (λ parcel. drop o.told parcel.now.out.items ≡ entry ∷ drop (o.told + 1) out) c.in_ok-told.ensures.same.0 some) in (
      λ stack tree.
          let before = subst (λ opens. IsListing stack c.args.first (string_bytes l.lines) l.told opens l.rest.now) c.in-Some.ensures.items (l.invariant.0 stack tree) in
          let h = listing-leaves_told stack c.args.first tree.each (string_bytes l.lines) l.told kept given l.rest.now before o lines number c.in_ok-told.ensures.leaves c.in_ok-told.ensures.same.0 c.in_ok-told.ensures.same.1 in
          let next = has-next stack tree.each view kept o entry (drop (o.told + 1) out) h.told l.rest.now h.is_told some is in
          let opened = c.in_ok-rest-2.ensures.next next.0 next.1.0 next.1.1 in
          let last = opened.1.0 in
          subst (IsListing stack c.args.first longer (number + 1) c.push_entered.new.opened.items) (sym opened.0)
          (subst (λ opens. IsListing stack c.args.first longer (number + 1) opens next.1.0) {x = (kept ++ one_told o ∷ []) ++ last ∷ []} (sym opened.1.1.0)
          (listing-entered stack c.args.first tree.each lines number kept o l.rest.now h entry (drop (o.told + 1) out) some
          wanted (leb-true c.args.first number) (leb-false c.args.first number) longer c.in_ok-rest-2.ensures.line (one_told o) refl refl is next.0 next.1.0 next.1.1 last opened.1.1.1 opened.1.1.2 opened.1.1.3)),
      omega (arith, few),
    )

pub returns : goal.returns
returns c stack tree =
    let l = c.loop-directory in
    let lines = string_bytes l.lines in
    let share = c.args.end - c.args.first in
    let h : IsListing stack c.args.first lines l.told l.open.items l.rest.now = l.invariant.0 stack tree in
    elim c.match-pop.branch [
      | in-Some+in_ok-told+then-told-end w ↦
          let o = w.push_leaves.new.directory in
          let longer = string_bytes w.push_leaves.new.lines in
          let number = w.in_ok-told.told in
          let kept = c.pop.new.self.items in
          let before = subst (λ opens. IsListing stack c.args.first lines l.told opens l.rest.now) w.in-Some.ensures.items h in
          let told = listing-leaves_told stack c.args.first tree.each lines l.told kept w.in-Some.directory l.rest.now before o longer number w.in_ok-told.ensures.leaves w.in_ok-told.ensures.same.0 w.in_ok-told.ensures.same.1 in
          ap string_bytes w.lines-is ∙ listing-share stack c.args.first tree.each tree.some longer number (kept ++ o ∷ []) l.rest.now told share (omega (arith, w.if-told-end.true, c.requires.some))
      | in_default w ↦
          let none : l.open.items ≡ [] = search (rules, w) in
          ap string_bytes w.lines-is
          ∙ listing-last stack c.args.first tree.each tree.some lines l.told l.rest.now (subst (λ opens. IsListing stack c.args.first lines l.told opens l.rest.now) none h) share (omega (arith, l.invariant.1, c.requires.some))
    ]
