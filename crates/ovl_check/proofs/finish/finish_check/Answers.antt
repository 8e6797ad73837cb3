use Rattle.std.proofs.Common.{◌≡◌, ◌+◌, length, arith, length-append, ◌∙◌, List, map, sym, refl, subst}
use Rattle.std.specs.List.{dedup, flat_map}
use Rattle.std.specs.List.Sorted.{IsPermutation}
use Rattle.std.proofs.lemmas.List.Filters.{dedup_is}
use Rattle.std.proofs.lemmas.List.Kept.{Contains-dedup, Contains-from_dedup, IsStrictlySortedBy-dedup}
use Rattle.std.proofs.lemmas.List.Sorted.{Contains-permutation, IsPermutation-sym, IsPermutation-trans}
use Rattle.ovl_board.specs.Parcels.{parcel_views}
use Rattle.ovl_board.proofs.LawsOfMembers.{In, Contains-In, In-Contains}
use Rattle.ovl_check.specs.declared.findings.Finding.{Finding}
use Rattle.ovl_check.specs.Contents.{findings_of_contents_from as findings_from}
use Rattle.ovl_check.specs.Checks.{check_seen}
use Rattle.ovl_check.specs.CheckViews.{check_view}
use Rattle.ovl_check.specs.Walks.{found_along}
use Rattle.ovl_blobs.proofs.Ascent.{Rises-sorted, ordered_same}
use Rattle.ovl_check.proofs.FinishLemmas.{front-each, all-sound, all-whole, along-lists, length-lists}
use Rattle.ovl_check.proofs.OrderLemmas.{finding_cmp, finding_eq, finding_total, finding_ties, finding_equiv, finding_eq-exact, from-rise}
use Rattle.ovl_check.proofs.finish.finish_check.Goals as goal

pub returns : goal.returns
returns c =
    let work = check_view c.args._work.now in
    let each = c.layers-layers.ensures.all in
    let front = front-each work each in
    let start : 0 + length work.stack.layers ≡ length work.stack.layers = omega arith in
    let lists = map (λ parcels. parcel_views check_seen parcels.items) c.args.layers.items in
    let along = flat_map found_along lists in
    let before = c.in_ok-found.found.items in
    let sorted = c.sort.new.self.items in
    let after = c.dedup.new.self.items in
    let is = dedup_is finding_eq sorted after c.dedup.ensures.filtered in
    let kept : IsPermutation along sorted =
    IsPermutation-trans along before sorted
    (subst (λ (found : List Finding). IsPermutation found before) (along-lists (λ parcels. parcel_views check_seen parcels.items) c.args.layers.items) c.in_ok-found.ensures)
    c.sort.ensures.permutation in
    let count = length-lists (λ parcels. parcel_views check_seen parcels.items) c.args.layers.items ∙ (c.requires.count ∙ length-append work.stack.layers work.stack.data_only) in
    ordered_same finding_total after (findings_from work.contents work.stack 0 work.stack.layers)
    (Rises-sorted finding_cmp after (rw is (IsStrictlySortedBy-dedup finding_total finding_ties sorted c.in_ok-sort.ensures.sorted)))
    (from-rise work.contents work.stack 0 work.stack.layers front.0 front.1)
    (λ f h. all-sound work each 0 work.stack.layers lists refl start count c.requires.walks f
    (In-Contains f along (Contains-permutation sorted along f (IsPermutation-sym along sorted kept) (Contains-from_dedup finding_eq sorted f (Contains-In f (dedup finding_eq sorted) (subst (In f) is h))))))
    (λ f h. subst (In f) (sym is) (In-Contains f (dedup finding_eq sorted) (Contains-dedup finding_equiv finding_eq-exact sorted f
    (Contains-permutation along sorted f kept (Contains-In f along (all-whole work each 0 work.stack.layers lists refl start count c.requires.walks f h))))))
