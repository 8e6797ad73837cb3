use Rattle.std.proofs.Common.{◌≡◌, ◌∙◌, ◌++◌, List, ℕ, ap, sym, subst, arith}
use Rattle.std.specs.Prelude.{Contains}
use Rattle.std.specs.List.{flat_map}
use Rattle.std.specs.Str.{bytes_eq}
use Rattle.std.specs.Cmp.Lexicographic.{nat_list_cmp_total, nat_list_eq_equiv, texts_ties, bytes_decides}
use Rattle.std.proofs.lemmas.List.{take_all}
use Rattle.std.proofs.lemmas.List.Filters.{dedup_is}
use Rattle.std.proofs.lemmas.List.Kept.{Contains-dedup, Contains-from_dedup, IsStrictlySortedBy-dedup}
use Rattle.std.proofs.lemmas.List.Sorted.{Contains-permutation, IsPermutation-sym}
use Rattle.ovl_lookup.specs.Stacks.{all_layers}
use Rattle.ovl_blobs.specs.Blobs.{digest_cmp}
use Rattle.ovl_check.specs.Stated.{names_in}
use Rattle.ovl_blobs.proofs.Ascent.{Rises-sorted, ascends-Rises}
use Rattle.ovl_check.proofs.StatedLemmas.{flat_map-take}
use Rattle.ovl_check.proofs.stated_blobs.stated_names.Goals as goal

pub loop-i-preserved : goal.loop-i-preserved
loop-i-preserved c =
    c.in_ok-push_names.ensures
    ∙ ((λ j. c.loop-i.invariant j ++ names_in c.any_sheet.result.now)
    ∙ sym (flat_map-take names_in (all_layers c.args.stack.now) c.loop-i.i c.any_sheet.result.now c.any_sheet.ensures))

pub returns : goal.returns
returns c =
    let stated = flat_map names_in (all_layers c.args.stack.now) in
    let before = c.loop-i.names.items in
    let sorted = c.sort.new.self.items in
    let after = c.dedup.new.self.items in
    let is = dedup_is bytes_eq sorted after c.dedup.ensures.filtered in
    let all : before ≡ stated = c.loop-i.invariant ∙ ap (flat_map names_in) (take_all c.loop-i.i (all_layers c.args.stack.now) (omega (arith, c.loop-i-test.false, c.layers-i-end.ensures.value))) in
    let mixed = c.sort.ensures.permutation in
    record {
      ascend = ascends-Rises digest_cmp after (Rises-sorted digest_cmp after (rw is (IsStrictlySortedBy-dedup nat_list_cmp_total texts_ties sorted c.in_ok-sort.ensures.sorted)));
      same = λ name. (
        (λ h. subst (λ (l : List (List ℕ)). Contains l name) all (Contains-permutation sorted before name (IsPermutation-sym before sorted mixed)
            (Contains-from_dedup bytes_eq sorted name (subst (λ (l : List (List ℕ)). Contains l name) is h)))),
        (λ h. subst (λ (l : List (List ℕ)). Contains l name) (sym is) (Contains-dedup nat_list_eq_equiv (λ x y e. (bytes_decides x y).0 e) sorted name
            (Contains-permutation before sorted name mixed (subst (λ (l : List (List ℕ)). Contains l name) (sym all) h)))),
      );
    }
