use Rattle.std.proofs.Common.{◌≡◌, ◌∙◌, [], List, arith, sym, ap, subst}
use Rattle.std.proofs.lemmas.Bool.Decides.{nat_tests}
use Rattle.std.proofs.lemmas.List.{nil_from_length}
use Rattle.std.proofs.lemmas.Result.{IfOk-weaker}
use Rattle.ovl_lookup.specs.NamedLists.{AreInOrder, both_joined}
use Rattle.ovl_lookup.proofs.LawsOfNamedLists.{both-none}
use Rattle.ovl_merge.specs.declared.candidates.Candidate.{Candidate}
use Rattle.ovl_merge.specs.Candidates.{candidates_told, joined}
use Rattle.ovl_merge.proofs.candidates.merged.Goals as goal

pub returns-then-is_empty : goal.returns-then-is_empty
returns-then-is_empty c =
    let lower = candidates_told c.args.lower.items in
    let none : c.args.upper.items ≡ [] = nil_from_length c.args.upper.items (grind (arith, nat_tests, c.if-is_empty.ensures, c.args.upper.ok.0)) in
    sym (ap (λ (rows : List Candidate). both_joined joined (candidates_told rows) lower) none ∙ both-none joined lower c.requires)

pub returns-then-is_empty-2 : goal.returns-then-is_empty-2
returns-then-is_empty-2 c =
    let none : c.args.lower.items ≡ [] = nil_from_length c.args.lower.items (grind (arith, nat_tests, c.if-is_empty-2.ensures, c.args.lower.ok.0)) in
    sym (ap (λ (rows : List Candidate). both_joined joined (candidates_told c.args.upper.items) (candidates_told rows)) none)

pub join_lists-requires : goal.join_lists-requires
join_lists-requires c = subst (λ (rows : List Candidate). AreInOrder (candidates_told rows)) (sym c.deref-2.ensures.value) c.requires

pub returns : goal.returns
returns c =
    IfOk-weaker c.join_lists.result _ _ (λ both are.
    are ∙ (λ j. both_joined joined (candidates_told (c.deref.ensures.value j)) (candidates_told (c.deref-2.ensures.value j)))) c.join_lists.ensures
