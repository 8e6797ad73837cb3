use Rattle.std.proofs.Common.{AllPairs, ◌∷◌, ◌∙◌, [], ap, sym, subst, IsPermutation, IsSorted}
use Rattle.ovl_board.specs.Pieces.{piece_cmp, IsBefore}
use Rattle.ovl_board.specs.Parcels.{pieces_of}
use Rattle.ovl_board.specs.Balance.{kids_in, AllLawful, IsBalanced}
use Rattle.ovl_board.specs.Assembly.{bare, IsListFault, AreExpected}
use Rattle.ovl_board.proofs.AssemblyLemmas.{fault-assembled, order-assembled, err_as}
use Rattle.ovl_board.proofs.DescentLemmas.{order-balanced, lawful-moved}
use Rattle.ovl_board.proofs.assembly.assemble_unordered.Goals as goal

pub returns-in_err-compare : goal.returns-in_err-compare
returns-in_err-compare g c =
    let sorted = c.sort_parcels.new.parcels.items in
    let expected = c.in_ok-expected.expected.items in
    let all = subst (λ ps. IsPermutation (c.args.root.now ∷ kids_in (bare ps)) expected) c.deref-3.ensures.value c.in_ok-expected.ensures.same in
    err_as c.from_residual-in_err-compare.result c.in_err-compare.field-0.0 _ _ c.from_residual-in_err-compare.ensures.1
    (fault-assembled c.args.root.now c.args.parcels.items sorted c.requires c.in_ok-sort_parcels.ensures.same expected all c.deref-4.result.now
    (c.deref-4.ensures.value ∙ (c.in_ok-pieces.ensures ∙ ap (λ ps. pieces_of (bare ps)) c.deref-2.ensures.value))
    c.in_err-compare.field-0.0 (subst (λ es. IsListFault c.deref-4.result.now es c.in_err-compare.field-0.0) c.deref-5.ensures.value c.in_err-compare.ensures))

pub returns : goal.returns
returns g c =
    let sorted = c.sort_parcels.new.parcels.items in
    let expected = c.in_ok-expected.expected.items in
    let all = subst (λ ps. IsPermutation (c.args.root.now ∷ kids_in (bare ps)) expected) c.deref-3.ensures.value c.in_ok-expected.ensures.same in
    order-assembled c.args.root.now c.args.parcels.items sorted c.requires c.in_ok-sort_parcels.ensures.same expected all c.deref-4.result.now
    (c.deref-4.ensures.value ∙ (c.in_ok-pieces.ensures ∙ ap (λ ps. pieces_of (bare ps)) c.deref-2.ensures.value))
    (subst (AreExpected c.deref-4.result.now) c.deref-5.ensures.value c.in_ok-compare.ensures)

pub compare-requires-clause-pieces : goal.compare-requires-clause-pieces
compare-requires-clause-pieces g c =
    subst (IsSorted piece_cmp) (sym (c.deref-4.ensures.value ∙ (c.in_ok-pieces.ensures ∙ ap (λ ps. pieces_of (bare ps)) c.deref-2.ensures.value))) c.in_ok-sort_parcels.ensures.sorted

pub is_walk-requires : goal.is_walk-requires
is_walk-requires g c =
    subst (λ ps. AllLawful (bare ps)) (sym c.deref.ensures.value) (lawful-moved c.args.parcels.items c.sort_parcels.new.parcels.items c.requires c.in_ok-sort_parcels.ensures.same)

-- where the parcels go down the tree of kids
pub returns-then-branch : goal.returns-then-branch
returns-then-branch g c =
    let root = c.args.root.now in
    let walk = c.in_ok-is_walk.ensures in
    order-balanced root c.args.parcels.items c.sort_parcels.new.parcels.items c.requires c.in_ok-sort_parcels.ensures.same
    (subst (λ ps. AllPairs IsBefore (pieces_of (bare ps))) c.deref.ensures.value (walk.ascend c.if-branch.true))
    (subst (λ ps. IsBalanced root (bare ps) []) c.deref.ensures.value (walk.balanced c.if-branch.true))
