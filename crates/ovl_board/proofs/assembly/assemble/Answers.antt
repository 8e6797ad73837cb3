use Rattle.std.proofs.Common.{[], sym, subst, AllPairs}
use Rattle.std.proofs.lemmas.List.Sorted.{IsPermutation-refl}
use Rattle.ovl_board.specs.Pieces.{IsBefore}
use Rattle.ovl_board.specs.Parcels.{pieces_of}
use Rattle.ovl_board.specs.Balance.{AllLawful, IsBalanced}
use Rattle.ovl_board.specs.Assembly.{bare}
use Rattle.ovl_board.proofs.DescentLemmas.{order-balanced}
use Rattle.ovl_board.proofs.assembly.assemble.Goals as goal

pub is_walk-requires : goal.is_walk-requires
is_walk-requires g c = subst (λ ps. AllLawful (bare ps)) (sym c.deref.ensures.value) c.requires

-- where the parcels come in order
pub returns-then-branch : goal.returns-then-branch
returns-then-branch g c =
    let root = c.args.root.now in
    let parcels = c.args.parcels.items in
    let walk = c.in_ok-is_walk.ensures in
    order-balanced root parcels parcels c.requires (IsPermutation-refl parcels)
    (subst (λ ps. AllPairs IsBefore (pieces_of (bare ps))) c.deref.ensures.value (walk.ascend c.if-branch.true))
    (subst (λ ps. IsBalanced root (bare ps) []) c.deref.ensures.value (walk.balanced c.if-branch.true))
