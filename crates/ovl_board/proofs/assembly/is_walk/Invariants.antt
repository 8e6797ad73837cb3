use Rattle.std.proofs.Common.{map, take, reverse}
use Rattle.ovl_board.specs.Balance.{IsBalanced}
use Rattle.ovl_board.specs.Assembly.{bare}
use Rattle.ovl_board.specs.Parcels.{pieces_of}
use Rattle.ovl_board.proofs.DescentLemmas.{Descends}
use Rattle.ovl_board.proofs.assembly.is_walk.Given as goal

abbrev pub invariant-loop-parcel : goal.invariant-loop-parcel
invariant-loop-parcel g l =
    let done = bare (take l.parcel-index l.parcels) in
    let open_ones = map (λ piece. piece.now) l.open.items in
    IsBalanced l.root done open_ones × Descends (pieces_of done) (reverse open_ones)
