use Rattle.std.proofs.Common.{◌≡◌, ◌∷◌, take}
use Rattle.ovl_board.specs.Balance.{kids_in}
use Rattle.ovl_board.specs.Assembly.{bare}
use Rattle.ovl_board.proofs.assembly.expected_pieces.Given as goal

abbrev pub invariant-loop-parcel : goal.invariant-loop-parcel
invariant-loop-parcel g l = l.expected.items ≡ l.root ∷ kids_in (bare (take l.parcel-index l.parcels))
