use Rattle.std.proofs.Common.{◌≡◌, take}
use Rattle.ovl_board.specs.Parcels.{pieces_of}
use Rattle.ovl_board.specs.Assembly.{bare}
use Rattle.ovl_board.proofs.assembly.parcel_pieces.Given as goal

abbrev pub invariant-loop-parcel : goal.invariant-loop-parcel
invariant-loop-parcel g l = l.pieces.items ≡ pieces_of (bare (take l.parcel-index l.parcels))
