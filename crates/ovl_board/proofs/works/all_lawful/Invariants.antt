use Rattle.std.proofs.Common.{take, All}
use Rattle.ovl_board.specs.Pieces.{AreLawfulKids}
use Rattle.ovl_board.proofs.works.all_lawful.Given as goal

abbrev pub invariant-loop-parcel : goal.invariant-loop-parcel
invariant-loop-parcel g l = All (λ parcel. AreLawfulKids parcel.piece parcel.kids.items) (take l.parcel-index l.parcels)
