use Rattle.std.proofs.Common.{◌≡◌, map}
use Rattle.ovl_blobs.specs.Blobs.{digits_piece}
use Rattle.ovl_blobs.proofs.blobs.digits_pieces.Given as goal

abbrev pub invariant-loop-name : goal.invariant-loop-name
invariant-loop-name l = l.pieces.items ≡ map digits_piece l.yielded
