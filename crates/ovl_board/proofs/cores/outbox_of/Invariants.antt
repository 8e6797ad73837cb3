use Rattle.std.proofs.Common.{◌≡◌, take}
use Rattle.ovl_board.proofs.cores.outbox_of.Given as goal

abbrev pub invariant-loop-kid : goal.invariant-loop-kid
invariant-loop-kid l = l.outbox.items ≡ take l.kid-index l.kids
