use Rattle.std.proofs.Common.{subst}
use Rattle.ovl_board.specs.Balance.{AllLawful}
use Rattle.ovl_board.specs.Assembly.{bare}
use Rattle.ovl_tests.proofs.cores.assembled.Goals as goal

pub assemble-requires : goal.assemble-requires
assemble-requires g c = subst (λ parcels. AllLawful (bare parcels)) c.deref.ensures.value (c.all_lawful.ensures.0 c.if-not-all_lawful.false)
