use Rattle.std.proofs.Common.{◌∙◌, sym, ap, length}
use Rattle.ovl_board.proofs.TreeLemmas.{next_root}
use Rattle.ovl_board.proofs.trees.follows.Goals as goal

pub returns-in-None : goal.returns-in-None
returns-in-None c = next_root c.args.before.now c.args.path.now (ap length (sym c.names.ensures.value ∙ c.in-None.ensures.value))
