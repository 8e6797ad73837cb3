use Rattle.ovl_flatten.proofs.DirectoryLemmas.{tells}
use Rattle.ovl_flatten.proofs.works.FlattenWork.new.Goals as goal

pub returns-clause-tells : goal.returns-clause-tells
returns-clause-tells c = tells c.args.stack.now c.ordinary-layers.ensures.each
