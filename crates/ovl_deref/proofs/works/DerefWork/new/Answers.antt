use Rattle.std.proofs.Common.{ℕ, ◌<◌, subst}
use Rattle.ovl_deref.proofs.DirectoryLemmas.{tells}
use Rattle.ovl_deref.proofs.works.DerefWork.new.Goals as goal

pub returns-clause-tells : goal.returns-clause-tells
returns-clause-tells c =
    tells c.args.stack.now c.ordinary-layers.ensures.each
    (subst (λ (n : ℕ). 0 < n) c.ordinary-layers.ensures.value c.ordinary-layers.ensures.some)
