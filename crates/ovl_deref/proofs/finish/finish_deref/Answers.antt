use Rattle.std.proofs.lemmas.Result.{IfOk-weaker}
use Rattle.ovl_deref.specs.Directories.{new_at}
use Rattle.ovl_deref.proofs.finish.finish_deref.Goals as goal

pub returns-clause-layer : goal.returns-clause-layer
returns-clause-layer c = IfOk-weaker c.finish.result _ _ (λ layer made. made (new_at c.args.work.now) c.in_ok-of.ensures.told) c.finish.ensures.layer

pub returns-clause-limit : goal.returns-clause-limit
returns-clause-limit c sound out = c.finish.ensures.limit out (new_at c.args.work.now) c.in_ok-of.ensures.told (c.in_ok-of.ensures.made sound)
