use Rattle.std.proofs.lemmas.Result.{IfOk-weaker}
use Rattle.ovl_flatten.specs.Flatten.{flattened_at}
use Rattle.ovl_flatten.proofs.finish.finish_flatten.Goals as goal

pub returns-clause-layer : goal.returns-clause-layer
returns-clause-layer c = IfOk-weaker c.finish.result _ _ (λ layer made. made (flattened_at c.args.work.now) c.in_ok-of.ensures.told) c.finish.ensures.layer

pub returns-clause-limit : goal.returns-clause-limit
returns-clause-limit c sound out = c.finish.ensures.limit out (flattened_at c.args.work.now) c.in_ok-of.ensures.told (c.in_ok-of.ensures.made sound)
