use Rattle.std.proofs.Common.{◌∙◌, subst}
use Rattle.std.specs.Prelude.{IfOk}
use Rattle.ovl_names.specs.Paths.{PathNames}
use Rattle.ovl_lookup.specs.DirViews.{IsSought}
use Rattle.ovl_lookup.proofs.views.DirView.of.Goals as goal

pub returns : goal.returns
returns c = subst (λ (path : PathNames). IfOk c.at.result (IsSought c.args.stack.now c.args.from path)) (c.in_ok-rope.ensures ∙ c.names.ensures.value) c.at.ensures
