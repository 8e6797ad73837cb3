use Rattle.std.proofs.Common.{◌∙◌, Some, sym, ap}
use Rattle.ovl_board.proofs.TreeLemmas.{shape-decides}
use Rattle.ovl_board.proofs.trees.has_tree_shape.Goals as goal

pub returns-then-is_empty : goal.returns-then-is_empty
returns-then-is_empty c = shape-decides c.args.paths.now c.each_follows.result (sym c.in-Some.ensures.value ∙ ap (λ path. Some path) (c.is_empty.ensures.0 c.if-is_empty.true)) c.each_follows.ensures
