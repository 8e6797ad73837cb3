use Rattle.std.proofs.Common.{◌≡◌, take}
use Rattle.ovl_board.specs.Trees.{deepest_path}
use Rattle.ovl_board.proofs.trees.most_names.Given as goal

abbrev pub invariant-loop-path : goal.invariant-loop-path
invariant-loop-path l = l.most ≡ deepest_path (take l.path-index l.paths)
