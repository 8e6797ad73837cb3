use Rattle.std.proofs.Common.{◌≡◌, drop}
use Rattle.ovl_names.proofs.PathTexts.{text_cmp}
use Rattle.ovl_names.proofs.paths.order.Given as goal

abbrev pub invariant-loop-i : goal.invariant-loop-i
invariant-loop-i l = text_cmp l.text l.other ≡ text_cmp (drop l.i l.text) (drop l.i l.other)
