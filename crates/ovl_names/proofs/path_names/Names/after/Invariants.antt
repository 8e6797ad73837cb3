use Rattle.std.proofs.Common.{◌≡◌, drop}
use Rattle.ovl_names.proofs.path_names.Names.after.Given as goal

abbrev pub invariant-loop : goal.invariant-loop
invariant-loop l = l.names ≡ drop l.counter l.self
