use Rattle.std.proofs.Common.{◌≡◌, ◌≤◌, ◌-◌, length, take}
use Rattle.ovl_names.proofs.path_names.Names.first.Given as goal

abbrev pub invariant-loop : goal.invariant-loop
invariant-loop l = record {
  names : l.names ≡ take (length l.self - (l.counter - l.count)) l.self;
  still : l.end ≤ l.count → l.counter ≡ l.count;
}
