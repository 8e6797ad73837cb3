use Rattle.std.proofs.Common.{◌≡◌, ◌+◌, ◌*◌, ◌≤◌, true, length}
use Rattle.ovl_names.specs.Paths.{has_names}
use Rattle.ovl_layer.specs.TextPaths.{slashed}
use Rattle.ovl_layer.proofs.entries.slashed_len.Given as goal

-- the bytes of the names so far and of those that are left, each with its separator
abbrev pub invariant-loop-name : goal.invariant-loop-name
invariant-loop-name l = record {
  counted : l.bytes + length (slashed l.name-iterator) ≡ length (slashed l.path);
  small : l.bytes + 256 * length l.name-iterator ≤ 256 * length l.path;
  named : has_names l.name-iterator ≡ true;
}
