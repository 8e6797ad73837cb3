use Rattle.std.proofs.Common.{◌≡◌, ◌++◌}
use Rattle.ovl_deref.specs.Deref.{full_attributes}
use Rattle.ovl_deref.proofs.inodes.full_attrs.Given as goal

abbrev pub invariant-loop-name : goal.invariant-loop-name
invariant-loop-name l = l.full ++ full_attributes l.name-iterator ≡ full_attributes l.attrs
