use Rattle.std.proofs.Common.{◌≡◌, ◌++◌}
use Rattle.ovl_inode.specs.Attributes.{visible_attributes}
use Rattle.ovl_inode.proofs.attributes.Attrs.visible.Given as goal

abbrev pub invariant-loop-name : goal.invariant-loop-name
invariant-loop-name l = l.shown ++ visible_attributes l.name-iterator ≡ visible_attributes l.self
