use Rattle.std.proofs.Common.{◌≡◌}
use Rattle.ovl_inode.specs.Equal.{attributes_eq}
use Rattle.ovl_inode.proofs.attributes.AttrsPartialEq.eq.Given as goal

-- the attributes that are left are the same where all are
abbrev pub invariant-loop-name : goal.invariant-loop-name
invariant-loop-name l = attributes_eq l.name-iterator l.others ≡ attributes_eq l.self l.other
