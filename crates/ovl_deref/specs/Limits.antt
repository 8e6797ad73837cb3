-- When a dereferenced layer passes the limits of a manifest.
use Rattle.ovl_lookup.specs.Stacks.{StackView}
use Rattle.ovl_rewrite.specs.Limits.{PassesLimits}
use Rattle.ovl_deref.specs.Directories.{new_at}

-- the new topmost layer of a stack does
abbrev pub PassesDerefLimit : StackView → Type 0
PassesDerefLimit stack = PassesLimits (new_at stack)
