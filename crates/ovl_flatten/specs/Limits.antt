-- When a flattened layer passes the limits of a manifest.
use Rattle.ovl_lookup.specs.Stacks.{StackView}
use Rattle.ovl_rewrite.specs.Limits.{PassesLimits}
use Rattle.ovl_flatten.specs.Flatten.{flattened_at}

-- the flattened layer of a stack does
abbrev pub PassesFlattenLimit : StackView → Type 0
PassesFlattenLimit stack = PassesLimits (flattened_at stack)
