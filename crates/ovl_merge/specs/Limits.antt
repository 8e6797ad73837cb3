-- When the new lower layer of a merge passes the limits of a manifest.
use Rattle.ovl_rewrite.specs.Limits.{PassesLimits}
use Rattle.ovl_rewrite.specs.declared.faults.RewriteFault.{RewriteFault}
use Rattle.ovl_rewrite.specs.declared.faults.RewriteFault.TheVariants.{LimitOut as LimitPassed, Memory as NoMemory}
use Rattle.ovl_merge.specs.declared.faults.MergeFault.{MergeFault}
use Rattle.ovl_merge.specs.declared.faults.MergeFault.TheVariants.{LimitOut, Memory}
use Rattle.ovl_merge.specs.Places.{Merge}
use Rattle.ovl_merge.specs.MergeDown.{merged_entry}

-- the new lower layer does
abbrev pub PassesMergeLimit : Merge → Type 0
PassesMergeLimit m = PassesLimits (merged_entry m)

-- why there is no merge where a new layer isn't given
abbrev pub refused : RewriteFault → MergeFault
refused LimitPassed = LimitOut
refused NoMemory = Memory
