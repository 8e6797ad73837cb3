use Rattle.std.proofs.Common.{◌≡◌, ◌++◌, string_bytes}
use Rattle.ovl_layer.specs.TextPaths.{slashed}
use Rattle.ovl_merge.proofs.entries.path_text.Given as goal

-- the text so far, with that of the names that are left
abbrev pub invariant-loop-name : goal.invariant-loop-name
invariant-loop-name l = string_bytes l.text ++ slashed l.name-iterator ≡ slashed l.path
