use Rattle.std.proofs.Common.{◌≡◌, ◌++◌, ◌-◌, take}
use Rattle.std.specs.List.{flat_map}
use Rattle.ovl_names.specs.Paths.{child_path}
use Rattle.ovl_lookup.specs.Passes.{looks_from, looks_under, looks_placed}
use Rattle.ovl_lookup.proofs.stacks.Stack.+push_looks.Given as goal

abbrev pub decreases-push_looks : goal.decreases-push_looks
decreases-push_looks l = l.depth

-- the looks at and under the names so far
abbrev pub invariant-loop-name : goal.invariant-loop-name
invariant-loop-name l =
    l.looks.items ≡ l.initial.looks.items ++ looks_placed l.path (flat_map (λ name. looks_under name (looks_from (l.depth - 1) l.self (child_path l.path name))) (take l.name-index l.name-items))
