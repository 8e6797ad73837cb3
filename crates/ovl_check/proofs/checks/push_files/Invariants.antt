use Rattle.std.proofs.Common.{◌≡◌, ◌++◌, take}
use Rattle.std.specs.List.{flat_map}
use Rattle.ovl_check.specs.CheckViews.{check_view}
use Rattle.ovl_check.specs.Facts.{child_seen, found_at_child}
use Rattle.ovl_check.proofs.checks.push_files.Given as goal

abbrev pub invariant-loop-child : goal.invariant-loop-child
invariant-loop-child l =
    l.findings.items
    ≡ l.initial.findings.items
    ++ flat_map (λ child. found_at_child (check_view l.fn.work) l.fn.layer l.fn.directory.path.now (child_seen child)) (take l.child-index l.fn.directory.children.items)
