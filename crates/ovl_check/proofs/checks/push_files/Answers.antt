use Rattle.std.proofs.Common.{◌≡◌, ◌∙◌, ◌++◌, arith, Bool, Some, List, length, get_or, sym, ap, subst, take_all}
use Rattle.std.specs.List.{flat_map}
use Rattle.ovl_names.specs.Paths.{child_path}
use Rattle.ovl_layer.specs.Layers.{entry_at}
use Rattle.ovl_check.specs.declared.directories.Child.{Child}
use Rattle.ovl_check.specs.declared.findings.Finding.{Finding}
use Rattle.ovl_check.specs.Checks.{layer_at}
use Rattle.ovl_check.specs.CheckViews.{check_view}
use Rattle.ovl_check.specs.Facts.{IsChildMarked, asks, child_seen, found_at_child}
use Rattle.ovl_check.proofs.HeldLemmas.{child-there, any-at}
use Rattle.ovl_check.proofs.ListFacts.{flat-more}
use Rattle.ovl_check.proofs.checks.push_files.Goals as goal

pub push_file-requires-clause-entry : goal.push_file-requires-clause-entry
push_file-requires-clause-entry c =
    let layer = layer_at c.args.work.now.stack.now c.args.layer in
    let directory = c.args.directory.now in
    let same = c.deref-child-items.ensures.value in
    let is : c.child-item.result ≡ get_or directory.children.items c.loop-child.child-index c.child-item.result = c.child-item.is ∙ ap (λ (children : List Child). get_or children c.loop-child.child-index c.child-item.result) same in
    subst (λ (child : Child). entry_at layer (child_path directory.path.now child.name.now) ≡ Some child.inode.now) (sym is)
    (child-there layer directory.path.now directory.children.items c.requires.gathered.children c.loop-child.child-index c.child-item.result (omega (arith, ap length same)))

pub push_file-requires-clause-marked : goal.push_file-requires-clause-marked
push_file-requires-clause-marked c =
    let same = c.deref-child-items.ensures.value in
    let is : c.child-item.result ≡ get_or c.args.directory.now.children.items c.loop-child.child-index c.child-item.result = c.child-item.is ∙ ap (λ (children : List Child). get_or children c.loop-child.child-index c.child-item.result) same in
    subst IsChildMarked (sym is) (c.requires.gathered.marks c.loop-child.child-index c.child-item.result (omega (arith, ap length same)))

pub push_file-requires-clause-below : goal.push_file-requires-clause-below
push_file-requires-clause-below c opened asked =
    let test : Child → Bool = λ child. asks child.mark.now in
    let same = c.deref-child-items.ensures.value in
    let is : c.child-item.result ≡ get_or c.args.directory.now.children.items c.loop-child.child-index c.child-item.result = c.child-item.is ∙ ap (λ (children : List Child). get_or children c.loop-child.child-index c.child-item.result) same in
    c.requires.below opened
    (any-at test c.args.directory.now.children.items c.loop-child.child-index c.child-item.result (omega (arith, ap length same)) (ap test (sym is) ∙ asked))

pub loop-child-preserved : goal.loop-child-preserved
loop-child-preserved c =
    let found : Child → List Finding = λ child. found_at_child (check_view c.args.work.now) c.args.layer c.args.directory.now.path.now (child_seen child) in
    let same = c.deref-child-items.ensures.value in
    let is : c.child-item.result ≡ get_or c.args.directory.now.children.items c.loop-child.child-index c.child-item.result = c.child-item.is ∙ ap (λ (children : List Child). get_or children c.loop-child.child-index c.child-item.result) same in
    flat-more found c.args.directory.now.children.items c.loop-child.child-index c.child-item.result c.args.findings.now.items c.loop-child.findings.items c.push_file.new.findings.items
    (omega (arith, ap length same)) c.loop-child.invariant (c.in_ok-push_file.ensures ∙ ap (λ child. c.loop-child.findings.items ++ found child) is)

pub returns : goal.returns
returns c =
    let found : Child → List Finding = λ child. found_at_child (check_view c.args.work.now) c.args.layer c.args.directory.now.path.now (child_seen child) in
    c.loop-child.invariant
    ∙ ap (λ (children : List Child). c.args.findings.now.items ++ flat_map found children) (take_all c.loop-child.child-index c.args.directory.now.children.items (omega (arith, ap length c.deref-child-items.ensures.value)))
