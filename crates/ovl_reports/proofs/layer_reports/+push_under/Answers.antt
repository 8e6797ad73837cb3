use Rattle.std.proofs.Common.{rules, ◌≡◌, ◌++◌, [], ◌∙◌, ℕ, List, length, take, string_bytes, sym, ap, arith, append_assoc, append-nil}
use Rattle.std.specs.Prelude.{codes}
use Rattle.std.specs.List.{flat_map}
use Rattle.std.proofs.lemmas.List.{take_all}
use Rattle.std.proofs.lemmas.List.Concat.{flat_map-append}
use Rattle.ovl_names.specs.Paths.{PathNames, child_path}
use Rattle.ovl_names.specs.Escapes.{escaped}
use Rattle.ovl_layer.specs.Layers.{Entries}
use Rattle.ovl_layer.specs.LayerTrees.{NodeView, entries_of_nodes, under, entries_from, placed}
use Rattle.ovl_layer.proofs.NodeLemmas.{entries_of_nodes-more, fewer_below, placed-under, placed-append}
use Rattle.ovl_reports.specs.Reports.{shown_names}
use Rattle.ovl_reports.specs.LayerReports.{entry_line}
use Rattle.ovl_reports.proofs.ListingSteps.{text-child}
use Rattle.ovl_reports.proofs.LayerReportSteps.{nothing_below, one_more_counted, told}
use Rattle.ovl_reports.proofs.layer_reports.+push_under.Goals as goal

pub push_under-requires : goal.push_under-requires
push_under-requires t c =
    let fewer = fewer_below c.children-children.result.now c.loop-child.child-index c.child-item.result c.loop-child-test.true c.child-item.is in
    let count = ap length c.children-children.ensures in
    (omega (arith, fewer, count), tt)

pub loop-child-preserved : goal.loop-child-preserved
loop-child-preserved t c =
    let named : string_bytes c.in_ok-path.path ≡ c.args.above.now ++ (codes "/" ++ escaped c.args.node.now.name) = search rules in
    let nodes : List NodeView = c.children-children.result.now in
    let child : NodeView = c.child-item.result in
    let done : Entries = entries_of_nodes (take c.loop-child.child-index nodes) in
    let own : Entries = under child.name (entries_from child.inode child.below) in
    let before : List ℕ = string_bytes c.push_counted.new.report in
    let more = entries_of_nodes-more nodes c.loop-child.child-index child c.loop-child-test.true c.child-item.is in
    let counted = one_more_counted nodes c.loop-child.child-index child c.loop-child-test.true c.child-item.is in
    record {
      lines = λ dir text.
          let path : PathNames = child_path dir c.args.node.now.name in
          let there : c.as_str-in-loop-child.result.now ≡ shown_names path =
          c.as_str-in-loop-child.ensures.value ∙ (named ∙ (ap (λ (t : List ℕ). t ++ (codes "/" ++ escaped c.args.node.now.name)) text ∙ sym (text-child dir c.args.node.now.name))) in
          let below = sym (placed-under path child.name (entries_from child.inode child.below)) in
          c.in_ok-push_under.ensures.lines path there
          ∙ ((λ j. c.loop-child.invariant.lines dir text j ++ flat_map entry_line (below j))
          ∙ (append_assoc before (flat_map entry_line (placed path done)) (flat_map entry_line (placed path own))
          ∙ ap (λ (ls : List ℕ). before ++ ls)
          (sym (flat_map-append entry_line (placed path done) (placed path own))
          ∙ ap (flat_map entry_line) (sym (placed-append path done own) ∙ ap (placed path) (sym more)))));
      count = omega (arith, c.in_ok-push_under.ensures.count, c.loop-child.invariant.count, counted);
    }

pub returns-then-is_empty-clause-lines : goal.returns-then-is_empty-clause-lines
returns-then-is_empty-clause-lines t c dir text =
    let name = c.args.node.now.name in
    let path : PathNames = child_path dir name in
    let own : List ℕ = entry_line (path ++ [], c.args.node.now.inode) in
    let none : [] ≡ c.args.node.now.below = sym (nothing_below c.children-children.result.now c.if-is_empty.ensures) ∙ c.children-children.ensures in
    let line = told (string_bytes c.args.report.now) (string_bytes c.push_counted.new.report) c.args.above.now dir name c.args.node.now.inode
    text c.in_ok-push_counted.ensures.line in
    line
    ∙ (ap (λ (l : List ℕ). string_bytes c.args.report.now ++ l) (sym (append-nil own))
    ∙ (λ j. string_bytes c.args.report.now ++ flat_map entry_line (placed path (entries_from c.args.node.now.inode (none j)))))

pub returns-then-is_empty-clause-count : goal.returns-then-is_empty-clause-count
returns-then-is_empty-clause-count t c =
    let none = sym (nothing_below c.children-children.result.now c.if-is_empty.ensures) ∙ c.children-children.ensures in
    omega (arith, ap length none, c.in_ok-push_counted.ensures.count)

pub returns-clause-lines : goal.returns-clause-lines
returns-clause-lines t c dir text =
    let nodes : List NodeView = c.children-children.result.now in
    let name = c.args.node.now.name in
    let path : PathNames = child_path dir name in
    let seen : entries_of_nodes (take c.loop-child.child-index nodes) ≡ c.args.node.now.below = ap entries_of_nodes (take_all c.loop-child.child-index nodes c.loop-child-test.false) ∙ c.children-children.ensures in
    let line = told (string_bytes c.args.report.now) (string_bytes c.push_counted.new.report) c.args.above.now dir name c.args.node.now.inode
    text c.in_ok-push_counted.ensures.line in
    c.loop-child.invariant.lines dir text
    ∙ ((λ j. line j ++ flat_map entry_line (placed path (seen j)))
    ∙ append_assoc (string_bytes c.args.report.now) (entry_line (path ++ [], c.args.node.now.inode)) (flat_map entry_line (placed path c.args.node.now.below)))

pub returns-clause-count : goal.returns-clause-count
returns-clause-count t c =
    let nodes : List NodeView = c.children-children.result.now in
    let seen : entries_of_nodes (take c.loop-child.child-index nodes) ≡ c.args.node.now.below = ap entries_of_nodes (take_all c.loop-child.child-index nodes c.loop-child-test.false) ∙ c.children-children.ensures in
    omega (arith, c.loop-child.invariant.count, ap length seen, c.in_ok-push_counted.ensures.count)
