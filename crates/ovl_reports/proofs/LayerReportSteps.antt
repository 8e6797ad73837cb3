-- The lines of a new layer, node by node.
use Rattle.std.proofs.Common.{◌≡◌, true, refl, ℕ, ◌+◌, ◌<◌, List, [], ◌∷◌, ◌++◌, length, get_or, take, ◌∙◌, sym, ap, arith, append-nil, length-append}
use Rattle.std.specs.Prelude.{codes, ◌==◌}
use Rattle.std.proofs.lemmas.Bool.Decides.{nat_tests}
use Rattle.std.proofs.lemmas.List.{length-map}
use Rattle.ovl_names.specs.Names.{PathName}
use Rattle.ovl_names.specs.Paths.{PathNames, child_path}
use Rattle.ovl_names.specs.Escapes.{escaped}
use Rattle.ovl_inode.specs.declared.inodes.Inode.{Inode}
use Rattle.ovl_inode.specs.Marks.{mark_of}
use Rattle.ovl_layer.specs.Layers.{Entry, Entries}
use Rattle.ovl_layer.specs.LayerTrees.{NodeView, under, entries_from, entries_of_nodes}
use Rattle.ovl_layer.proofs.NodeLemmas.{entries_of_nodes-more}
use Rattle.ovl_reports.specs.Reports.{shown_names}
use Rattle.ovl_reports.specs.LayerReports.{marked_line, entry_line}
use Rattle.ovl_reports.proofs.ListingSteps.{shown-child}

-- a node more has as many entries more as are at and under it
pub one_more_counted : (nodes : List NodeView) (k : ℕ) (node : NodeView) → k < length nodes → node ≡ get_or nodes k node
    → length (entries_of_nodes (take (k + 1) nodes)) ≡ length (entries_of_nodes (take k nodes)) + length (entries_from node.inode node.below)
one_more_counted nodes k node inside is =
    let done : Entries = entries_of_nodes (take k nodes) in
    let own : Entries = under node.name (entries_from node.inode node.below) in
    omega (arith, ap length (entries_of_nodes-more nodes k node inside is), length-append done own, length-map {B = Entry} (entries_from node.inode node.below) (λ entry. (node.name ∷ entry.0, entry.1)))

-- the line of an entry in a directory, by what is before its name
pub line_in : (dir : PathNames) (name : PathName) (inode : Inode) → marked_line (mark_of inode) (shown_names dir ++ (codes "/" ++ escaped name)) ≡ entry_line (child_path dir name, inode)
line_in [] name inode = ap (marked_line (mark_of inode)) (sym (shown-child [] name))
line_in (first ∷ dir) name inode = ap (marked_line (mark_of inode)) (sym (shown-child (first ∷ dir) name))

-- the line of a node, by what is before its name
pub told : (old new above : List ℕ) (dir : PathNames) (name : PathName) (inode : Inode) → above ≡ shown_names dir
    → new ≡ old ++ marked_line (mark_of inode) (above ++ (codes "/" ++ escaped name)) → new ≡ old ++ entry_line (child_path dir name ++ [], inode)
told old new above dir name inode text line =
    line
    ∙ ((λ j. old ++ marked_line (mark_of inode) (text j ++ (codes "/" ++ escaped name)))
    ∙ ap (λ (l : List ℕ). old ++ l) (line_in dir name inode ∙ ap (λ (p : PathNames). entry_line (p, inode)) (sym (append-nil (child_path dir name)))))

-- where a node has no children, nothing lies below it
pub nothing_below : (nodes : List NodeView) → true ≡ (length nodes == 0) → entries_of_nodes nodes ≡ []
nothing_below [] is = refl
nothing_below (node ∷ nodes) is = let none : length (node ∷ nodes) ≡ 0 = grind (arith, nat_tests, is) in absurd (omega (arith, none))
