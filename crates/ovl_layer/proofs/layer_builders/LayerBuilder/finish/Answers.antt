use Rattle.std.proofs.Common.{◌≡◌, ◌∙◌, ◌++◌, [], List, sym, ap, subst}
use Rattle.std.proofs.lemmas.List.{append-nil}
use Rattle.ovl_layer.specs.Layers.{Entries, IsLayer}
use Rattle.ovl_layer.specs.LayerTrees.{NodeView, entries_from, entries_of_nodes}
use Rattle.ovl_layer.specs.LayerBuilders.{entries_of_open}
use Rattle.ovl_layer.proofs.OpenLemmas.{nodes_ascend, ascends-below}
use Rattle.ovl_layer.proofs.LayerBuilderLemmas.{no_names}
use Rattle.ovl_layer.proofs.layer_builders.LayerBuilder.finish.Goals as goal

pub invariant_of-result : goal.invariant_of-result
invariant_of-result c =
    let nodes : List NodeView = c.close.new.self.children.items in
    let none : c.close.new.self.open_dirs.items ≡ [] = no_names c.close.new.self.open_dirs.items c.in_ok-close.ensures.open_dirs in
    let same = sym (c.in_ok-close.ensures.entries)
    ∙ ap (λ (below : Entries). entries_from c.close.new.self.inode below)
    (ap (λ (open_dirs : List NodeView). entries_of_nodes nodes ++ entries_of_open open_dirs) none ∙ append-nil (entries_of_nodes nodes)) in
    let is = subst IsLayer same c.requires.layer in
    (nodes_ascend nodes (ascends-below c.close.new.self.inode (entries_of_nodes nodes) is.in_order), is)

pub returns : goal.returns
returns c =
    let nodes : List NodeView = c.close.new.self.children.items in
    let none : c.close.new.self.open_dirs.items ≡ [] = no_names c.close.new.self.open_dirs.items c.in_ok-close.ensures.open_dirs in
    ap (λ (below : Entries). entries_from c.close.new.self.inode below)
    (sym (append-nil (entries_of_nodes nodes)) ∙ ap (λ (open_dirs : List NodeView). entries_of_nodes nodes ++ entries_of_open open_dirs) (sym none))
    ∙ c.in_ok-close.ensures.entries
