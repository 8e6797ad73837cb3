use Rattle.std.proofs.Common.{◌≡◌, ◌∙◌, ◌++◌, ◌∷◌, [], sym, ap, map, subst}
use Rattle.ovl_inode.specs.declared.inodes.Inode.{Inode}
use Rattle.ovl_layer.specs.Layers.{IsLayer}
use Rattle.ovl_layer.specs.LayerTrees.{NodeView, entries_from, entries_of_nodes}
use Rattle.ovl_layer.specs.LayerBuilders.{entries_of_open}
use Rattle.ovl_layer.proofs.LayerLemmas.{IsLayer-root}
use Rattle.ovl_layer.proofs.layer_builders.LayerBuilder.start.Goals as goal

pub returns-clause-builder : goal.returns-clause-builder
returns-clause-builder c =
    let inode : Inode = c.args.inode in
    let alone : entries_from inode (entries_of_nodes c.new.result.items ++ entries_of_open c.new-2.result.items) ≡ ([], inode) ∷ [] =
    λ j. entries_from inode (entries_of_nodes (c.new.ensures.items j) ++ entries_of_open (c.new-2.ensures.items j)) in
    record {
      layer = subst IsLayer (sym alone) (IsLayer-root inode c.requires.directory c.requires.sound c.requires.unescaped);
      spelled = ap (map (λ (node : NodeView). node.name)) c.new-2.ensures.items ∙ sym c.root.ensures;
      ends = ([], inode, alone ∙ (λ j. (sym c.root.ensures j, inode) ∷ []));
    }
