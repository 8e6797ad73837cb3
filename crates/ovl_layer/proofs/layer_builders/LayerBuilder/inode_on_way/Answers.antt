use Rattle.std.proofs.Common.{◌≡◌, ◌∙◌, ◌<◌, ◌-◌, suc, sym, ap, arith, length}
use Rattle.ovl_layer.specs.LayerTrees.{NodeView}
use Rattle.ovl_layer.specs.LayerBuilders.{inode_on_way}
use Rattle.ovl_layer.proofs.OpenLemmas.{inode_on_way-open}
use Rattle.ovl_layer.proofs.layer_builders.LayerBuilder.inode_on_way.Goals as goal

pub returns-else-depth-eq0 : goal.returns-else-depth-eq0
returns-else-depth-eq0 c =
    let next : c.args.depth ≡ suc (c.args.depth - 1) = omega (arith, c.if-depth-eq0.false) in
    let inside : c.args.depth - 1 < length c.args.self.now.open_dirs.items = omega (arith, c.requires, c.args.self.now.open_dirs.ok.0, c.if-depth-eq0.false) in
    ap (λ (node : NodeView). node.inode) (c.behind-self.view_is ∙ c.index.ensures)
    ∙ sym (ap (inode_on_way c.args.self.now.inode c.args.self.now.open_dirs.items) next
    ∙ inode_on_way-open c.args.self.now.inode c.args.self.now.open_dirs.items (c.args.depth - 1) c.index.result.now inside)
